use Rattle.intmap_table.proofs.Nodes.FreeLemmas.{Pool-set}
use Rattle.intmap_table.proofs.linked.pool.Pool.set_link.Goals as goal

pub invariant_of-self : goal.invariant_of-self
invariant_of-self g c =
    let held = rw (← c.self.view_is) at c.requires.held in
    Pool-set c.self.inside.nodes.items c.args.at held.0 held.1 c.set_link.new.self c.self.inside.free c.self.inside.spare held.2 c.self.invariant
