use Rattle.std.proofs.Common.{length, ap, arith}
use Rattle.intmap_table.proofs.Nodes.FreeLemmas.{Frees-few}
use Rattle.intmap_table.proofs.linked.pool.Pool.clear.Goals as goal

pub returns-clause-total : goal.returns-clause-total
returns-clause-total g c =
    let few = Frees-few c.self.inside.nodes.items c.self.inside.free c.self.inside.spare c.self.invariant.few c.self.invariant.frees in
    let none = ap length c.truncate.ensures.items in
    rw (← c.self.view_is) (omega (arith, few, none, c.truncate.ensures.capacity, c.self.invariant.few))
