use Rattle.std.proofs.Common.{◌≡◌, ◌∙◌, sym, ap, arith}
use Rattle.std.specs.Prelude.{set}
use Rattle.std.proofs.lemmas.List.{length-set}
use Rattle.intmap_table.specs.Tables.Nodes.{node_at}
use Rattle.intmap_table.proofs.Nodes.NodeLemmas.{node_read, held_below}
use Rattle.intmap_table.proofs.Nodes.FreeLemmas.{Pool-set}
use Rattle.intmap_table.proofs.linked.pool.Pool+tuple2+Stored+K+Kept+V+A.write.Goals as goal
use Rattle.intmap_table.proofs.linked.pool.Pool+tuple2+Stored+K+Kept+V+A.write.Goals.{After-index_mut}

-- the node that was read
read : (g : _) (c : After-index_mut g) → node_at c.self.inside.nodes.items c.args.at ≡ c.index_mut.result.now
read g c =
    let held = rw (← c.self.view_is) at c.requires in
    node_read c.self.inside.nodes.items c.args.at c.index_mut.result.now (held_below c.self.inside.nodes.items c.args.at held.0 held.1 held.2) c.self.invariant.few c.index_mut.ensures.value

pub write-requires : goal.write-requires
write-requires g c =
    let held = rw (← c.self.view_is) at c.requires in
    (held.0, held.1, sym (read g (goal.at.write-requires g c).After-index_mut) ∙ held.2, held.3)

pub invariant_of-self : goal.invariant_of-self
invariant_of-self g c =
    let held = rw (← c.self.view_is) at c.requires in
    Pool-set c.self.inside.nodes.items c.args.at held.0 held.1 c.write.new.self c.self.inside.free c.self.inside.spare held.2 c.self.invariant

pub returns : goal.returns
returns g c =
    let at = (goal.at.returns g c).After-index_mut in
    let e = length-set c.self.inside.nodes.items c.args.at c.write.new.self in
    let asked = c.write.ensures in
    rw (← c.self.view_is) (
      asked.0,
      asked.1,
      asked.2,
      read g at ∙ asked.3,
      record { nodes = ap (set c.self.inside.nodes.items c.args.at) asked.4; held = omega (arith, e); total = omega (arith, e) },
      asked.5,
    )
