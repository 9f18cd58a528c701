use Rattle.std.proofs.Common.{◌∙◌, ap, arith}
use Rattle.std.specs.Prelude.{set}
use Rattle.std.proofs.lemmas.List.{length-set}
use Rattle.intmap_table.proofs.Nodes.NodeLemmas.{node_read, held_below}
use Rattle.intmap_table.proofs.Nodes.FreeLemmas.{Frees-fewer, Pool-release}
use Rattle.intmap_table.proofs.linked.pool.Pool.release.Goals as goal

pub overflow_add-self : goal.overflow_add-self
overflow_add-self g c =
    let held = rw (← c.self.view_is) at c.requires in
    let fewer = Frees-fewer c.self.inside.nodes.items c.self.inside.free c.self.inside.spare c.args.at held.0 held.1 c.self.invariant.few c.self.invariant.frees held.2 in
    let few = c.self.invariant.few in
    omega (arith, few, fewer)

pub invariant_of-self : goal.invariant_of-self
invariant_of-self g c =
    let held = rw (← c.self.view_is) at c.requires in
    rw c.release-pair.ensures.node (Pool-release c.self.inside.nodes.items c.args.at held.0 held.1 c.self.inside.free c.self.inside.spare held.2 c.self.invariant)

pub returns : goal.returns
returns g c =
    let held = rw (← c.self.view_is) at c.requires in
    let fewer = Frees-fewer c.self.inside.nodes.items c.self.inside.free c.self.inside.spare c.args.at held.0 held.1 c.self.invariant.few c.self.invariant.frees held.2 in
    let e = length-set c.self.inside.nodes.items c.args.at c.release-pair.new.self in
    rw (← c.self.view_is) (record {
      link = c.release-pair.ensures.pair.0;
      was = node_read c.self.inside.nodes.items c.args.at c.index_mut.result.now (held_below c.self.inside.nodes.items c.args.at held.0 held.1 held.2) c.self.invariant.few c.index_mut.ensures.value ∙ c.release-pair.ensures.pair.1;
      free = c.self.inside.free;
      nodes = ap (set c.self.inside.nodes.items c.args.at) c.release-pair.ensures.node;
      held = omega (arith, fewer, e);
      total = omega (arith, e);
      ready = omega (arith, fewer, e);
    })
