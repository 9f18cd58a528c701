use Rattle.std.proofs.Common.{refl}
use Rattle.std.specs.Prelude.{min, vec_capacity}
use Rattle.intmap_table.specs.Tables.Nodes.{node_limit, node_with}
use Rattle.intmap_table.proofs.Nodes.FreeLemmas.{Pool-set}
use Rattle.intmap_table.proofs.Nodes.WrittenLemmas.{read_held, read_value, Pool-written}
use Rattle.intmap_table.proofs.linked.pool.Pool+tuple2+Stored+K+X+A.value_mut.Goals as goal

pub value_mut-requires : goal.value_mut-requires
value_mut-requires g c =
    let held = rw (← c.self.view_is) at c.requires in
    (held.0, held.1, read_held c.self.inside.nodes.items c.args.at held.0 held.1 c.index_mut.result.now c.self.invariant.few held.2 c.index_mut.ensures.value)

pub invariant_of-self-lent : goal.invariant_of-self-lent
invariant_of-self-lent g c w =
    let held = rw (← c.self.view_is) at c.requires in
    Pool-set c.self.inside.nodes.items c.args.at held.0 held.1 (node_with c.index_mut.result.now w) c.self.inside.free c.self.inside.spare held.2 c.self.invariant

pub returns : goal.returns
returns g c = (
  (
    refl,
    λ w. rw (← c.self.view_is) (Pool-written c.self.inside.nodes.items c.args.at (rw (← c.self.view_is) at c.requires) c.index_mut.result.now w
        (min (vec_capacity c.self.inside.nodes) node_limit) c.self.inside.spare c.self.invariant.few c.index_mut.ensures.value),
  ),
  record {
    writes_back = tt;
    value =
        let held = rw (← c.self.view_is) at c.requires in
        rw (← c.self.view_is) (read_value c.self.inside.nodes.items c.args.at held.0 held.1 c.index_mut.result.now c.value_mut.result.now c.self.invariant.few held.2 c.index_mut.ensures.value c.value_mut.ensures.value);
  },
)
