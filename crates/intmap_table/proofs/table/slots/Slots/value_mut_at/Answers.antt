use Rattle.std.proofs.Common.{◌<◌, [], length, get_or, refl, arith}
use Rattle.intmap_table.specs.Tables.Nodes.{rows_in}
use Rattle.intmap_table.proofs.Nodes.LentLemmas.{same_contents, Lent-first, Lent-chain, Lent-node, Lent-in_slot, Lent-in_node, Lent-first_value, Lent-node_value}
use Rattle.intmap_table.proofs.table.slots.Slots.value_mut_at.Goals as goal

pub value_mut-requires : goal.value_mut-requires
value_mut-requires g c =
    let within = rw (← c.self.view_is) at c.requires in
    Lent-first g.K.IntKey.number_of c.self.inside.slots.items c.self.inside.pool c.self.inside.bits c.self.inside.mask c.args.index c.args.place c.index_mut.result.now c.self.invariant c.index_mut.ensures.value within

pub invariant_of-self-lent : goal.invariant_of-self-lent
invariant_of-self-lent g c w =
    let within = rw (← c.self.view_is) at c.requires in
    (Lent-in_slot g.K.IntKey.number_of c.self.inside.slots.items c.self.inside.pool c.self.inside.bits c.self.inside.mask c.args.index c.args.place c.index_mut.result.now c.self.invariant c.index_mut.ensures.value within
    w c.if-place-eq0.true).are

pub returns-then-place-eq0 : goal.returns-then-place-eq0
returns-then-place-eq0 g c =
    let within : c.args.place < length (get_or (rows_in c.self.inside.slots.items c.self.inside.pool.nodes) c.args.index []) = rw (← c.self.view_is) at c.requires in (
      (
        refl,
        λ w. rw (← c.self.view_is) (same_contents _ _ c.self.inside.pool.total
            (Lent-in_slot g.K.IntKey.number_of c.self.inside.slots.items c.self.inside.pool c.self.inside.bits c.self.inside.mask c.args.index c.args.place c.index_mut.result.now c.self.invariant c.index_mut.ensures.value within
            w c.if-place-eq0.true).rows),
      ),
      record {
        writes_back = tt;
        value = λ p. rw (← c.self.view_is) (Lent-first_value g.K.IntKey.number_of c.self.inside.slots.items c.self.inside.pool c.self.inside.bits c.self.inside.mask c.args.index c.args.place c.index_mut.result.now c.self.invariant c.index_mut.ensures.value within
            c.value_mut.result.now c.if-place-eq0.true c.value_mut.ensures.value p);
      },
    )

pub seek-at-requires-clause-leads : goal.seek-at-requires-clause-leads
seek-at-requires-clause-leads g c =
    let within = rw (← c.self.view_is) at c.requires in
    Lent-chain g.K.IntKey.number_of c.self.inside.slots.items c.self.inside.pool c.self.inside.bits c.self.inside.mask c.args.index c.args.place c.index.result.now c.self.invariant c.index.ensures within
    c.in-Some.link c.in-Some.field-0-1.now c.in-Some.ensures.some

pub value_mut-requires-2 : goal.value_mut-requires-2
value_mut-requires-2 g c =
    let within = rw (← c.self.view_is) at c.requires in
    Lent-node g.K.IntKey.number_of c.self.inside.slots.items c.self.inside.pool c.self.inside.bits c.self.inside.mask c.args.index c.args.place c.index.result.now c.self.invariant c.index.ensures within
    c.in-Some.link c.in-Some.field-0-1.now c.seek-at.result c.in-Some.ensures.some (omega (arith, c.if-place-eq0.false)) c.seek-at.ensures

pub invariant_of-self-lent-2 : goal.invariant_of-self-lent-2
invariant_of-self-lent-2 g c w =
    let within = rw (← c.self.view_is) at c.requires in
    let held = c.value_mut-2.ensures.value in
    (Lent-in_node g.K.IntKey.number_of c.self.inside.slots.items c.self.inside.pool c.self.inside.bits c.self.inside.mask c.args.index c.args.place c.index.result.now c.self.invariant c.index.ensures within
    w c.in-Some.link c.in-Some.field-0-1.now c.seek-at.result held.0 held.1 c.in-Some.ensures.some (omega (arith, c.if-place-eq0.false)) c.seek-at.ensures held.2).are

pub returns : goal.returns
returns g c =
    let within : c.args.place < length (get_or (rows_in c.self.inside.slots.items c.self.inside.pool.nodes) c.args.index []) = rw (← c.self.view_is) at c.requires in
    let held = c.value_mut-2.ensures.value in (
      (
        refl,
        λ w. rw (← c.self.view_is) (same_contents _ _ c.self.inside.pool.total
            (Lent-in_node g.K.IntKey.number_of c.self.inside.slots.items c.self.inside.pool c.self.inside.bits c.self.inside.mask c.args.index c.args.place c.index.result.now c.self.invariant c.index.ensures within
            w c.in-Some.link c.in-Some.field-0-1.now c.seek-at.result held.0 held.1 c.in-Some.ensures.some (omega (arith, c.if-place-eq0.false)) c.seek-at.ensures held.2).rows),
      ),
      record {
        writes_back = tt;
        value = λ p. rw (← c.self.view_is) (Lent-node_value g.K.IntKey.number_of c.self.inside.slots.items c.self.inside.pool c.self.inside.bits c.self.inside.mask c.args.index c.args.place c.index.result.now c.self.invariant c.index.ensures within
            c.value_mut-2.result.now c.in-Some.link c.in-Some.field-0-1.now c.seek-at.result c.in-Some.ensures.some (omega (arith, c.if-place-eq0.false)) c.seek-at.ensures held p);
      },
    )
