use Rattle.std.proofs.Common.{rules, ◌+◌, ◌<◌, ◌∷◌, length, drop, refl, sym, ap, ◌∙◌, arith}
use Rattle.intmap_table.specs.Tables.Nodes.{rows_in}
use Rattle.intmap_table.specs.Tables.Reached.{IsPosition}
use Rattle.intmap_table.specs.Tables.Slots.{joined, count_before}
use Rattle.intmap_table.proofs.Tables.CursorLemmas.{before-here, drop-here}
use Rattle.intmap_table.proofs.Tables.ReachedLemmas.{IsOn, before-slot, row-limit, Position-end, Position-filled, Position-node, Position-slot, Position-within}
use Rattle.intmap_table.proofs.table.slots.reached.PairsFrom.next.Goals as goal
use Rattle.intmap_table.proofs.table.slots.reached.PairsFrom.next.Goals.{In-Some, In-Some-next_in, In-Some-get}

-- the next pair is that of a node, and the cursor is behind it
node : (g : _) (c : In-Some g) → IsOn c.self.inside.slots.now c.self.inside.pool.now.nodes c.self.inside.bits.now c.self.inside.at.slot c.self.inside.at.place c.in-Some.pair.now
    × IsPosition c.self.inside.slots.now c.self.inside.pool.now.nodes c.self.inside.bits.now (record { slot = c.self.inside.at.slot; place = c.self.inside.at.place + 1 }) c.in-Some.next c.self.inside.from c.self.inside.left.at c.self.inside.left.word
node g c =
    Position-node c.self.inside.slots.now c.self.inside.pool.now.nodes c.self.inside.bits.now c.self.inside.at c.self.inside.link c.self.inside.from c.self.inside.left.at c.self.inside.left.word c.self.invariant
    c.in-Some.next c.in-Some.pair.now c.in-Some.ensures.some

-- the next pair is the first one of a slot
first : (g : _) (c : In-Some-get g) → IsOn c.self.inside.slots.now c.self.inside.pool.now.nodes c.self.inside.bits.now c.in-Some-next_in.slot 0 c.in-Some-get.first.now
    × IsPosition c.self.inside.slots.now c.self.inside.pool.now.nodes c.self.inside.bits.now (record { slot = c.in-Some-next_in.slot; place = 1 }) c.in-Some-get.next (c.in-Some-next_in.slot + 1) c.next_in.new.left.at c.next_in.new.left.word
first g c =
    Position-slot c.self.inside.slots.now c.self.inside.pool.now.nodes c.self.inside.bits.now c.self.inside.at c.self.inside.link c.self.inside.from c.self.inside.left.at c.self.inside.left.word c.self.invariant
    c.in_default.ensures.none c.in-Some-next_in.slot c.in-Some-next_in.ensures.some c.index-self-slot.result c.in-Some-get.next c.in-Some-get.first.now _ _ c.in-Some-get.ensures.some c.in-Some-next_in.ensures.left

-- it is one of the slots
within : (g : _) (c : In-Some-next_in g) → c.in-Some-next_in.slot < length c.self.inside.slots.now
within g c =
    Position-within c.self.inside.slots.now c.self.inside.pool.now.nodes c.self.inside.bits.now c.self.inside.at c.self.inside.link c.self.inside.from c.self.inside.left.at c.self.inside.left.word c.self.invariant
    c.in_default.ensures.none c.in-Some-next_in.slot c.in-Some-next_in.ensures.some

pub overflow_add-self : goal.overflow_add-self
overflow_add-self g c =
    let here = (node g (goal.at.overflow_add-self g c).In-Some).0.within in
    let limit = row-limit c.self.inside.slots.now c.self.inside.pool.now.nodes c.self.inside.at.slot c.self.invariant.chains in
    omega (arith, here, limit)

pub invariant_of-self : goal.invariant_of-self
invariant_of-self g c = (node g (goal.at.invariant_of-self g c).In-Some).1

pub returns-in-Some-clause-some : goal.returns-in-Some-clause-some
returns-in-Some-clause-some g c =
    let on = (node g (goal.at.returns-in-Some-clause-some g c).In-Some).0 in
    let R = rows_in c.self.inside.slots.now c.self.inside.pool.now.nodes in let i = c.self.inside.at.slot in let j = c.self.inside.at.place in
    rw (← c.self.view_is)
    (drop-here R i j c.in-Some.pair.now on.within ∙ ap (λ p. p ∷ drop (count_before R i (j + 1)) (joined R)) (sym on.is), before-here R i j on.within)

pub returns-in-Some-clause-here : goal.returns-in-Some-clause-here
returns-in-Some-clause-here g c =
    let on = (node g (goal.at.returns-in-Some-clause-here g c).In-Some).0 in rw (← c.self.view_is) (c.self.inside.at.place, refl, on.within, on.is)

pub returns-in_default-next_in-clause-none : goal.returns-in_default-next_in-clause-none
returns-in_default-next_in-clause-none g c =
    rw (← c.self.view_is)
    (Position-end c.self.inside.slots.now c.self.inside.pool.now.nodes c.self.inside.bits.now c.self.inside.at c.self.inside.link c.self.inside.from c.self.inside.left.at c.self.inside.left.word c.self.invariant
    c.in_default.ensures.none c.in_default-next_in.ensures.none)

pub offset_bounds-self-inside-slot : goal.offset_bounds-self-inside-slot
offset_bounds-self-inside-slot g c = let below = within g (goal.at.offset_bounds-self-inside-slot g c).In-Some-next_in in search rules

pub bounds-self-inside-slot : goal.bounds-self-inside-slot
bounds-self-inside-slot g c = within g (goal.at.bounds-self-inside-slot g c).In-Some-next_in

pub unreachable-requires : goal.unreachable-requires
unreachable-requires g c =
    let free = c.in_default-get.ensures.none in
    Position-filled c.self.inside.slots.now c.self.inside.pool.now.nodes c.self.inside.bits.now c.self.inside.at c.self.inside.link c.self.inside.from c.self.inside.left.at c.self.inside.left.word c.self.invariant
    c.in_default.ensures.none c.in-Some-next_in.slot c.in-Some-next_in.ensures.some c.index-self-slot.result free.0 free.1

pub overflow_add-self-2 : goal.overflow_add-self-2
overflow_add-self-2 g c = let below = within g (goal.at.overflow_add-self-2 g c).In-Some-next_in in search rules

pub invariant_of-self-2 : goal.invariant_of-self-2
invariant_of-self-2 g c = (first g (goal.at.invariant_of-self-2 g c).In-Some-get).1

pub returns-clause-some : goal.returns-clause-some
returns-clause-some g c =
    let on = (first g (goal.at.returns-clause-some g c).In-Some-get).0 in
    let R = rows_in c.self.inside.slots.now c.self.inside.pool.now.nodes in let i = c.in-Some-next_in.slot in let was = c.self.inside.at in
    let before = before-slot c.self.inside.slots.now c.self.inside.pool.now.nodes c.self.inside.bits.now was c.self.inside.link c.self.inside.from c.self.inside.left.at c.self.inside.left.word c.self.invariant
    c.in_default.ensures.none i c.in-Some-next_in.ensures.some in
    rw (← c.self.view_is) (
      ap (λ n. drop n (joined R)) (sym before) ∙ drop-here R i 0 c.in-Some-get.first.now on.within ∙ ap (λ p. p ∷ drop (count_before R i 1) (joined R)) (sym on.is),
      before-here R i 0 on.within ∙ ap (λ n. n + 1) before,
    )

pub returns-clause-here : goal.returns-clause-here
returns-clause-here g c = let on = (first g (goal.at.returns-clause-here g c).In-Some-get).0 in rw (← c.self.view_is) (0, refl, on.within, on.is)
