use Rattle.std.proofs.Common.{◌≡◌, ◌<◌, ◌≤◌, false, [], ◌∷◌, length, refl, sym, ap, ◌∙◌, subst, arith}
use Rattle.std.specs.Prelude.{get_or, set, swap_remove}
use Rattle.intmap_table.specs.Classes.{slot_number}
use Rattle.intmap_table.specs.Tables.Nodes.{node_limit, Held, empty, rows_in, row_in, IsChain, IsSlot}
use Rattle.intmap_table.proofs.Tables.FilledLemmas.{row-within}
use Rattle.intmap_table.proofs.Nodes.LinkedLemmas.{HaveRows, IsRow, Row-of, Row-kept, Row-changed, Row-here, home-swap_remove}
use Rattle.intmap_table.proofs.Nodes.PathLemmas.{Chain-beyond, Chain-some}
use Rattle.intmap_table.proofs.Nodes.SlotLemmas.{first_was, slot_is, Take-only}
use Rattle.intmap_table.proofs.table.slots.Slots.take_at.Goals as goal
use Rattle.intmap_table.proofs.table.slots.Slots.take_at.Goals.{In-Some, After-swap_remove_of_several, After-take_only}

module _ (g : _) (c : In-Some g) where
  -- the slot holds a pair
  some : 0 < length (get_or (rows_in c.self.inside.slots.items c.self.inside.pool.nodes) c.args.index [])
  some = let place = rw (← c.self.view_is) at c.requires in omega (arith, place)

  row : IsRow g.K.IntKey.number_of c.self.inside.slots.items c.self.inside.pool (rows_in c.self.inside.slots.items c.self.inside.pool.nodes) c.args.index c.index_mut-slot.result.now
  row = Row-of g.K.IntKey.number_of c.self.inside.slots.items c.self.inside.pool c.self.inside.bits c.self.inside.mask c.args.index c.index_mut-slot.result.now c.self.invariant (row-within (rows_in c.self.inside.slots.items c.self.inside.pool.nodes) c.args.index some) c.index_mut-slot.ensures.value

  -- and others, which its link leads through
  chain : IsChain c.self.inside.pool.nodes c.in-Some.link
  chain = subst (IsSlot c.self.inside.pool.nodes) c.in-Some.ensures.some row.chain

pub swap_remove_of_several-requires-clause-leads : goal.swap_remove_of_several-requires-clause-leads
swap_remove_of_several-requires-clause-leads g c = chain g (goal.at.swap_remove_of_several-requires-clause-leads g c).In-Some

pub swap_remove_of_several-requires-clause-several : goal.swap_remove_of_several-requires-clause-several
swap_remove_of_several-requires-clause-several g c =
    Chain-some c.self.inside.pool.nodes c.in-Some.link (chain g (goal.at.swap_remove_of_several-requires-clause-several g c).In-Some) (omega (arith, c.if-link-lt-NODE_LIMIT.true))

-- the slots with what is left of the row
several : (g : _) (c : After-swap_remove_of_several g) → 0 < length (get_or (rows_in c.self.inside.slots.items c.self.inside.pool.nodes) c.args.index []) → IsRow g.K.IntKey.number_of c.self.inside.slots.items c.self.inside.pool (rows_in c.self.inside.slots.items c.self.inside.pool.nodes) c.args.index c.index_mut-slot.result.now
    → HaveRows g.K.IntKey.number_of (set c.self.inside.slots.items c.args.index c.swap_remove_of_several.new.slot) c.swap_remove_of_several.new.pool c.self.inside.bits c.self.inside.mask
    (set (rows_in c.self.inside.slots.items c.self.inside.pool.nodes) c.args.index (swap_remove (get_or (rows_in c.self.inside.slots.items c.self.inside.pool.nodes) c.args.index []) c.args.place c.swap_remove_of_several.result))
several g c some r =
    let place = rw (← c.self.view_is) at c.requires in
    let len = ap length r.is in
    let told = c.swap_remove_of_several.ensures in let filled = told.filled in
    let left = ap length (sym (ap (row_in c.swap_remove_of_several.new.pool.nodes) filled.2) ∙ told.row.pairs ∙ ap (λ ps. swap_remove ps c.args.place c.swap_remove_of_several.result) r.is) in
    Row-kept g.K.IntKey.number_of c.self.inside.slots.items c.self.inside.pool c.self.inside.bits c.self.inside.mask c.args.index c.index_mut-slot.result.now (λ ps. swap_remove (ps) c.args.place c.swap_remove_of_several.result) c.swap_remove_of_several.new.pool c.swap_remove_of_several.new.slot c.self.invariant r told.row
    (home-swap_remove (λ p. slot_number g.K.IntKey.number_of p.0 (length c.self.inside.slots.items)) c.args.index (row_in c.self.inside.pool.nodes c.index_mut-slot.result.now) c.args.place c.swap_remove_of_several.result r.own (omega (arith, place, len)))
    some (omega (arith, left))

pub invariant_of-self : goal.invariant_of-self
invariant_of-self g c =
    let at = (goal.at.invariant_of-self g c).In-Some in
    (several g (goal.at.invariant_of-self g c).After-swap_remove_of_several (some g at) (row g at)).are

pub returns-then-link-lt-NODE_LIMIT-clause-rows : goal.returns-then-link-lt-NODE_LIMIT-clause-rows
returns-then-link-lt-NODE_LIMIT-clause-rows g c =
    let at = (goal.at.returns-then-link-lt-NODE_LIMIT-clause-rows g c).In-Some in
    rw (← c.self.view_is) (several g (goal.at.returns-then-link-lt-NODE_LIMIT-clause-rows g c).After-swap_remove_of_several (some g at) (row g at)).rows

pub returns-then-link-lt-NODE_LIMIT-clause-ready : goal.returns-then-link-lt-NODE_LIMIT-clause-ready
returns-then-link-lt-NODE_LIMIT-clause-ready g c =
    let at = (goal.at.returns-then-link-lt-NODE_LIMIT-clause-ready g c).In-Some in
    let ready = c.swap_remove_of_several.ensures.ready in
    let held = (several g (goal.at.returns-then-link-lt-NODE_LIMIT-clause-ready g c).After-swap_remove_of_several (some g at) (row g at)).are.linked.held in
    λ _. omega (arith, ready, held)

-- the only pair of a slot
alone : (g : _) (c : After-take_only g) → c.index_mut-slot.result.now ≡ Held c.in-Some.link c.take_only.result
alone g c =
    let pair = c.take_only.ensures.pair in
    c.in-Some.ensures.some ∙ ap (λ p. Held c.in-Some.link p) (sym (first_was c.index_mut-slot.result.now c.in-Some.link c.in-Some.field-0-1.now c.take_only.result pair.0 c.in-Some.ensures.some pair.1))

only : (g : _) (c : After-take_only g) → node_limit ≤ c.in-Some.link → IsChain c.self.inside.pool.nodes c.in-Some.link → IsRow g.K.IntKey.number_of c.self.inside.slots.items c.self.inside.pool (rows_in c.self.inside.slots.items c.self.inside.pool.nodes) c.args.index c.index_mut-slot.result.now
    → get_or (rows_in c.self.inside.slots.items c.self.inside.pool.nodes) c.args.index [] ≡ c.take_only.result ∷ []
only g c last chain r = sym r.is ∙ ap (row_in c.self.inside.pool.nodes) (alone g c) ∙ ap (λ ps. c.take_only.result ∷ ps) (Chain-beyond c.self.inside.pool.nodes c.in-Some.link chain last)

-- the slots without it
gone : (g : _) (c : After-take_only g) → node_limit ≤ c.in-Some.link → IsChain c.self.inside.pool.nodes c.in-Some.link → 0 < length (get_or (rows_in c.self.inside.slots.items c.self.inside.pool.nodes) c.args.index [])
    → IsRow g.K.IntKey.number_of c.self.inside.slots.items c.self.inside.pool (rows_in c.self.inside.slots.items c.self.inside.pool.nodes) c.args.index c.index_mut-slot.result.now
    → HaveRows g.K.IntKey.number_of (set c.self.inside.slots.items c.args.index empty) c.self.inside.pool (set c.self.inside.bits c.args.index false) c.self.inside.mask
    (set (rows_in c.self.inside.slots.items c.self.inside.pool.nodes) c.args.index (swap_remove (get_or (rows_in c.self.inside.slots.items c.self.inside.pool.nodes) c.args.index []) c.args.place c.take_only.result))
gone g c last chain some r =
    let place = rw (← c.self.view_is) at c.requires in
    let len = ap length r.is in
    let row = ap length (ap (row_in c.self.inside.pool.nodes) (alone g c)) in
    let a = c.self.inside.pool in let l = c.in-Some.link in let x = c.take_only.result in
    Row-changed g.K.IntKey.number_of c.self.inside.slots.items a c.self.inside.bits c.self.inside.mask c.args.index c.index_mut-slot.result.now (λ ps. swap_remove (ps) c.args.place x) a empty c.self.invariant r
    (slot_is a (Held l x) empty (swap_remove (row_in a.nodes (Held l x)) c.args.place x) (swap_remove (row_in a.nodes c.index_mut-slot.result.now) c.args.place x) a c.index_mut-slot.result.now empty
    (Take-only a l x c.args.place chain last (omega (arith, place, len, row))) (alone g c) (ap (λ s. swap_remove (row_in a.nodes s) c.args.place x) (alone g c)) refl)
    (home-swap_remove (λ p. slot_number g.K.IntKey.number_of p.0 (length c.self.inside.slots.items)) c.args.index (row_in a.nodes c.index_mut-slot.result.now) c.args.place x r.own (omega (arith, place, len)))
    some

pub invariant_of-self-2 : goal.invariant_of-self-2
invariant_of-self-2 g c =
    let at = (goal.at.invariant_of-self-2 g c).In-Some in
    rw (c.take_only.ensures.bits, c.take_only.ensures.slot)
    (gone g (goal.at.invariant_of-self-2 g c).After-take_only c.if-link-lt-NODE_LIMIT.false (chain g at) (some g at) (row g at)).are

pub returns-clause-value : goal.returns-clause-value
returns-clause-value g c =
    let at = (goal.at.returns-clause-value g c).In-Some in
    let is = only g (goal.at.returns-clause-value g c).After-take_only c.if-link-lt-NODE_LIMIT.false (chain g at) (row g at) in
    let place = rw (← c.self.view_is) at c.requires in
    let len = ap length is in
    let first : c.args.place ≡ 0 = omega (arith, place, len) in
    rw (← c.self.view_is) (sym (ap (λ ps. get_or ps c.args.place c.take_only.result) is ∙ ap (λ k. get_or (c.take_only.result ∷ []) k c.take_only.result) first))

pub returns-clause-rows : goal.returns-clause-rows
returns-clause-rows g c =
    let at = (goal.at.returns-clause-rows g c).In-Some in
    rw (← c.self.view_is, c.take_only.ensures.slot)
    (gone g (goal.at.returns-clause-rows g c).After-take_only c.if-link-lt-NODE_LIMIT.false (chain g at) (some g at) (row g at)).rows

pub returns-clause-ready : goal.returns-clause-ready
returns-clause-ready g c =
    let r = row g (goal.at.returns-clause-ready g c).In-Some in
    let here = ap length (Row-here g.K.IntKey.number_of c.self.inside.slots.items c.self.inside.pool c.args.index c.take_only.new.slot r.within ∙ ap (row_in c.self.inside.pool.nodes) c.take_only.ensures.slot) in
    λ filled. absurd (omega (arith, here, filled))
