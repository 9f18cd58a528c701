use Rattle.std.proofs.Common.{◌≡◌, ◌<◌, ◌≤◌, false, [], ◌∷◌, length, refl, sym, ap, ◌∙◌, subst, arith}
use Rattle.std.specs.Prelude.{get_or, set, drop}
use Rattle.intmap_table.specs.Classes.{slot_number}
use Rattle.intmap_table.specs.Tables.Nodes.{node_limit, Held, empty, chain_of, rows_in, row_in, IsChain, IsSlot}
use Rattle.intmap_table.proofs.Tables.FilledLemmas.{row-within}
use Rattle.intmap_table.proofs.Nodes.LinkedLemmas.{HaveRows, IsRow, Row-of, Row-kept, Row-changed, home_drop}
use Rattle.intmap_table.proofs.Nodes.PathLemmas.{Chain-some}
use Rattle.intmap_table.proofs.Nodes.SlotLemmas.{first_was, slot_is, Front-only}
use Rattle.intmap_table.proofs.table.slots.Slots.take_front.Goals as goal
use Rattle.intmap_table.proofs.table.slots.Slots.take_front.Goals.{In-Some, After-pop_front_of_several, After-take_only}

module _ (g : _) (c : In-Some g) where
  -- the slot holds a pair
  some : 0 < length (get_or (rows_in c.self.inside.slots.items c.self.inside.pool.nodes) c.args.index [])
  some = let place = rw (← c.self.view_is) at c.requires in omega (arith, place)

  row : IsRow g.K.IntKey.number_of c.self.inside.slots.items c.self.inside.pool (rows_in c.self.inside.slots.items c.self.inside.pool.nodes) c.args.index c.index_mut-slot.result.now
  row = Row-of g.K.IntKey.number_of c.self.inside.slots.items c.self.inside.pool c.self.inside.bits c.self.inside.mask c.args.index c.index_mut-slot.result.now c.self.invariant (row-within (rows_in c.self.inside.slots.items c.self.inside.pool.nodes) c.args.index some) c.index_mut-slot.ensures.value

  -- and others, which its link leads through
  chain : IsChain c.self.inside.pool.nodes c.in-Some.link
  chain = subst (IsSlot c.self.inside.pool.nodes) c.in-Some.ensures.some row.chain

pub pop_front_of_several-requires-clause-leads : goal.pop_front_of_several-requires-clause-leads
pop_front_of_several-requires-clause-leads g c = chain g (goal.at.pop_front_of_several-requires-clause-leads g c).In-Some

pub pop_front_of_several-requires-clause-several : goal.pop_front_of_several-requires-clause-several
pop_front_of_several-requires-clause-several g c =
    Chain-some c.self.inside.pool.nodes c.in-Some.link (chain g (goal.at.pop_front_of_several-requires-clause-several g c).In-Some) (omega (arith, c.if-link-lt-NODE_LIMIT.true))

module _ (g : _) (c : After-pop_front_of_several g) (some : 0 < length (get_or (rows_in c.self.inside.slots.items c.self.inside.pool.nodes) c.args.index []))
    (r : IsRow g.K.IntKey.number_of c.self.inside.slots.items c.self.inside.pool (rows_in c.self.inside.slots.items c.self.inside.pool.nodes) c.args.index c.index_mut-slot.result.now) where
  -- the first pair and the others
  pairs : get_or (rows_in c.self.inside.slots.items c.self.inside.pool.nodes) c.args.index [] ≡ c.pop_front_of_several.result ∷ chain_of c.self.inside.pool.nodes c.in-Some.link
  pairs = sym r.is ∙ ap (row_in c.self.inside.pool.nodes) c.pop_front_of_several.ensures.value

  -- the slots with these
  several : IsChain c.self.inside.pool.nodes c.in-Some.link
      → HaveRows g.K.IntKey.number_of (set c.self.inside.slots.items c.args.index c.pop_front_of_several.new.slot) c.pop_front_of_several.new.pool c.self.inside.bits c.self.inside.mask
      (set (rows_in c.self.inside.slots.items c.self.inside.pool.nodes) c.args.index (drop 1 (get_or (rows_in c.self.inside.slots.items c.self.inside.pool.nodes) c.args.index [])))
  several chain =
      let told = c.pop_front_of_several.ensures in let a = c.self.inside.pool in let l = c.in-Some.link in let x = c.pop_front_of_several.result in
      let more = Chain-some a.nodes l chain (omega (arith, c.if-link-lt-NODE_LIMIT.true)) in
      let left = ap (λ ps. length (drop 1 ps)) pairs in
      Row-kept g.K.IntKey.number_of c.self.inside.slots.items a c.self.inside.bits c.self.inside.mask c.args.index c.index_mut-slot.result.now (λ ps. drop 1 (ps)) c.pop_front_of_several.new.pool c.pop_front_of_several.new.slot c.self.invariant r
      (slot_is a (Held l x) c.pop_front_of_several.new.slot (chain_of a.nodes l) (drop 1 (row_in a.nodes c.index_mut-slot.result.now)) c.pop_front_of_several.new.pool c.index_mut-slot.result.now c.pop_front_of_several.new.slot
      (told.row x) told.value (ap (λ s. drop 1 (row_in a.nodes s)) told.value) refl)
      (home_drop (λ p. slot_number g.K.IntKey.number_of p.0 (length c.self.inside.slots.items)) c.args.index 1 (row_in a.nodes c.index_mut-slot.result.now) r.own) some (omega (arith, more, left))

pub invariant_of-self : goal.invariant_of-self
invariant_of-self g c =
    let at = (goal.at.invariant_of-self g c).In-Some in
    (several g (goal.at.invariant_of-self g c).After-pop_front_of_several (some g at) (row g at) (chain g at)).are

pub returns-then-link-lt-NODE_LIMIT-clause-row : goal.returns-then-link-lt-NODE_LIMIT-clause-row
returns-then-link-lt-NODE_LIMIT-clause-row g c =
    let at = (goal.at.returns-then-link-lt-NODE_LIMIT-clause-row g c).In-Some in
    let after = (goal.at.returns-then-link-lt-NODE_LIMIT-clause-row g c).After-pop_front_of_several in
    let is = pairs g after (some g at) (row g at) in
    let R = rows_in c.self.inside.slots.items c.self.inside.pool.nodes in
    rw (← c.self.view_is) (chain_of c.self.inside.pool.nodes c.in-Some.link, is, (several g after (some g at) (row g at) (chain g at)).rows ∙ ap (λ ps. set R c.args.index (drop 1 ps)) is)

module _ (g : _) (c : After-take_only g) (some : 0 < length (get_or (rows_in c.self.inside.slots.items c.self.inside.pool.nodes) c.args.index []))
    (r : IsRow g.K.IntKey.number_of c.self.inside.slots.items c.self.inside.pool (rows_in c.self.inside.slots.items c.self.inside.pool.nodes) c.args.index c.index_mut-slot.result.now) where
  -- the only pair
  alone : c.index_mut-slot.result.now ≡ Held c.in-Some.link c.take_only.result
  alone =
      let pair = c.take_only.ensures.pair in
      c.in-Some.ensures.some ∙ ap (λ p. Held c.in-Some.link p) (sym (first_was c.index_mut-slot.result.now c.in-Some.link c.in-Some.field-0-1.now c.take_only.result pair.0 c.in-Some.ensures.some pair.1))

  only : get_or (rows_in c.self.inside.slots.items c.self.inside.pool.nodes) c.args.index [] ≡ c.take_only.result ∷ chain_of c.self.inside.pool.nodes c.in-Some.link
  only = sym r.is ∙ ap (row_in c.self.inside.pool.nodes) alone

  -- the slots without it
  gone : node_limit ≤ c.in-Some.link → IsChain c.self.inside.pool.nodes c.in-Some.link
      → HaveRows g.K.IntKey.number_of (set c.self.inside.slots.items c.args.index empty) c.self.inside.pool (set c.self.inside.bits c.args.index false) c.self.inside.mask
      (set (rows_in c.self.inside.slots.items c.self.inside.pool.nodes) c.args.index (drop 1 (get_or (rows_in c.self.inside.slots.items c.self.inside.pool.nodes) c.args.index [])))
  gone last chain =
      let a = c.self.inside.pool in let l = c.in-Some.link in let x = c.take_only.result in
      Row-changed g.K.IntKey.number_of c.self.inside.slots.items a c.self.inside.bits c.self.inside.mask c.args.index c.index_mut-slot.result.now (λ ps. drop 1 (ps)) a empty c.self.invariant r
      (slot_is a (Held l x) empty (chain_of a.nodes l) (drop 1 (row_in a.nodes c.index_mut-slot.result.now)) a c.index_mut-slot.result.now empty
      (Front-only a l x chain last) alone (ap (λ s. drop 1 (row_in a.nodes s)) alone) refl)
      (home_drop (λ p. slot_number g.K.IntKey.number_of p.0 (length c.self.inside.slots.items)) c.args.index 1 (row_in a.nodes c.index_mut-slot.result.now) r.own) some

pub invariant_of-self-2 : goal.invariant_of-self-2
invariant_of-self-2 g c =
    let at = (goal.at.invariant_of-self-2 g c).In-Some in
    rw (c.take_only.ensures.bits, c.take_only.ensures.slot)
    (gone g (goal.at.invariant_of-self-2 g c).After-take_only (some g at) (row g at) c.if-link-lt-NODE_LIMIT.false (chain g at)).are

pub returns-clause-row : goal.returns-clause-row
returns-clause-row g c =
    let at = (goal.at.returns-clause-row g c).In-Some in
    let after = (goal.at.returns-clause-row g c).After-take_only in
    let is = only g after (some g at) (row g at) in
    let R = rows_in c.self.inside.slots.items c.self.inside.pool.nodes in
    rw (← c.self.view_is, c.take_only.ensures.slot)
    (chain_of c.self.inside.pool.nodes c.in-Some.link, is, (gone g after (some g at) (row g at) c.if-link-lt-NODE_LIMIT.false (chain g at)).rows ∙ ap (λ ps. set R c.args.index (drop 1 ps)) is)
