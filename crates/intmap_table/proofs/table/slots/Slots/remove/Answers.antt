use Rattle.std.proofs.Common.{◌≡◌, ◌+◌, ◌≤◌, Bool, true, false, [], ◌∷◌, length, refl, sym, ap, ◌∙◌, subst, arith}
use Rattle.std.specs.Prelude.{get_or, set}
use Rattle.std.proofs.lemmas.List.{map-set}
use Rattle.intmap_table.specs.Bindings.{swap_out, value_of}
use Rattle.intmap_table.specs.Classes.{same_key, slot_number}
use Rattle.intmap_table.specs.Reach.{through_first}
use Rattle.intmap_table.specs.Tables.Nodes.{node_limit, empty, chain_of, rows_in, row_in, IsChain, IsSlot}
use Rattle.intmap_table.proofs.Nodes.LinkedLemmas.{HaveRows, IsRow, Row-of, Row-kept, Row-changed}
use Rattle.intmap_table.proofs.Nodes.PathLemmas.{Chain-beyond, Chain-some}
use Rattle.intmap_table.proofs.Nodes.TakenLemmas.{first_value-behind, swap_out-behind, Taken-only, home-swap_out}
use Rattle.intmap_table.proofs.Tables.SwapOutLemmas.{any}
use Rattle.intmap_table.proofs.table.slots.Slots.remove.Goals as goal
use Rattle.intmap_table.proofs.table.slots.Slots.remove.Goals.{In-Some, After-remove_of_several}

module _ (g : _) (c : In-Some g) where
  abbrev test : g.row.K.Denot × g.row.X.Denot → Bool
  test p = same_key g.K.IntKey.number_of c.args.key p.0

  row : IsRow g.K.IntKey.number_of c.self.inside.slots.items c.self.inside.pool (rows_in c.self.inside.slots.items c.self.inside.pool.nodes) c.args.index c.index_mut-slot.result.now
  row = Row-of g.K.IntKey.number_of c.self.inside.slots.items c.self.inside.pool c.self.inside.bits c.self.inside.mask c.args.index c.index_mut-slot.result.now c.self.invariant (rw (← c.self.view_is) at c.requires) c.index_mut-slot.ensures.value

  -- the slot's link leads through pairs
  chain : IsChain c.self.inside.pool.nodes c.in-Some.link
  chain = subst (IsSlot c.self.inside.pool.nodes) c.in-Some.ensures.some row.chain

  -- the first pair and those
  pairs : get_or (rows_in c.self.inside.slots.items c.self.inside.pool.nodes) c.args.index [] ≡ c.in-Some.first.now ∷ chain_of c.self.inside.pool.nodes c.in-Some.link
  pairs = sym row.is ∙ ap (row_in c.self.inside.pool.nodes) c.in-Some.ensures.some

pub remove_of_several-requires-clause-several : goal.remove_of_several-requires-clause-several
remove_of_several-requires-clause-several g c =
    let at = (goal.at.remove_of_several-requires-clause-several g c).In-Some in
    Chain-some c.self.inside.pool.nodes c.in-Some.link (chain g at) (omega (arith, c.if-link-lt-NODE_LIMIT.true))

-- the slots with what is left of a row of several
several : (g : _) (c : After-remove_of_several g) → IsRow g.K.IntKey.number_of c.self.inside.slots.items c.self.inside.pool (rows_in c.self.inside.slots.items c.self.inside.pool.nodes) c.args.index c.index_mut-slot.result.now
    → get_or (rows_in c.self.inside.slots.items c.self.inside.pool.nodes) c.args.index [] ≡ c.in-Some.first.now ∷ chain_of c.self.inside.pool.nodes c.in-Some.link
    → HaveRows g.K.IntKey.number_of (set c.self.inside.slots.items c.args.index c.remove_of_several.new.slot) c.remove_of_several.new.pool c.self.inside.bits c.self.inside.mask
    (set (rows_in c.self.inside.slots.items c.self.inside.pool.nodes) c.args.index (swap_out (λ p. same_key g.K.IntKey.number_of c.args.key p.0) any (get_or (rows_in c.self.inside.slots.items c.self.inside.pool.nodes) c.args.index [])))
several g c r pairs =
    let out = swap_out {X = g.row.K.Denot × g.row.X.Denot} (λ p. same_key g.K.IntKey.number_of c.args.key p.0) any in
    let told = c.remove_of_several.ensures in let filled = told.filled in
    let some = ap length pairs in
    let left = ap length (sym (ap (row_in c.remove_of_several.new.pool.nodes) filled.2) ∙ told.row.pairs ∙ ap out r.is) in
    Row-kept g.K.IntKey.number_of c.self.inside.slots.items c.self.inside.pool c.self.inside.bits c.self.inside.mask c.args.index c.index_mut-slot.result.now out c.remove_of_several.new.pool c.remove_of_several.new.slot c.self.invariant r told.row
    (home-swap_out (λ p. slot_number g.K.IntKey.number_of p.0 (length c.self.inside.slots.items)) c.args.index (λ p. same_key g.K.IntKey.number_of c.args.key p.0) (row_in c.self.inside.pool.nodes c.index_mut-slot.result.now) r.own)
    (omega (arith, some)) (omega (arith, left))

pub invariant_of-self-then-link-lt-NODE_LIMIT : goal.invariant_of-self-then-link-lt-NODE_LIMIT
invariant_of-self-then-link-lt-NODE_LIMIT g c =
    let at = (goal.at.invariant_of-self-then-link-lt-NODE_LIMIT g c).In-Some in
    (several g (goal.at.invariant_of-self-then-link-lt-NODE_LIMIT g c).After-remove_of_several (row g at) (pairs g at)).are

pub returns-then-link-lt-NODE_LIMIT-clause-rows : goal.returns-then-link-lt-NODE_LIMIT-clause-rows
returns-then-link-lt-NODE_LIMIT-clause-rows g c =
    let at = (goal.at.returns-then-link-lt-NODE_LIMIT-clause-rows g c).In-Some in
    rw (← c.self.view_is) (several g (goal.at.returns-then-link-lt-NODE_LIMIT-clause-rows g c).After-remove_of_several (row g at) (pairs g at)).rows

-- a pair that is alone
only : (g : _) (c : In-Some g) → node_limit ≤ c.in-Some.link → get_or (rows_in c.self.inside.slots.items c.self.inside.pool.nodes) c.args.index [] ≡ c.in-Some.first.now ∷ []
only g c last = pairs g c ∙ ap (λ ps. c.in-Some.first.now ∷ ps) (Chain-beyond c.self.inside.pool.nodes c.in-Some.link (chain g c) last)

pub returns-then-not-matches-clause-value : goal.returns-then-not-matches-clause-value
returns-then-not-matches-clause-value g c =
    let is = only g (goal.at.returns-then-not-matches-clause-value g c).In-Some c.if-link-lt-NODE_LIMIT.false in
    rw (← c.self.view_is) (sym (ap (λ ps. value_of g.K.IntKey.number_of ps c.args.key) is ∙ first_value-behind (same_key g.K.IntKey.number_of c.args.key) c.in-Some.first.now [] (sym c.matches.ensures.same ∙ c.if-not-matches.true)))

pub returns-then-not-matches-clause-rows : goal.returns-then-not-matches-clause-rows
returns-then-not-matches-clause-rows g c =
    let at = (goal.at.returns-then-not-matches-clause-rows g c).In-Some in
    let is = only g at c.if-link-lt-NODE_LIMIT.false in
    let out : swap_out (test g at) any (get_or (rows_in c.self.inside.slots.items c.self.inside.pool.nodes) c.args.index []) ≡ c.in-Some.first.now ∷ [] =
    ap (swap_out (test g at) any) is ∙ swap_out-behind (test g at) c.in-Some.first.now [] (sym c.matches.ensures.same ∙ c.if-not-matches.true) in
    rw (← c.self.view_is) (map-set (row_in c.self.inside.pool.nodes) c.self.inside.slots.items c.args.index c.index_mut-slot.result.now
    ∙ ap (set (rows_in c.self.inside.slots.items c.self.inside.pool.nodes) c.args.index) ((row g at).is ∙ is ∙ sym out))

pub returns-then-not-matches-clause-counted : goal.returns-then-not-matches-clause-counted
returns-then-not-matches-clause-counted g c =
    let at = (goal.at.returns-then-not-matches-clause-counted g c).In-Some in
    let is = only g at c.if-link-lt-NODE_LIMIT.false in
    let fails : test g at c.in-Some.first.now ≡ false = sym c.matches.ensures.same ∙ c.if-not-matches.true in
    let one : length (through_first (test g at) (c.in-Some.first.now ∷ [])) ≡ 1 = rw fails refl in
    rw (← c.self.view_is) (c.matches.ensures.counted ∙ ap (λ n. c.args.steps.now + n) (sym (ap (λ ps. length (through_first (test g at) ps)) is ∙ one)))

-- the slots without that one
gone : (g : _) (c : In-Some g) → node_limit ≤ c.in-Some.link → test g c c.in-Some.first.now ≡ true
    → HaveRows g.K.IntKey.number_of (set c.self.inside.slots.items c.args.index empty) c.self.inside.pool (set c.self.inside.bits c.args.index false) c.self.inside.mask
    (set (rows_in c.self.inside.slots.items c.self.inside.pool.nodes) c.args.index (swap_out (test g c) any (get_or (rows_in c.self.inside.slots.items c.self.inside.pool.nodes) c.args.index [])))
gone g c last passes =
    let some = ap length (pairs g c) in
    let r = row g c in
    Row-changed g.K.IntKey.number_of c.self.inside.slots.items c.self.inside.pool c.self.inside.bits c.self.inside.mask c.args.index c.index_mut-slot.result.now (swap_out (test g c) any) c.self.inside.pool empty c.self.invariant r
    (Taken-only (test g c) c.self.inside.pool c.index_mut-slot.result.now c.in-Some.link c.in-Some.first.now c.in-Some.ensures.some (Chain-beyond c.self.inside.pool.nodes c.in-Some.link (chain g c) last) passes)
    (home-swap_out (λ p. slot_number g.K.IntKey.number_of p.0 (length c.self.inside.slots.items)) c.args.index (test g c) (row_in c.self.inside.pool.nodes c.index_mut-slot.result.now) r.own)
    (omega (arith, some))

pub invariant_of-self-2 : goal.invariant_of-self-2
invariant_of-self-2 g c =
    rw (c.take_only-value.ensures.bits, c.take_only-value.ensures.slot)
    (gone g (goal.at.invariant_of-self-2 g c).In-Some c.if-link-lt-NODE_LIMIT.false (sym c.matches.ensures.same ∙ c.if-not-matches.false)).are

pub returns-clause-rows : goal.returns-clause-rows
returns-clause-rows g c =
    rw (← c.self.view_is, c.take_only-value.ensures.slot)
    (gone g (goal.at.returns-clause-rows g c).In-Some c.if-link-lt-NODE_LIMIT.false (sym c.matches.ensures.same ∙ c.if-not-matches.false)).rows
