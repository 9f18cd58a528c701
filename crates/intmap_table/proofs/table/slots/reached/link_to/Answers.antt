use Rattle.std.proofs.Common.{◌≡◌, ◌-◌, ◌<◌, List, ◌∷◌, [], length, drop, sym, ap, ◌∙◌, subst, arith}
use Rattle.std.specs.Prelude.{cond, get_or, nat_lt, suc}
use Rattle.std.proofs.lemmas.Bool.{lt-ltb}
use Rattle.std.proofs.lemmas.List.{get_or_past, get_or_default, length-map}
use Rattle.std.proofs.Math.Seq.{drop-nil}
use Rattle.intmap_table.specs.Tables.Nodes.{Free, Held, empty, chain_of, row_in, rows_in, IsSlot}
use Rattle.intmap_table.proofs.Nodes.PathLemmas.{Chain-none, IsChain-none}
use Rattle.intmap_table.proofs.Tables.ReachedLemmas.{row-slot}
use Rattle.intmap_table.proofs.table.slots.reached.link_to.Goals as goal
use Rattle.intmap_table.proofs.table.slots.reached.link_to.Goals.{Else-at-slots, Else-at-eq0}

module _ (g : _) (c : Else-at-eq0 g) where
  -- the cursor isn't before the first pair
  behind : (row : List g.row.P.Denot) → cond (nat_lt 0 c.args.at.place) (drop c.args.at.place row) [] ≡ drop c.args.at.place row
  behind row = ap (λ b. cond b (drop c.args.at.place row) []) (lt-ltb 0 c.args.at.place (omega (arith, c.if-at-eq0.false)))

  -- if its slot has no pair, the link leads nowhere
  nowhere_is : get_or (rows_in c.args.slots.now c.args.pool.now.nodes) c.args.at.slot [] ≡ []
      → chain_of c.args.pool.now.nodes 281474976710655 ≡ cond (nat_lt 0 c.args.at.place) (drop c.args.at.place (get_or (rows_in c.args.slots.now c.args.pool.now.nodes) c.args.at.slot [])) []
  nowhere_is none = Chain-none c.args.pool.now.nodes ∙ sym (behind _ ∙ ap (drop c.args.at.place) none ∙ drop-nil c.args.at.place)

within : (g : _) (c : Else-at-slots g) → c.args.at.slot < length c.args.slots.now
within g c = omega (arith, c.if-at-slots.false)

pub returns-then-at-eq0-clause-chain : goal.returns-then-at-eq0-clause-chain
returns-then-at-eq0-clause-chain g c = IsChain-none c.args.pool.now.nodes

pub returns-then-at-eq0-clause-pairs : goal.returns-then-at-eq0-clause-pairs
returns-then-at-eq0-clause-pairs g c = rw c.if-at-eq0.true (Chain-none c.args.pool.now.nodes)

pub returns-then-at-slots-clause-chain : goal.returns-then-at-slots-clause-chain
returns-then-at-slots-clause-chain g c = IsChain-none c.args.pool.now.nodes

pub returns-then-at-slots-clause-pairs : goal.returns-then-at-slots-clause-pairs
returns-then-at-slots-clause-pairs g c =
    let len = length-map c.args.slots.now (row_in c.args.pool.now.nodes) in
    nowhere_is g (goal.at.returns-then-at-slots-clause-pairs g c).Else-at-eq0
    (get_or_past (rows_in c.args.slots.now c.args.pool.now.nodes) c.args.at.slot [] (omega (arith, len, c.if-at-slots.true)))

pub returns-in_default-clause-chain : goal.returns-in_default-clause-chain
returns-in_default-clause-chain g c = IsChain-none c.args.pool.now.nodes

pub returns-in_default-clause-pairs : goal.returns-in_default-clause-pairs
returns-in_default-clause-pairs g c =
    let at = goal.at.returns-in_default-clause-pairs g c in let free = c.in_default.ensures.none in
    nowhere_is g at.Else-at-eq0 (row-slot c.args.slots.now c.args.pool.now.nodes c.args.at.slot c.index-slots-at.result (Free free.0) (within g at.Else-at-slots) (sym c.index-slots-at.is ∙ free.1))

pub skip-requires : goal.skip-requires
skip-requires g c =
    let below = within g (goal.at.skip-requires g c).Else-at-slots in
    let here : get_or c.args.slots.now c.args.at.slot empty ≡ Held c.in-Some.link c.in-Some.field-0-1.now = sym (get_or_default c.args.slots.now c.args.at.slot c.index-slots-at.result empty below) ∙ sym c.index-slots-at.is ∙ c.in-Some.ensures.some in
    subst (IsSlot c.args.pool.now.nodes) here (c.requires c.args.at.slot below)

pub returns-clause-pairs : goal.returns-clause-pairs
returns-clause-pairs g c =
    let at = goal.at.returns-clause-pairs g c in let cs = c.args.pool.now.nodes in let l = c.in-Some.link in let p = c.in-Some.field-0-1.now in let place = c.args.at.place in
    let row = row-slot c.args.slots.now cs c.args.at.slot c.index-slots-at.result (Held l p) (within g at.Else-at-slots) (sym c.index-slots-at.is ∙ c.in-Some.ensures.some) in
    let one : place ≡ suc (place - 1) = omega (arith, c.if-at-eq0.false) in
    c.skip.ensures.pairs ∙ sym (behind g at.Else-at-eq0 _ ∙ ap (drop place) row ∙ ap (λ n. drop n (p ∷ chain_of cs l)) one)
