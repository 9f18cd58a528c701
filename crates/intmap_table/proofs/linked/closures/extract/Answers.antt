use Rattle.std.proofs.Common.{◌≡◌, ◌∷◌, length, [], Some, None, refl, sym, ap, ◌∙◌, subst, drop, arith}
use Rattle.intmap_table.specs.Picking.{AsksAt, ExtractsBehind, PicksAt}
use Rattle.intmap_table.specs.Taking.{TakesEach}
use Rattle.intmap_table.specs.Writes.{TakesPairMut}
use Rattle.intmap_table.specs.Tables.Nodes.{Held, IsChain, IsChainSet, IsSlot, chain_of, row_in}
use Rattle.intmap_table.proofs.TakingLemmas.{TakesEach-first, TakesEach-next}
use Rattle.intmap_table.proofs.ExtractLemmas.{ExtractsBehind-end}
use Rattle.intmap_table.proofs.Nodes.PathLemmas.{Chain-beyond}
use Rattle.intmap_table.proofs.Nodes.SlotLemmas.{Slot-first}
use Rattle.intmap_table.proofs.Nodes.PickedLemmas.{first_goes, first_stays}
use Rattle.intmap_table.proofs.linked.closures.extract.Goals as goal
use Rattle.intmap_table.proofs.linked.closures.extract.Goals.{Else-place-gt0, After-pick}

pub returns-then-place-gt0-clause-step : goal.returns-then-place-gt0-clause-step
returns-then-place-gt0-clause-step g c = let run = c.extract_behind.ensures.step in (run.0, rw c.in-Some.ensures.some (run.1 c.in-Some.field-0-1.now), run.2, run.3)

-- the place is that of the first pair
module _ (g : _) (c : Else-place-gt0 g) where
  front : c.args.place.now ≡ 0
  front = omega (arith, c.if-place-gt0.false)

  row : row_in c.args.pool.now.nodes c.args.slot.now ≡ c.in-Some.field-0-1.now ∷ chain_of c.args.pool.now.nodes c.in-Some.link
  row = ap (row_in c.args.pool.now.nodes) c.in-Some.ensures.some

  callable : TakesEach (AsksAt g.F.FnMut) (TakesPairMut g.F.FnMut) c.args.f.now (c.in-Some.field-0-1.now ∷ chain_of c.args.pool.now.nodes c.in-Some.link)
  callable =
      subst (TakesEach (AsksAt g.F.FnMut) (TakesPairMut g.F.FnMut) c.args.f.now) (ap (λ k. drop k (row_in c.args.pool.now.nodes c.args.slot.now)) front ∙ row) c.requires.callable

pub pick-requires : goal.pick-requires
pick-requires g c = (
  c.in-Some.link,
  c.in-Some.field-0-1.now,
  c.in-Some.ensures.some,
  TakesEach-first (AsksAt g.F.FnMut) (TakesPairMut g.F.FnMut) c.args.f.now c.in-Some.field-0-1.now (chain_of c.args.pool.now.nodes c.in-Some.link) (callable g (goal.at.pick-requires g c).Else-place-gt0),
)

-- what the slot has once its first pair was asked about
module _ (g : _) (c : After-pick g) where
  both : Held c.pick.ensures.0 c.pick.ensures.1 ≡ Held c.in-Some.link c.in-Some.field-0-1.now
  both = sym c.pick.ensures.3 ∙ c.in-Some.ensures.some

  link : c.pick.ensures.0 ≡ c.in-Some.link
  link = let e = both in cc

  pair : c.pick.ensures.1 ≡ c.in-Some.field-0-1.now
  pair = let e = both in cc

  call : PicksAt g.F.FnMut c.args.f.now c.in-Some.field-0-1.now c.pick.result c.pick.new.f c.pick.ensures.2
  call = subst (λ p. PicksAt g.F.FnMut c.args.f.now p c.pick.result c.pick.new.f c.pick.ensures.2) pair c.pick.ensures.5

  slot : c.pick.new.self ≡ Held c.in-Some.link c.pick.ensures.2
  slot = c.pick.ensures.4 ∙ ap (λ l. Held l c.pick.ensures.2) link

pub pop_front-requires-clause-filled : goal.pop_front-requires-clause-filled
pop_front-requires-clause-filled g c = (c.pick.ensures.2, slot g (goal.at.pop_front-requires-clause-filled g c).After-pick)

pub returns-then-pick-clause-step : goal.returns-then-pick-clause-step
returns-then-pick-clause-step g c =
    let at = (goal.at.returns-then-pick-clause-step g c).After-pick in
    let first = (goal.at.returns-then-pick-clause-step g c).Else-place-gt0 in
    let pool = c.args.pool.now in
    let p = c.in-Some.field-0-1.now in
    let chain = chain_of pool.nodes c.in-Some.link in
    let two : Held c.in-Some.link c.pop_front.result ≡ Held c.in-Some.link c.pick.ensures.2 = sym c.pop_front.ensures.value ∙ slot g at in
    let same : c.pop_front.result ≡ c.pick.ensures.2 = cc in
    let front = front g first in (
      chain,
      rw c.in-Some.ensures.some (c.pop_front.ensures.row p),
      subst (λ L. ExtractsBehind (PicksAt g.F.FnMut) c.args.f.now L c.args.place.now (Some c.pop_front.result) c.pick.new.f chain c.args.place.now) (sym (row g first))
          (first_goes (PicksAt g.F.FnMut) (TakesPairMut g.F.FnMut) c.args.f.now c.pick.new.f p c.pick.ensures.2 chain c.pop_front.result c.args.place.now front (rw c.if-pick.true at (call g at)) same),
      omega (arith, front),
    )

pub extract_behind-requires-2-clause-filled : goal.extract_behind-requires-2-clause-filled
extract_behind-requires-2-clause-filled g c = (c.pick.ensures.2, slot g (goal.at.extract_behind-requires-2-clause-filled g c).After-pick)

pub extract_behind-requires-2-clause-within : goal.extract_behind-requires-2-clause-within
extract_behind-requires-2-clause-within g c = let row = ap (λ s. length (row_in c.args.pool.now.nodes s)) (slot g (goal.at.extract_behind-requires-2-clause-within g c).After-pick) in omega (arith, row)

pub extract_behind-requires-2-clause-callable : goal.extract_behind-requires-2-clause-callable
extract_behind-requires-2-clause-callable g c =
    let at = (goal.at.extract_behind-requires-2-clause-callable g c).After-pick in
    let first = (goal.at.extract_behind-requires-2-clause-callable g c).Else-place-gt0 in
    rw (slot g at)
    (TakesEach-next (AsksAt g.F.FnMut) (TakesPairMut g.F.FnMut) c.args.f.now c.pick.new.f c.in-Some.field-0-1.now (c.pick.result, c.pick.ensures.2) (chain_of c.args.pool.now.nodes c.in-Some.link)
    (callable g first) (call g at))

pub returns-clause-step : goal.returns-clause-step
returns-clause-step g c =
    let at = (goal.at.returns-clause-step g c).After-pick in
    let first = (goal.at.returns-clause-step g c).Else-place-gt0 in
    let run = c.extract_behind-2.ensures.step in
    let pool = c.args.pool.now in let p = c.in-Some.field-0-1.now in let chain = chain_of pool.nodes c.in-Some.link in
    let rest = subst (λ s. ExtractsBehind (PicksAt g.F.FnMut) c.pick.new.f (row_in pool.nodes s) 1 c.extract_behind-2.result c.extract_behind-2.new.f run.0 c.extract_behind-2.new.place) (slot g at) run.2 in (
      run.0,
      rw c.in-Some.ensures.some (run.1 p),
      subst (λ L. ExtractsBehind (PicksAt g.F.FnMut) c.args.f.now L c.args.place.now c.extract_behind-2.result c.extract_behind-2.new.f run.0 c.extract_behind-2.new.place) (sym (row g first))
          (first_stays (PicksAt g.F.FnMut) (TakesPairMut g.F.FnMut) c.args.f.now c.pick.new.f c.extract_behind-2.new.f p c.pick.ensures.2 chain c.extract_behind-2.result run.0 c.extract_behind-2.new.place c.args.place.now
          (front g first) (rw c.if-pick.false at (call g at)) rest),
      run.3,
    )

pub returns-then-link-ge-NODE_LIMIT-clause-step : goal.returns-then-link-ge-NODE_LIMIT-clause-step
returns-then-link-ge-NODE_LIMIT-clause-step g c =
    let at = (goal.at.returns-then-link-ge-NODE_LIMIT-clause-step g c).After-pick in
    let first = (goal.at.returns-then-link-ge-NODE_LIMIT-clause-step g c).Else-place-gt0 in
    let pool = c.args.pool.now in
    let p = c.in-Some.field-0-1.now in
    let q = c.pick.ensures.2 in
    let link = c.in-Some.link in
    let chain = chain_of pool.nodes link in
    let leads : IsChain pool.nodes link = subst (IsSlot pool.nodes) c.in-Some.ensures.some c.requires.leads in
    let alone : chain ≡ [] = Chain-beyond pool.nodes link leads (omega (arith, c.if-link-ge-NODE_LIMIT.true)) in
    let same : IsChainSet pool link chain pool link = record { is = leads; pairs = refl; spares = λ t misses k n x passes held. held; held = refl } in (
      q ∷ chain,
      rw (c.in-Some.ensures.some, slot g at) (Slot-first pool link p q chain pool link same),
      subst (λ L. ExtractsBehind (PicksAt g.F.FnMut) c.args.f.now L c.args.place.now None c.pick.new.f (q ∷ chain) 1) (sym (row g first))
          (first_stays (PicksAt g.F.FnMut) (TakesPairMut g.F.FnMut) c.args.f.now c.pick.new.f c.pick.new.f p q chain None (q ∷ chain) 1 c.args.place.now
          (front g first) (rw c.if-pick.false at (call g at)) (ExtractsBehind-end (PicksAt g.F.FnMut) c.pick.new.f (q ∷ chain) 1 alone)),
      omega arith,
    )
