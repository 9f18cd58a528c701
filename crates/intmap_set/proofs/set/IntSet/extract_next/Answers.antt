use Rattle.std.proofs.Common.{◌≡◌, ◌∙◌, ℕ, ◌+◌, false, [], ◌∷◌, None, Some, take, drop, refl, sym, ap, subst}
use Rattle.std.specs.Prelude.{IsTrue, MatchOption}
use Rattle.intmap.specs.Map.{passed}
use Rattle.intmap.specs.Picking.{ExtractsBehind}
use Rattle.intmap_set.specs.Retaining.{PicksKey}
use Rattle.intmap_set.specs.Sets.{SetState, Updates, as_map, holds}
use Rattle.intmap_set.proofs.ExtractLemmas.{ExtractsBehind-cut, ExtractsBehind-end, StepsFrom-kept, drop-next, holds-next, match-some}
use Rattle.intmap_set.proofs.set.IntSet.extract_next.Goals as goal

pub loop-key-init : goal.loop-key-init
loop-key-init g c = record { same = refl; at = refl; reached = c.requires.reached; callable = c.requires.callable; steps = λ r h N k step. step }

pub test-requires : goal.test-requires
test-requires g c =
    let l = c.loop-key in let told = c.in-Some.ensures in
    let here = l.invariant.reached ∙ ap (λ a. passed g.K.IntKey.number_of (as_map l.self) a) (sym l.invariant.at) in
    let next = drop-next l.self.walk _ _ l.before c.in-Some.key here told.passed told.first in
    l.invariant.callable.at [] _ c.in-Some.key l.test next refl

module _ (g : _) (c : goal.After-cut g) where
  -- what was cut out is the member that the closure picked
  picked : (c.cut.result ≡ Some c.in-Some.key) × ExtractsBehind (PicksKey g.F.FnMut) c.loop-key.test c.loop-key.self.walk c.loop-key.before c.cut.result c.test.new.self c.cut.new.self.walk c.loop-key.before
  picked =
      let l = c.loop-key in let told = c.in-Some.ensures in let L = l.self.walk in let M = c.cut.new.self.walk in
      let here = l.invariant.reached ∙ ap (λ a. passed g.K.IntKey.number_of (as_map l.self) a) (sym l.invariant.at) in
      let next = drop-next L _ _ l.before c.in-Some.key here told.passed told.first in
      let from = sym l.invariant.reached in let to = c.cut.ensures.passed ∙ sym l.invariant.reached in
      ExtractsBehind-cut (PicksKey g.F.FnMut) l.test c.test.new.self L l.before c.in-Some.key _ M l.before c.cut.result next (refl, c.if-test.ensures)
      (subst (λ (t : ℕ × ℕ). MatchOption c.cut.result (drop t.0 L ≡ []) (λ y. drop t.0 L ≡ y ∷ drop t.1 M)) (λ i. (from i, to i)) c.cut.ensures.first)
      (subst (λ (t : ℕ × ℕ). take t.1 M ≡ take t.0 L) (λ i. (from i, to i)) c.cut.ensures.before)

pub returns-then-test-clause-step : goal.returns-then-test-clause-step
returns-then-test-clause-step g c =
    subst (λ (s : SetState g.row.K.Denot). ExtractsBehind (PicksKey g.F.FnMut) c.args.test.now s.walk c.args.before.now c.cut.result c.test.new.self c.cut.new.self.walk c.loop-key.before) c.loop-key.invariant.same
    (c.loop-key.invariant.steps _ _ _ _ (picked g c).1)

pub returns-then-test-clause-updates : goal.returns-then-test-clause-updates
returns-then-test-clause-updates g c =
    let number = g.K.IntKey.number_of in let M = c.cut.new.self.walk in
    subst (λ (s : SetState g.row.K.Denot). MatchOption c.cut.result (M ≡ s.walk) (λ k. IsTrue (holds number s.walk k) × Updates number s.walk M k false)) c.loop-key.invariant.same
    (match-some _ _ (λ k. IsTrue (holds number c.loop-key.self.walk k)) _ c.cut.result c.in-Some.key (picked g c).0 c.cut.ensures.updates
    (holds-next number c.loop-key.self.walk _ _ c.in-Some.key c.in-Some.ensures.first))

pub loop-key-preserved : goal.loop-key-preserved
loop-key-preserved g c =
    let l = c.loop-key in let told = c.in-Some.ensures in
    let here = l.invariant.reached ∙ ap (λ a. passed g.K.IntKey.number_of (as_map l.self) a) (sym l.invariant.at) in
    let next = drop-next l.self.walk _ _ l.before c.in-Some.key here told.passed told.first in
    record {
      same = l.invariant.same;
      at = refl;
      reached = ap (λ n. n + 1) here ∙ sym told.passed;
      callable = record { at = λ before after x h is passed. l.invariant.callable.at (c.in-Some.key ∷ before) after x h (next ∙ ap (λ Z. c.in-Some.key ∷ Z) is) (c.test.new.self, (false, c.if-test.ensures), passed) };
      steps = λ r h N k step. l.invariant.steps r h N k (StepsFrom-kept (PicksKey g.F.FnMut) l.test c.test.new.self l.self.walk l.before c.in-Some.key next (refl, c.if-test.ensures) r h N k step);
    }

pub returns-clause-step : goal.returns-clause-step
returns-clause-step g c =
    let l = c.loop-key in
    let here = l.invariant.reached ∙ ap (λ a. passed g.K.IntKey.number_of (as_map l.self) a) (sym l.invariant.at) in
    subst (λ (s : SetState g.row.K.Denot). ExtractsBehind (PicksKey g.F.FnMut) c.args.test.now s.walk c.args.before.now None l.test l.self.walk l.before) l.invariant.same
    (l.invariant.steps _ _ _ _ (ExtractsBehind-end (PicksKey g.F.FnMut) l.test l.self.walk l.before (subst (λ n. drop n l.self.walk ≡ []) (sym here) c.in_default.ensures.first)))
