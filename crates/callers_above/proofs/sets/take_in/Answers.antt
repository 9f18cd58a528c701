use Rattle.std.proofs.Common.{◌≡◌, ◌∙◌, ◌||◌, ℕ, Bool, List, false, true, ap, drop, sym, take}
use Rattle.std.proofs.lemmas.List.{take-append-drop}
use Rattle.std.proofs.lemmas.List.Folds.{list_any-append}
use Rattle.std.specs.List.{list_any}
use Rattle.intmap.specs.Classes.{same_key}
use Rattle.callers_above.proofs.sets.take_in.Goals as goal

-- what is among the first elements is among all
among-first : {X : Type 0} (test : X → Bool) (n : ℕ) (L : List X) → list_any test (take n L) ≡ true → list_any test L ≡ true
among-first test n L is =
    ap (λ M. list_any test M) (sym (take-append-drop n L)) ∙ list_any-append test (take n L) (drop n L) ∙ ap (λ b. b || list_any test (drop n L)) is

either : (b f o : Bool) → (f ≡ true → o ≡ true) → (b || f) ≡ true → (b || o) ≡ true
either true f o first is = is
either false f o first is = first is

-- the keys that were inserted before the failed one are the first of the other set
pub returns-in-Err-clause-new : goal.returns-in-Err-clause-new
returns-in-Err-clause-new g c q is =
    let stops = c.in-Err.ensures.stops in let other = c.args.other.now.walk in
    let now = ap (λ s. list_any (same_key g.K.IntKey.number_of q) s.walk) stops.after in
    either _ _ _ (among-first (same_key g.K.IntKey.number_of q) c.in-Err.refused.applied other) (sym (stops.extended.updates q) ∙ sym now ∙ is)
