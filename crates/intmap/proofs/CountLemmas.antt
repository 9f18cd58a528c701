-- How many elements of a list pass a test.
use Rattle.std.proofs.Common.{◌≡◌, ◌+◌, Bool, false, cond, List, [], ◌∷◌, refl, arith}
use Rattle.std.proofs.lemmas.List.Sums.{sum_by-cons}
use Rattle.std.specs.List.{list_any, count_by}

module _ {X : Type 0} where
  -- one element more is counted if it passes
  pub count_by-cons : (p : X → Bool) (x : X) (xs : List X) → count_by p (x ∷ xs) ≡ cond (p x) 1 0 + count_by p xs
  count_by-cons p x xs = sum_by-cons (λ y. cond (p y) 1 0) x xs

  -- if none is counted, none passes
  pub list_any-uncounted : (p : X → Bool) (xs : List X) → count_by p xs ≡ 0 → list_any p xs ≡ false
  list_any-uncounted p [] none = refl
  list_any-uncounted p (x ∷ xs) none = let all = count_by-cons p x xs in let rest = list_any-uncounted p xs in grind (arith, all, none, rest)
