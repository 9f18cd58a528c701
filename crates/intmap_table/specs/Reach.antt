-- How many keys a look-up compares.
use Rattle.std.specs.Prelude.{ℕ, Bool, cond, List, [], ◌∷◌, count_by}
use Rattle.intmap_table.specs.Classes.{same_key, agrees}

-- the elements up to the first that passes the test, with that one; all elements if none does
abbrev pub through_first : {X : Type 0} → (X → Bool) → List X → List X
through_first test [] = []
through_first test (x ∷ xs) = cond (test x) (x ∷ []) (x ∷ through_first test xs)

module _ {K V : Type 0} (number : K → ℕ) where
  -- how many keys agree with k modulo C
  abbrev pub class_size : List (K × V) → ℕ → K → ℕ
  class_size L C k = count_by (λ p. agrees number C k p.0) L

  -- how many keys agree with k modulo C, up to k itself if k is present
  abbrev pub reach : List (K × V) → ℕ → K → ℕ
  reach L C k = class_size (through_first (λ p. same_key number k p.0) L) C k
