-- The row of a slot that a key is put into. No public clause cites this module.
use Rattle.std.specs.Prelude.{ℕ, true, List, [], ◌∷◌, ◌++◌}
use Rattle.intmap_table.specs.Classes.{same_key}
use Rattle.intmap_table.specs.Bindings.{swap_out}

module _ {K X : Type 0} (number : K → ℕ) where
  -- the row without the pair of k, if there is one, whose place the last pair takes, and with the pair of k and v at the end
  abbrev pub put_last : List (K × X) → K → X → List (K × X)
  put_last row k v = swap_out (λ p. same_key number k p.0) (λ _. true) row ++ (k, v) ∷ []
