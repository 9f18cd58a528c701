-- Pairs and their clones.
use Rattle.std.specs.Prelude.{◌≡◌, ℕ, List, Some, None, MatchOption}
use Rattle.intmap_table.specs.Bindings.{value_of}

module _ {K V : Type 0} (clones : V → V → Type 0) where
  -- the same key, with a clone of the value
  abbrev pub IsPairClone : K × V → K × V → Type 0
  IsPairClone p q = (q.0 ≡ p.0) × clones p.1 q.1

module _ {K V : Type 0} (number : K → ℕ) (clones : V → V → Type 0) where
  -- M has the keys that L has, each with a clone of its value
  abbrev pub BindsClones : List (K × V) → List (K × V) → Type 0
  BindsClones L M = (q : K) → MatchOption (value_of number L q) (value_of number M q ≡ None) (λ v. (w : V) × (value_of number M q ≡ Some w) × clones v w)
