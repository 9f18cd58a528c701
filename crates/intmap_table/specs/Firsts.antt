-- The first pair of a slot, and what is behind it.
use Rattle.std.specs.Prelude.{ℕ, List, length, drop, take}
use Rattle.intmap_table.specs.Classes.{same_key}
use Rattle.intmap_table.specs.Locations.{IsAt}
use Rattle.intmap_table.specs.Reach.{through_first}
use Rattle.intmap_table.specs.Walk.{slot_of}

module _ {K V : Type 0} (number : K → ℕ) where
  -- the first pair of slot i, in a table of C slots, if the slot holds one
  abbrev pub first_of : List (K × V) → ℕ → ℕ → List (K × V)
  first_of W C i = take 1 (slot_of number W C i)

  -- how many keys a search for k compares behind the first pair of slot i
  abbrev pub reach_behind : List (K × V) → ℕ → ℕ → K → ℕ
  reach_behind W C i k = length (through_first (λ p. same_key number k p.0) (drop 1 (slot_of number W C i)))

  -- the first pair of slot i is that of k
  abbrev pub IsFirst : List (K × V) → ℕ → ℕ → K → Type 0
  IsFirst W C i k = IsAt number W C (record { key = k; slot = i; place = 0 })
