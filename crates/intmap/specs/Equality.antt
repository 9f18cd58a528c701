-- When two maps are equal: if they have the same keys, each with equal values.
use Rattle.std.specs.Prelude.{ℕ, Bool, ◌&&◌, List}
use Rattle.std.specs.List.{list_all}
use Rattle.std.specs.Option.{option_eq}
use Rattle.intmap_table.specs.Bindings.{value_of}
use Rattle.intmap.specs.Map.{MapState}

module _ {K V : Type 0} (number : K → ℕ) (equal : V → V → Bool) where
  -- each key of L is present in M, with an equal value
  abbrev pub are_present_alike : List (K × V) → List (K × V) → Bool
  are_present_alike L M = list_all (λ p. option_eq equal (value_of number L p.0) (value_of number M p.0)) L

  -- each key of either map is present in the other, with an equal value
  abbrev pub maps_equal : MapState K V → MapState K V → Bool
  maps_equal m n = are_present_alike m.walk n.walk && are_present_alike n.walk m.walk
