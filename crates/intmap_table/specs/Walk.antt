-- The order in which a table of C slots shows a list of pairs.
use Rattle.std.specs.Prelude.{◌≡◌, ℕ, ◌<◌, ◌==◌, List, [], filter, take}
use Rattle.std.specs.List.{flat_map, range_with_len}
use Rattle.intmap_table.specs.Classes.{slot_number}

module _ {K V : Type 0} (number : K → ℕ) where
  -- the pairs of slot i, in the order of the list
  abbrev pub slot_of : List (K × V) → ℕ → ℕ → List (K × V)
  slot_of L C i = filter (λ p. slot_number number p.0 C == i) L

  -- the pairs of slot 0, then those of slot 1, and so on up to slot C - 1
  abbrev pub walk_of : List (K × V) → ℕ → List (K × V)
  walk_of L C = flat_map (slot_of L C) (range_with_len 0 C)

  -- the list stands for a map with walk W and capacity C: its walk is W
  abbrev pub StandsFor : List (K × V) → List (K × V) → ℕ → Type 0
  StandsFor L W C = walk_of L C ≡ W

  -- the first m pairs of the walk, or all if there are fewer
  abbrev pub first_of_walk : ℕ → List (K × V) → ℕ → List (K × V)
  first_of_walk m L C = take m (walk_of L C)

  -- no slot before slot n holds a pair, in a table of C slots with walk W
  abbrev pub ArePassed : List (K × V) → ℕ → ℕ → Type 0
  ArePassed W C n = (i : ℕ) → i < n → slot_of W C i ≡ []
