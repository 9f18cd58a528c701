-- Lists of places with values, as a text has them.
use Rattle.std.specs.Prelude.{ℕ, ◌^◌, ◌==◌, cond, List, ℤ, pos, ◌*ℤ◌}
use Rattle.std.specs.List.{fold}
use Rattle.intmap_sparse.specs.Vectors.{sum_below}

-- the last value that the list has of a place, or 0 if it has none
abbrev pub last_value : List (ℕ × ℤ) → ℕ → ℤ
last_value list place = fold (λ value pair. cond (pair.0 == place) pair.1 value) (pos 0) list

-- the sum of the products of the last values at every place
abbrev pub dot : List (ℕ × ℤ) → List (ℕ × ℤ) → ℤ
dot left right = sum_below (λ place. last_value left place *ℤ last_value right place) (2 ^ 64)
