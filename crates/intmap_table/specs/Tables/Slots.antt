-- How a table lays its pairs out. No public clause cites this module.
use Rattle.std.specs.Prelude.{◌≡◌, ℕ, zero, suc, ◌+◌, ◌*◌, ◌/◌, ◌<◌, ◌≤◌, Bool, nat_lt, min, List, [], ◌∷◌, length, take, slice_index_or}
use Rattle.std.specs.List.{flat_map}
use Rattle.intmap_table.specs.Tables.Bits.{marked}

-- the pairs with v as the value of the one at place i
abbrev pub write_at : {K X : Type 0} → List (K × X) → ℕ → X → List (K × X)
write_at [] i v = []
write_at (p ∷ ps) zero v = (p.0, v) ∷ ps
write_at (p ∷ ps) (suc i) v = p ∷ write_at ps i v

-- a table: its walk, how many slots it has, and how many pairs behind the first ones of their slots there is memory for in all
pub record Grid (K X : Type 0) : Type 0 where
  pub walk : List (K × X)
  pub capacity : ℕ
  pub nodes : ℕ

-- the rows, one after another
abbrev pub joined : {P : Type 0} → List (List P) → List P
joined S = flat_map (λ s. s) S

-- the rows at these indices, one after another
abbrev pub pairs_at : {P : Type 0} → List (List P) → List ℕ → List P
pairs_at S indices = flat_map (λ i. slice_index_or S i []) indices

-- the number of elements before place j of row i. A place behind the end of a row is before the next row
abbrev pub count_before : {P : Type 0} → List (List P) → ℕ → ℕ → ℕ
count_before R i j = length (joined (take i R)) + min j (length (slice_index_or R i []))

-- row i is the first one from row `from` on that holds something
pub record IsNextRow {P : Type 0} (R : List (List P)) (from i : ℕ) : Type 0 where
  pub behind : from ≤ i
  pub within : i < length R
  pub filled : 0 < length (slice_index_or R i [])
  pub between : (j : ℕ) → from ≤ j → j < i → slice_index_or R j [] ≡ []

-- marks in whole words of 64: the index of a row is marked if and only if the row has a pair, and no index behind the last row is marked
pub record AreMarked {P : Type 0} (S : List (List P)) (marks : List Bool) : Type 0 where
  pub words : length marks ≡ 64 * ((length S + 63) / 64)
  pub own : (i : ℕ) → marked marks i ≡ nat_lt 0 (length (slice_index_or S i []))
