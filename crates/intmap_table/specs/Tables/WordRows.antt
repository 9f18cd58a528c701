-- The rows of slots whose marks are in one word. No public clause cites this module.
use Rattle.std.specs.Prelude.{◌≡◌, ℕ, ◌+◌, ◌<◌, nat_lt, List, [], length, take, drop, slice_index_or}
use Rattle.intmap_table.specs.Tables.Bits.{has_bit}

module _ {P : Type 0} where
  -- the 64 rows from an index on, or fewer if the last one is among them
  abbrev pub word_rows : ℕ → List (List P) → List (List P)
  word_rows from R = take 64 (drop from R)

  -- each bit of the word, from the lowest one up, says whether the row with this index holds a pair
  abbrev pub IsFilledWord : List (List P) → ℕ → Type 0
  IsFilledWord R word = (j : ℕ) → j < 64 → has_bit word j ≡ nat_lt 0 (length (slice_index_or R j []))

  -- of the rows R only the 64 from an index on may be others in S
  pub record IsWordChanged (from : ℕ) (R S : List (List P)) : Type 0 where
    pub len : length S ≡ length R
    pub before : take from S ≡ take from R
    pub behind : drop (from + 64) S ≡ drop (from + 64) R
