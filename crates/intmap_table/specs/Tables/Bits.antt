-- Indices that are marked or not, as bits of words. No public clause cites this module.
use Rattle.std.specs.Prelude.{ℕ, suc, Bool, true, false, ◌*◌, ◌/◌, ◌%◌, ◌^◌, ◌+◌, ◌<◌, ◌≤◌, ◌==◌, ◌≡◌, List, length, map, filter, slice_index, slice_index_or}
use Rattle.std.specs.Int.{bit_at}
use Rattle.std.specs.List.{range_with_len}

-- whether index i is marked; no index past the last one is
abbrev pub marked : List Bool → ℕ → Bool
marked marks i = slice_index_or marks i false

-- the indices that are marked, in order
abbrev pub marked_indices : List Bool → List ℕ
marked_indices marks = filter (marked marks) (range_with_len 0 (length marks))

-- index i is the first marked one from `from` on
pub record IsNextMark (marks : List Bool) (from i : ℕ) : Type 0 where
  pub behind : from ≤ i
  pub is : marked marks i ≡ true
  pub between : (j : ℕ) → from ≤ j → j < i → marked marks j ≡ false

-- whether bit i of the word is set
abbrev pub has_bit : ℕ → ℕ → Bool
has_bit word i = bit_at word i == 1

-- word `at` of the marks, without those before index `from`. From there up to this word nothing is marked
pub record IsWordFrom (marks : ℕ → Bool) (from at word : ℕ) : Type 0 where
  pub fits : at < 2 ^ 58
  pub reached : from ≤ 64 * suc at
  pub before : (j : ℕ) → from ≤ j → j < 64 * at → marks j ≡ false
  pub bit : (j : ℕ) → j / 64 ≡ at → from ≤ j → marks j ≡ has_bit word (j % 64)
  pub none : (j : ℕ) → j / 64 ≡ at → j < from → has_bit word (j % 64) ≡ false

-- a word that has, from its lowest bit up, the marks of the 64 indices around index i
abbrev pub IsWordOf : List Bool → ℕ → ℕ → Type 0
IsWordOf marks i word = (j : ℕ) → j < 64 → has_bit word j ≡ marked marks (64 * (i / 64) + j)

-- whether each index of these words is marked: a word has 64, from its lowest bit up
unfoldable pub marks_of : List ℕ → List Bool
marks_of words = map (λ i. has_bit (slice_index words (i / 64)) (i % 64)) (range_with_len 0 (64 * length words))

-- the marked indices of these words, of which the first begins at the base
abbrev pub indices_from : ℕ → List ℕ → List ℕ
indices_from base words = map (λ i. base + i) (marked_indices (marks_of words))
