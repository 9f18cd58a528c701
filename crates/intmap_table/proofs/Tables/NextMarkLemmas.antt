-- The first marked index from one on, found word by word.
use Rattle.std.proofs.Common.{◌≡◌, inl, inr, ℕ, suc, ◌+◌, ◌-◌, ◌*◌, ◌/◌, ◌%◌, ◌^◌, ◌<◌, ◌≤◌, Bool, true, false, List, length, get_or, sym, ap, ◌∙◌, arith, bit_and, w64}
use Rattle.std.specs.Prelude.{nat_eq}
use Rattle.std.specs.Int.{bit_at, trailing_zeros}
use Rattle.std.proofs.lemmas.Bool.{cases_eq, cases_lt, eq-eqb, ne_eqb}
use Rattle.std.proofs.lemmas.List.{get_or_past}
use Rattle.std.proofs.lemmas.Nat.Bits.{ones_shl, bit_at-zero, bit_at_and, bit_at_mask_below, bit_at_mask_inside, bit_at-lt, bit_at-trailing_zeros}
use Rattle.intmap_table.specs.Tables.Bits.{marked, IsWordFrom, IsNextMark, has_bit, marks_of}
use Rattle.intmap_table.proofs.Tables.BitsLemmas.{IsLowest, without_lowest, has_bit-without_lowest, has_bit-without_lowest_other, length-marks_of, marked-marks_of}

-- the word without its bits below r
abbrev pub bits_from : ℕ → ℕ → ℕ
bits_from word r = bit_and word (18446744073709551615 * 2 ^ r % 18446744073709551616)

module _ (word r i : ℕ) (small : r < 64) where
  mask : 18446744073709551615 * 2 ^ r % 18446744073709551616 ≡ 2 ^ 64 - 2 ^ r
  mask = ones_shl 64 r (omega (arith, small))

  has_bit-below : i < r → has_bit (bits_from word r) i ≡ false
  has_bit-below down =
      let a = bit_at_and word (2 ^ 64 - 2 ^ r) i in let m = bit_at_mask_below r 64 i down in
      rw mask (ne_eqb (bit_at (bit_and word (2 ^ 64 - 2 ^ r)) i) 1 (λ e. omega (arith, a, m, e)))

  has_bit-above : r ≤ i → i < 64 → has_bit (bits_from word r) i ≡ has_bit word i
  has_bit-above up below =
      let a = bit_at_and word (2 ^ 64 - 2 ^ r) i in let m = bit_at_mask_inside r 64 i up below in let l = bit_at-lt word i in
      let same : bit_at (bit_and word (2 ^ 64 - 2 ^ r)) i ≡ bit_at word i = omega (arith, a, m, l) in
      rw mask (ap (λ (b : ℕ). nat_eq b 1) same)

-- a word that is zero has no bit
pub has_bit-zero : (i : ℕ) → has_bit 0 i ≡ false
has_bit-zero i = let z = bit_at-zero i in ne_eqb (bit_at 0 i) 1 (λ e. omega (arith, z, e))

module _ (words : List ℕ) (from : ℕ) where
  own : (at : ℕ) → at < length words → (j : ℕ) → j / 64 ≡ at → marked (marks_of words) j ≡ has_bit (get_or words at 0) (j % 64)
  own at within j is = marked-marks_of words j (omega (arith, within, is)) ∙ ap (λ q. has_bit (get_or words q 0) (j % 64)) is

  pub IsWordFrom-start : from < 2 ^ 64 → from / 64 < length words → IsWordFrom (marked (marks_of words)) from (from / 64) (bits_from (get_or words (from / 64) 0) (from % 64))
  IsWordFrom-start fits within = record {
    fits = omega (arith, fits);
    reached = omega arith;
    before = λ j le lt. absurd (omega (arith, le, lt));
    bit = λ j is le.
        own (from / 64) within j is
        ∙ sym (has_bit-above (get_or words (from / 64) 0) (from % 64) (j % 64) (omega arith) (omega (arith, is, le)) (omega arith));
    none = λ j is lt. has_bit-below (get_or words (from / 64) 0) (from % 64) (j % 64) (omega arith) (omega (arith, is, lt));
  }

  -- behind the last word nothing is marked
  pub IsWordFrom-past : from < 2 ^ 64 → length words ≤ from / 64 → IsWordFrom (marked (marks_of words)) from (from / 64) 0
  IsWordFrom-past fits past = record {
    fits = omega (arith, fits);
    reached = omega arith;
    before = λ j le lt. absurd (omega (arith, le, lt));
    bit = λ j is le. get_or_past (marks_of words) j false (omega (arith, past, is, length-marks_of words)) ∙ sym (has_bit-zero (j % 64));
    none = λ j is lt. has_bit-zero (j % 64);
  }

  module _ (at : ℕ) (here : IsWordFrom (marked (marks_of words)) from at 0) where
    -- a word that is zero marks none of its indices
    pub none-before : (j : ℕ) → from ≤ j → j < 64 * suc at → marked (marks_of words) j ≡ false
    none-before j le lt = elim (cases_lt j (64 * at)) as (λ _. marked (marks_of words) j ≡ false) [
      | inl before ↦ here.before j le before
      | inr behind ↦ here.bit j (omega (arith, behind, lt)) le ∙ has_bit-zero (j % 64)
    ]

    pub IsWordFrom-next : at + 1 < 2 ^ 58 → at + 1 < length words → IsWordFrom (marked (marks_of words)) from (at + 1) (get_or words (at + 1) 0)
    IsWordFrom-next fits within = record {
      fits = fits;
      reached = (let r = here.reached in omega (arith, r));
      before = λ j le lt. none-before j le (omega (arith, lt));
      bit = λ j is le. own (at + 1) within j is;
      none = λ j is lt. (let r = here.reached in absurd (omega (arith, is, lt, r)));
    }

    -- if it is the last word, no index is marked
    pub none-left : length words ≤ at + 1 → (j : ℕ) → from ≤ j → marked (marks_of words) j ≡ false
    none-left last j le =
        let before = none-before j le in let past = get_or_past (marks_of words) j false in let n = length-marks_of words in grind (arith, last, before, past, n)

-- the lowest bit of the word that is held is that of the next mark
module _ (marks : List Bool) (from at word low : ℕ) (here : IsWordFrom (marked marks) from at word) (small : low < 64) (lowest : IsLowest word low) where
  IsNextMark-lowest : IsNextMark marks from (at * 64 + low)
  IsNextMark-lowest =
      let i : ℕ = at * 64 + low in
      let is : i / 64 ≡ at = omega (arith, small) in
      let rest : i % 64 ≡ low = omega (arith, small) in
      let one : has_bit word (i % 64) ≡ true = ap (has_bit word) rest ∙ eq-eqb (bit_at word low) 1 lowest.one in
      let behind : from ≤ i = (let none = here.none i is in grind (arith, none, one)) in
      record {
        behind = behind;
        is = here.bit i is behind ∙ one;
        between = λ j le lt. elim (cases_lt j (64 * at)) as (λ _. marked marks j ≡ false) [
          | inl before ↦ here.before j le before
          | inr inside ↦
              (let z = lowest.below (j % 64) (omega (arith, inside, lt, small)) in
              here.bit j (omega (arith, inside, lt, small)) le ∙ ne_eqb (bit_at word (j % 64)) 1 (λ e. omega (arith, z, e)))
        ];
      }

  -- and the others are held from behind it on
  IsWordFrom-lowest : IsWordFrom (marked marks) (at * 64 + low + 1) at (without_lowest word)
  IsWordFrom-lowest =
      let behind = IsNextMark-lowest.behind in
      record {
        fits = here.fits;
        reached = omega (arith, small);
        before = λ j le lt. absurd (omega (arith, le, lt));
        bit = λ j is le.
            here.bit j is (omega (arith, behind, le))
            ∙ sym (has_bit-without_lowest_other word low lowest (j % 64) (λ e. omega (arith, is, le, e)));
        none = λ j is lt. elim (cases_eq (j % 64) low) as (λ _. has_bit (without_lowest word) (j % 64) ≡ false) [
          | inl e ↦ ap (has_bit (without_lowest word)) e ∙ has_bit-without_lowest word low lowest
          | inr apart ↦
              (let z = lowest.below (j % 64) (omega (arith, is, lt, apart, small)) in
              has_bit-without_lowest_other word low lowest (j % 64) apart ∙ ne_eqb (bit_at word (j % 64)) 1 (λ e. omega (arith, z, e)))
        ];
      }

module _ (marks : List Bool) (from at word : ℕ) (here : IsWordFrom (marked marks) from at word) (some : 0 < word) (fits : word < 2 ^ 64) where
  lowest : IsLowest word (trailing_zeros w64 word)
  lowest = let t = bit_at-trailing_zeros w64 word some fits in record { one = t.1; below = t.2 }

  pub IsNextMark-word : IsNextMark marks from (at * 64 + trailing_zeros w64 word)
  IsNextMark-word = IsNextMark-lowest marks from at word _ here (bit_at-trailing_zeros w64 word some fits).0 lowest

  pub IsWordFrom-rest : IsWordFrom (marked marks) (at * 64 + trailing_zeros w64 word + 1) at (bit_and word (word - 1))
  IsWordFrom-rest = IsWordFrom-lowest marks from at word _ here (bit_at-trailing_zeros w64 word some fits).0 lowest
