-- Words that write numbers.
use Rattle.std.proofs.Common.{◌≡◌, ◌≢◌, ◌≤◌, ◌<◌, ◌+◌, ◌-◌, ◌*◌, ◌%◌, ◌^◌, ℕ, List, [], ◌∷◌, length, take, get_or, sym, ap, ◌∙◌, arith, take_all, le_refl, ⊎_elim}
use native.Mathlib.Nat.{pow-le-pow_right}
use Rattle.core.proofs.str.Laws.{order}
use Rattle.core.specs.Char.{digit_value, is_ascii_digit}
use Rattle.core.specs.Float.Numeral.{digits_len}
use Rattle.core.proofs.dec2flt.DigitsLemmas.{digits_value_after_is, is_digit}
use Rattle.core.proofs.dec2flt.Rows.{AllDigits-digits_len}
use Rattle.std.specs.Fmt.{decimal}
use Rattle.std.specs.Str.Parse.{AllDigits, digits_value}
use Rattle.std.proofs.lemmas.Fmt.{decimal_is_IsNumeral, decimal-digits_value, length-decimal-le}
use Rattle.std.proofs.lemmas.Int.Digits.{digits_value-lt}
use Rattle.std.proofs.lemmas.List.Sums.{prefix_len_is}
use Rattle.std.proofs.lemmas.Str.{digit_value_digit}
use Rattle.std.proofs.lemmas.Str.Parse.{digit_at, digit_from_value, numerals_by_value, tells_digits}
use Rattle.intmap.proofs.JsonLemmas.{BeginsAsPrinted-IsKeyText}
use Rattle.intmap_text.specs.Commands.{IsNumeral}

-- there are 1 to 20 digits, with no leading zero; if there are 20, the first is a 1 and the number modulo 2^64 has 20 too
abbrev pub IsCanonical : List ℕ → ℕ → Type 0
IsCanonical digits value = (0 < length digits) × (get_or digits 0 0 ≡ 48 → length digits ≡ 1)
    × (length digits ≤ 20) × (length digits ≡ 20 → (get_or digits 0 0 ≡ 49) × (10 ^ 19 ≤ value))

-- the number of 20 digits, by the first of them
twenty_digits : (digits : List ℕ) → AllDigits 10 digits → length digits ≡ 20 → (rest : ℕ) × (rest < 10 ^ 19)
    × (48 ≤ get_or digits 0 0) × (digits_value 10 digits ≡ (get_or digits 0 0 - 48) * 10 ^ 19 + rest)
twenty_digits [] all twenty = absurd (omega (arith, twenty))
twenty_digits (c ∷ cs) all twenty =
    let range = digit_from_value c all.0 in
    let place : 10 ^ length cs ≡ 10 ^ 19 = ap (λ n. 10 ^ n) {y = 19} (omega (arith, twenty)) in
    let worth : digit_value c ≡ c - 48 = omega (arith, digit_value_digit c range) in
    let first = digits_value_after_is (0 * 10 + digit_value c) cs in (
      digits_value 10 cs,
      omega (arith, digits_value-lt 10 cs all.1, place),
      omega (arith, range),
      omega (arith, first, worth, ap (λ x. digit_value c * x) place),
    )

-- the number of canonical digits is below 2^64
small_value : (digits : List ℕ) (value : ℕ) → AllDigits 10 digits → IsCanonical digits value
    → value ≡ digits_value 10 digits % 2 ^ 64 → digits_value 10 digits < 2 ^ 64
small_value digits value all fits is =
    ⊎_elim
    (λ short.
    let few : length digits ≤ 19 = omega (arith, short) in
    omega (arith, digits_value-lt 10 digits all, pow-le-pow_right {n = 10} (omega arith) few))
    (λ long.
    let twenty : length digits ≡ 20 = omega (arith, fits, long) in
    let parts = twenty_digits digits all twenty in
    omega (arith, parts.1, fits.3 twenty, is))
    (order (length digits) 20)

-- a word that writes a number is digits alone
pub all_digits : (word : List ℕ) (n : ℕ) → IsNumeral word n → digits_len word ≡ length word
all_digits word n w =
    let numeral = rw (sym w.0) at (decimal_is_IsNumeral n w.1) in
    prefix_len_is is_ascii_digit word (length word) 0 (le_refl (length word))
    (λ i inside. let range = digit_at word i numeral.0.1 inside in (is_digit _ range.0 range.1).0)
    (λ l. absurd (omega (arith, l)))

module _ (word : List ℕ) (end value : ℕ) (whole : length word ≤ end)
    (read : value ≡ (0 * 10 ^ (end - 0) + digits_value 10 (take (end - 0) word)) % 2 ^ 64) where
  -- what is read is the number of the whole word modulo 2^64
  value_is : value ≡ digits_value 10 word % 2 ^ 64
  value_is = omega (arith, read, ap (digits_value 10) (take_all (end - 0) word (omega (arith, whole))))

  -- if the digits are canonical, the word writes that number
  pub is_written : end ≡ 0 + digits_len word → IsCanonical word value → IsNumeral word value
  is_written ends fits =
      let digits = AllDigits-digits_len word (length word) (omega (arith, ends, whole)) in
      let all = rw (take_all (length word) word (le_refl (length word))) at digits in
      let small = small_value word value all fits value_is in
      let same : digits_value 10 word ≡ value = omega (arith, value_is, small) in
      let written = decimal-digits_value (numerals_by_value _ tells_digits) word all fits.0 fits.1 small in
      (sym written ∙ ap decimal same, omega (arith, same, small))

  -- if the word writes a number, its digits are canonical
  pub is_canonical : (n : ℕ) → IsNumeral word n → IsCanonical word value
  is_canonical n w =
      let numeral = rw (sym w.0) at (decimal_is_IsNumeral n w.1) in
      let lead = (BeginsAsPrinted-IsKeyText word n w).1 in (
        numeral.0.0,
        lead,
        rw (sym w.0) at (length-decimal-le 20 n (omega arith) (omega (arith, w.1)) w.1),
        λ twenty.
            let parts = twenty_digits word numeral.0.1 twenty in
            let above : get_or word 0 0 ≢ 48 = λ zero. omega (arith, lead zero, twenty) in
            (omega (arith, parts.1, above, numeral.1, w.1), omega (arith, parts.1, above, value_is, numeral.1, w.1)),
      )
