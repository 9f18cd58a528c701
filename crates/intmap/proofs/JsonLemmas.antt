-- Keys as texts, and floats in the values of members.
use Rattle.std.proofs.Common.{◌≡◌, ◌≢◌, ℕ, zero, suc, ◌^◌, ◌<◌, List, ◌∷◌, [], length, get_or, map, String, Global, refl, ◌||◌, ap, sym, ◌∙◌, subst, arith, Result, Ok, Err, IfSome, IfNone}
use Rattle.std.specs.Result.{result_ok}
use Rattle.std.specs.Fmt.{decimal}
use Rattle.std.specs.Str.Parse.{AllDigits, digits_value, ParsesUnsigned}
use Rattle.std.proofs.lemmas.Str.Parse.{IsNumeralModel, numerals_by_value, tells_digits, parse_plain}
use Rattle.std.proofs.lemmas.Fmt.{decimal_digit, first_decimal, decimal-digits_value, parse-decimal}
use Rattle.serde_json.specs.View.{view, items_view, members_view}
use Rattle.serde_json.specs.Written.{has_float, items_have_float, members_have_float}
use Rattle.serde_json.specs.declared.value.Value.{Value}
use Rattle.intmap.specs.Json.{IsKeyText}

-- the digits that a number is parsed from
decimal_digits : IsNumeralModel (AllDigits 10) (digits_value 10)
decimal_digits = numerals_by_value (AllDigits 10) tells_digits

-- in front there is no plus, and no zero except one that is all of it
abbrev pub BeginsAsPrinted : List ℕ → Type 0
BeginsAsPrinted text = (get_or text 0 0 ≢ 43) × (get_or text 0 0 ≡ 48 → length text ≡ 1)

-- the text of a number begins so
pub BeginsAsPrinted-IsKeyText : (text : List ℕ) (k : ℕ) → IsKeyText text k → BeginsAsPrinted text
BeginsAsPrinted-IsKeyText text zero is =
    let digit : text ≡ 48 ∷ [] = is.0 ∙ decimal_digit 0 (omega arith) in
    let first : get_or text 0 0 ≡ 48 = ap (λ t. get_or t 0 0) digit in
    (λ plus. omega (arith, first, plus), λ _. ap length digit)
BeginsAsPrinted-IsKeyText text (suc k) is =
    let first : get_or text 0 0 ≡ get_or (decimal (suc k)) 0 0 = ap (λ t. get_or t 0 0) is.0 in
    let above = first_decimal (suc k) (omega arith) is.1 in (
      λ plus. omega (arith, first, above, plus),
      λ low. absurd (omega (arith, first, above, low)),
    )

-- what is parsed of a text that begins so is the number whose text it is
pub IsKeyText-parsed : {E : Type 0} (text : List ℕ) (r : Result ℕ E) → BeginsAsPrinted text → ParsesUnsigned 64 10 text r → IfSome (result_ok r) (IsKeyText text)
IsKeyText-parsed {E} text (Ok n) begins parsed =
    let read = parse_plain decimal_digits {E = E} 64 text (Ok n) parsed begins.0 in
    let printed = decimal-digits_value decimal_digits text read.0.0 read.0.1 begins.1 read.0.2 in
    (sym printed ∙ ap decimal (sym read.1), subst (λ m. m < 2 ^ 64) (sym read.1) read.0.2)
IsKeyText-parsed {E} text (Err e) begins parsed = tt

-- if nothing is parsed, it is the text of no number
pub IsKeyText-not_parsed : {E : Type 0} (text : List ℕ) (r : Result ℕ E) → ParsesUnsigned 64 10 text r → IfNone (result_ok r) ((k : ℕ) → ¬ IsKeyText text k)
IsKeyText-not_parsed {E} text (Ok n) parsed = tt
IsKeyText-not_parsed {E} text (Err e) parsed = λ k is.
    let read : Err e ≡ Ok k = parse-decimal 64 k text (Err e) is.1 is.1 is.0 parsed in cc

-- what a `Map` stores
abbrev pub Entry : Type 0
Entry = String Global × Value

-- the values of members hold a float if and only if the members do
pub items_have_float-values : (es : List Entry) → items_have_float (items_view (map (λ e. e.1) es)) ≡ members_have_float (members_view es)
items_have_float-values [] = refl
items_have_float-values (e ∷ es) = ap (λ b. has_float (view e.1) || b) (items_have_float-values es)
