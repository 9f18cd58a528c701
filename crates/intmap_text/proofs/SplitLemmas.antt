-- The lines and the words of a text, of which the first is taken off.
use Rattle.std.proofs.Common.{◌≡◌, ℕ, suc, ◌-◌, ◌<◌, ◌≤◌, Bool, true, false, List, [], ◌∷◌, length, take, drop, filter, Option, Some, None, refl, ap, sym, ◌∙◌, subst, arith, le_refl, one-add, eqb}
use Rattle.std.specs.List.{slice_split, prefix_len, position_or_len}
use Rattle.std.specs.Option.{unwrap_or}
use Rattle.std.proofs.lemmas.Bool.{false_from_ne_true}
use Rattle.std.proofs.lemmas.Bool.Decides.{nat_tests}
use Rattle.std.proofs.lemmas.List.Sums.{position_or_len_is}
use Rattle.std.proofs.lemmas.Grind.{common_steps}
use Rattle.memchr.specs.Find.{IsFirstByte, is_byte}
use Rattle.intmap_text.specs.Lines.{is_filled, lines_in, words_in}

module _ (p : ℕ → Bool) where
  -- what is before the first separator
  abbrev pub front : List ℕ → List ℕ
  front xs = take (position_or_len p xs) xs

  -- the first separator, and what is behind it
  abbrev pub back : List ℕ → List ℕ
  back xs = drop (position_or_len p xs) xs

  -- the parts behind the first, of a text from its first separator on
  abbrev pub later : List ℕ → List (List ℕ)
  later [] = []
  later (x ∷ xs) = slice_split p xs

  -- one byte more, by whether it is a separator
  split_step : (x : ℕ) (xs : List ℕ) (b : Bool) → p x ≡ b
      → slice_split p xs ≡ front xs ∷ later (back xs)
      → slice_split p (x ∷ xs) ≡ front (x ∷ xs) ∷ later (back (x ∷ xs))
  split_step x xs true e h = simp e
  split_step x xs false e h = simp (e, one-add, h)

  -- the first part, and the others
  pub slice_split-first : (xs : List ℕ) → slice_split p xs ≡ front xs ∷ later (back xs)
  slice_split-first [] = refl
  slice_split-first (x ∷ xs) = split_step x xs (p x) refl (slice_split-first xs)

-- whether a byte ends a line
abbrev is_end : ℕ → Bool
is_end b = eqb b 10

-- a search for a byte 10 finds where the first line ends, or the text does
pub place_of_end : (text : List ℕ) (found : Option ℕ) → IsFirstByte (is_byte 10) text found
    → unwrap_or found (length text) ≡ position_or_len is_end text
place_of_end text None none =
    sym (position_or_len_is is_end text (length text) 0 (le_refl (length text))
    (λ i l. false_from_ne_true _ (none i (omega arith) l)) (λ l. absurd (omega (arith, l))))
place_of_end text (Some n) first =
    sym (position_or_len_is is_end text n 0 (omega (arith, first.0.high))
    (λ i l. false_from_ne_true _ (first.0.before i (omega arith) l)) (λ l. first.1))

-- behind a line that no byte 10 ends there is no line
later_none : (rest : List ℕ) → length rest < 1 → later is_end rest ≡ []
later_none [] h = refl
later_none (x ∷ xs) h = absurd (omega arith)

-- behind a line and its byte 10 the lines of the rest follow
later_lines : (rest : List ℕ) → 1 ≤ length rest
    → later is_end rest ≡ lines_in (take (length rest - 1) (drop 1 rest))
later_lines [] h = absurd (omega arith)
later_lines (x ∷ xs) h =
    let whole : xs ≡ take (suc (length xs) - 1) xs = grind (arith, common_steps) in
    ap lines_in whole

module _ (text : List ℕ) (n : ℕ) (line rest : List ℕ) (len : n ≡ position_or_len is_end text)
    (line_is : line ≡ take n text) (rest_is : rest ≡ drop n text) where
  -- the first line of a text, and the others
  lines_in-first : lines_in text ≡ line ∷ later is_end rest
  lines_in-first =
      let one : line ≡ front is_end text = cc in
      let two : rest ≡ back is_end text = cc in
      let first = slice_split-first is_end text in
      cc

  -- a text whose first line is its last
  pub lines_in-last : length rest < 1 → lines_in text ≡ line ∷ []
  lines_in-last h = lines_in-first ∙ ap (λ ls. line ∷ ls) (later_none rest h)

  -- a text with a first line and further ones
  pub lines_in-ended : 1 ≤ length rest
      → lines_in text ≡ line ∷ lines_in (take (length rest - 1) (drop 1 rest))
  lines_in-ended h = lines_in-first ∙ ap (λ ls. line ∷ ls) (later_lines rest h)

-- whether a byte is between words
abbrev is_space : ℕ → Bool
is_space b = eqb b 32

-- a text without the spaces at its front
abbrev skipped : List ℕ → List ℕ
skipped xs = drop (prefix_len is_space xs) xs

-- one byte more, by whether it is a space
skip_step : (x : ℕ) (xs : List ℕ) (b : Bool) → is_space x ≡ b → words_in (skipped xs) ≡ words_in xs
    → words_in (skipped (x ∷ xs)) ≡ words_in (x ∷ xs)
skip_step x xs true e h = simp (e, one-add, h)
skip_step x xs false e h = simp e

-- spaces at the front are no part of a word
words_in-skipped : (xs : List ℕ) → words_in (skipped xs) ≡ words_in xs
words_in-skipped [] = refl
words_in-skipped (x ∷ xs) = skip_step x xs (is_space x) refl (words_in-skipped xs)

-- one byte more, by whether it is a space
later_step : (x : ℕ) (xs : List ℕ) (b : Bool) → is_space x ≡ b
    → filter is_filled (later is_space (back is_space xs)) ≡ words_in (back is_space xs)
    → filter is_filled (later is_space (back is_space (x ∷ xs))) ≡ words_in (back is_space (x ∷ xs))
later_step x xs true e h = simp e
later_step x xs false e h = simp (e, one-add, h)

-- the parts behind the first are the words from the first space on
later_words : (xs : List ℕ)
    → filter is_filled (later is_space (back is_space xs)) ≡ words_in (back is_space xs)
later_words [] = refl
later_words (x ∷ xs) = later_step x xs (is_space x) refl (later_words xs)

-- a part that is not empty is a word
filter-word : (w : List ℕ) (ps : List (List ℕ)) → eqb (length w) 0 ≡ false
    → filter is_filled (w ∷ ps) ≡ w ∷ filter is_filled ps
filter-word [] ps h = cc
filter-word (x ∷ w) ps h = refl

-- a text that begins with a word
words_in-front : (xs : List ℕ) → eqb (length (front is_space xs)) 0 ≡ false
    → words_in xs ≡ front is_space xs ∷ words_in (back is_space xs)
words_in-front xs h =
    ap (filter is_filled) (slice_split-first is_space xs)
    ∙ filter-word (front is_space xs) (later is_space (back is_space xs)) h
    ∙ ap (λ ws. front is_space xs ∷ ws) (later_words xs)

-- a number above 0 is not 0
not_empty : (n : ℕ) → eqb (suc n) 0 ≡ true → ⊥
not_empty n h = grind (arith, nat_tests)

-- one byte more, by whether it is a space
none_step : (x : ℕ) (xs : List ℕ) (b : Bool) → is_space x ≡ b
    → (eqb (length (front is_space (skipped xs))) 0 ≡ true → words_in xs ≡ [])
    → eqb (length (front is_space (skipped (x ∷ xs)))) 0 ≡ true → words_in (x ∷ xs) ≡ []
none_step x xs true e h none = simp e (h (simp (e, one-add) at none))
none_step x xs false e h none = absurd (not_empty _ (simp (e, one-add) at none))

-- if no word follows the spaces at the front, there is no word
words_in-spaces : (xs : List ℕ) → eqb (length (front is_space (skipped xs))) 0 ≡ true
    → words_in xs ≡ []
words_in-spaces [] h = refl
words_in-spaces (x ∷ xs) h = none_step x xs (is_space x) refl (words_in-spaces xs) h

module _ (xs : List ℕ) (n : ℕ) (rest : List ℕ) (m : ℕ) (word : List ℕ)
    (spaces : n ≡ prefix_len is_space xs) (rest_is : rest ≡ drop n xs)
    (len : m ≡ position_or_len is_space rest) (word_is : word ≡ take m rest) where
  -- a text of n spaces alone
  pub words_in-none : eqb (length word) 0 ≡ true → words_in xs ≡ []
  words_in-none none =
      let behind : rest ≡ skipped xs = cc in
      let one : word ≡ front is_space (skipped xs) = cc in
      words_in-spaces xs (subst (λ w. eqb (length w) 0 ≡ true) one none)

  -- a text that has a word behind n spaces
  pub words_in-first : (more : List ℕ) → more ≡ drop m rest → eqb (length word) 0 ≡ false
      → words_in xs ≡ word ∷ words_in more
  words_in-first more more_is filled =
      let behind : rest ≡ skipped xs = cc in
      let one : word ≡ front is_space rest = cc in
      let two : more ≡ back is_space rest = cc in
      let all = words_in-skipped xs in
      let first = words_in-front rest (subst (λ w. eqb (length w) 0 ≡ false) one filled) in
      cc
