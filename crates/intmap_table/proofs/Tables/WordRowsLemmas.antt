-- The rows whose marks are in one word, and what a closure that is asked about each of their pairs leaves of them.
use Rattle.std.proofs.Common.{◌≡◌, ◌⊎◌, inl, inr, ℕ, ◌+◌, ◌-◌, ◌*◌, ◌/◌, ◌%◌, ◌^◌, ◌<◌, ◌≤◌, Bool, List, [], ◌++◌, length, map, get_or, set, take, drop, refl, sym, ap, ◌∙◌, subst, arith, zero-add, bit_and, w64, get_or-set_same, get_or-set_other, length-set}
use Rattle.std.specs.Prelude.{nat_lt}
use Rattle.std.specs.Int.{trailing_zeros}
use Rattle.std.proofs.Math.ListN.{get_or-map}
use Rattle.std.proofs.Math.Seq.{take-add, take-set-lt}
use Rattle.std.proofs.lemmas.Bool.{cases_eq, cases_lt, lt-ltb}
use Rattle.std.proofs.lemmas.Grind.{flat_map-append}
use Rattle.std.proofs.lemmas.List.{drop-drop, drop-set-add, drop-set-lt, get_or-drop, get_or-take, get_or_past, length-take, take-append-drop, take-set-le}
use Rattle.std.proofs.lemmas.Nat.{and_le_l}
use Rattle.intmap_table.specs.Retaining.{Retains}
use Rattle.intmap_table.specs.Taking.{TakesEach}
use Rattle.intmap_table.specs.Tables.Bits.{has_bit, marked, IsWordFrom, IsWordOf}
use Rattle.intmap_table.specs.Tables.Rows.{IsRowWord}
use Rattle.intmap_table.specs.Tables.Slots.{joined, AreMarked, IsNextRow}
use Rattle.intmap_table.specs.Tables.WordRows.{word_rows, IsFilledWord, IsWordChanged}
use Rattle.intmap_table.proofs.LeadsLemmas.{Leads}
use Rattle.intmap_table.proofs.RetainLemmas.{FoldsTo-Retains, Retains-append}
use Rattle.intmap_table.proofs.TakingLemmas.{TakesEach-front}
use Rattle.intmap_table.proofs.Tables.AroundLemmas.{IsRowWord-set, Leads-all, Leads-row, next-left, TakesEach-row}
use Rattle.intmap_table.proofs.Tables.BitsLemmas.{IsLowest, without_lowest_of, has_bit-cleared, has_bit-cleared_other}
use Rattle.intmap_table.proofs.Tables.FilledLemmas.{next-row}
use Rattle.intmap_table.proofs.Tables.MarkedLemmas.{row-none}
use Rattle.intmap_table.proofs.Tables.NextMarkLemmas.{has_bit-zero, IsNextMark-word, IsWordFrom-rest}

module _ {P : Type 0} (from : ℕ) (R : List (List P)) where
  pub length-word_rows : length (word_rows from R) ≤ 64
  length-word_rows = let n = length-take 64 (drop from R) in omega (arith, n)

  -- the row at one of these places
  pub get_or-word_rows : (j : ℕ) → j < 64 → get_or (word_rows from R) j [] ≡ get_or R (from + j) []
  get_or-word_rows j small = get_or-take 64 (drop from R) j [] small ∙ get_or-drop from R j []

  -- the others stay
  pub get_or-changed : (S : List (List P)) → IsWordChanged from R S → (j : ℕ) → (j < from) ⊎ (from + 64 ≤ j) → get_or S j [] ≡ get_or R j []
  get_or-changed S changed j (inl down) = sym (get_or-take from S j [] down) ∙ ap (λ T. get_or T j []) changed.before ∙ get_or-take from R j [] down
  get_or-changed S changed j (inr up) =
      let at : from + 64 + (j - (from + 64)) ≡ j = omega (arith, up) in
      ap (λ i. get_or S i []) (sym at) ∙ sym (get_or-drop (from + 64) S (j - (from + 64)) []) ∙ ap (λ T. get_or T (j - (from + 64)) []) changed.behind
      ∙ get_or-drop (from + 64) R (j - (from + 64)) [] ∙ ap (λ i. get_or R i []) at

  -- once they are changed, the pairs before them are as they were, and so are those behind
  module _ (S : List (List P)) (changed : IsWordChanged from R S) where
    pub joined-done : joined (take (from + 64) S) ≡ joined (take from R) ++ joined (word_rows from S)
    joined-done =
        ap joined (take-add from 64 S) ∙ flat_map-append (λ row. row) (take from S) (word_rows from S)
        ∙ ap (λ T. joined T ++ joined (word_rows from S)) changed.before

    pub joined-left : joined (drop from R) ≡ joined (word_rows from R) ++ joined (drop (from + 64) S)
    joined-left =
        ap joined (sym (take-append-drop 64 (drop from R))) ∙ flat_map-append (λ row. row) (word_rows from R) (drop 64 (drop from R))
        ∙ ap (λ T. joined (word_rows from R) ++ joined T) (drop-drop 64 from R ∙ sym changed.behind)

  -- one of them is changed
  pub word_rows-set : (low : ℕ) (row : List P) → low < 64 → word_rows from (set R (from + low) row) ≡ set (word_rows from R) low row
  word_rows-set low row small = ap (take 64) (drop-set-add from R low row) ∙ take-set-lt 64 (drop from R) low row small

  pub IsWordChanged-set : (S : List (List P)) (low : ℕ) (row : List P) → low < 64 → IsWordChanged from R S → IsWordChanged from R (set S (from + low) row)
  IsWordChanged-set S low row small changed = record {
    len = length-set S (from + low) row ∙ changed.len;
    before = take-set-le from S (from + low) row (omega arith) ∙ changed.before;
    behind = drop-set-lt (from + 64) S (from + low) row (omega (arith, small)) ∙ changed.behind;
  }

module _ {P : Type 0} (from : ℕ) (start : from % 64 ≡ 0) where
  -- a word of the marks says which of these rows hold a pair
  pub IsFilledWord-marked : (R : List (List P)) (marks : List Bool) (word : ℕ) → AreMarked R marks → IsWordOf marks from word → IsFilledWord (word_rows from R) word
  IsFilledWord-marked R marks word are is j small =
      let at : 64 * (from / 64) + j ≡ from + j = omega (arith, start) in
      is j small ∙ ap (marked marks) at ∙ are.own (from + j) ∙ ap (λ row. nat_lt 0 (length row)) (sym (get_or-word_rows from R j small))

  -- and with another word the marks say so of the others
  pub AreMarked-word : (R S : List (List P)) (marks new : List Bool) (word : ℕ) → AreMarked R marks → IsWordChanged from R S → IsFilledWord (word_rows from S) word → IsWordOf new from word
      → ((j : ℕ) → (j / 64 ≡ from / 64 → ⊥) → marked new j ≡ marked marks j) → length new ≡ length marks → AreMarked S new
  AreMarked-word R S marks new word are changed is own others len = record {
    words = len ∙ are.words ∙ ap (λ n. 64 * ((n + 63) / 64)) (sym changed.len);
    own = λ j. elim (cases_eq (j / 64) (from / 64)) [
      | inl e ↦
          (let at : 64 * (from / 64) + j % 64 ≡ j = omega (arith, e) in let there : from + j % 64 ≡ j = omega (arith, e, start) in
          sym (ap (marked new) at) ∙ sym (own (j % 64) (omega arith)) ∙ is (j % 64) (omega arith)
          ∙ ap (λ row. nat_lt 0 (length row)) (get_or-word_rows from S (j % 64) (omega arith) ∙ ap (λ i. get_or S i []) there))
      | inr apart ↦ others j apart ∙ are.own j ∙ ap (λ row. nat_lt 0 (length row)) (sym (get_or-changed from R S changed j (elim (cases_lt j from) [ inl down ↦ inl down | inr up ↦ inr (omega (arith, up, apart, start)) ])))
    ];
  }

module _ {P : Type 0} (C : List (List P)) where
  -- a word with a bit for each row has those from the first row on
  pub IsRowWord-start : (word : ℕ) → IsFilledWord C word → IsRowWord C 0 0 word
  IsRowWord-start word is = record {
    fits = omega arith;
    reached = omega arith;
    before = λ j le lt. absurd (omega (arith, lt));
    bit = λ j own le. (let r : j % 64 ≡ j = omega (arith, own) in sym (ap (has_bit word) r ∙ is j (omega (arith, own))));
    none = λ j own lt. absurd (omega (arith, lt));
  }

  module _ (from at word : ℕ) (here : IsRowWord C from at word) where
    abbrev marks : List Bool
    marks = map (λ row. nat_lt 0 (length row)) C

    own : (i : ℕ) → marked marks i ≡ nat_lt 0 (length (get_or C i []))
    own i = get_or-map (λ (row : List P). nat_lt 0 (length row)) C i []

    held : IsWordFrom (marked marks) from at word
    held = subst (λ test. IsWordFrom test from at word) (λ k i. sym (own i) k) here

    -- its lowest bit is that of the next row with a pair, and the others are those behind
    pub IsNextRow-word : 0 < word → word < 2 ^ 64 → IsNextRow C from (at * 64 + trailing_zeros w64 word)
    IsNextRow-word some fits = next-row C marks own from (at * 64 + trailing_zeros w64 word) (IsNextMark-word marks from at word held some fits)

    pub IsRowWord-rest : 0 < word → word < 2 ^ 64 → IsRowWord C (at * 64 + trailing_zeros w64 word + 1) at (bit_and word (word - 1))
    IsRowWord-rest some fits = subst (λ test. IsWordFrom test (at * 64 + trailing_zeros w64 word + 1) at (bit_and word (word - 1))) (λ k i. own i k) (IsWordFrom-rest marks from at word held some fits)

  module _ (word low : ℕ) (row : List P) (is : IsFilledWord C word) (within : low < length C) where
    -- a row has another one in its place
    IsFilledWord-set : (new : ℕ) → has_bit new low ≡ nat_lt 0 (length row) → ((j : ℕ) → j < 64 → (j ≡ low → ⊥) → has_bit new j ≡ has_bit word j) → IsFilledWord (set C low row) new
    IsFilledWord-set new here others j small = elim (cases_eq j low) [
      | inl e ↦ ap (has_bit new) e ∙ here ∙ ap (λ r. nat_lt 0 (length r)) (sym (ap (λ i. get_or (set C low row) i []) e ∙ get_or-set_same C low row [] within))
      | inr apart ↦ others j small apart ∙ is j small ∙ ap (λ r. nat_lt 0 (length r)) (sym (get_or-set_other C low j row [] apart))
    ]

    -- which holds a pair, as the old one did
    pub IsFilledWord-filled : low < 64 → 0 < length (get_or C low []) → 0 < length row → IsFilledWord (set C low row) word
    IsFilledWord-filled small old new = IsFilledWord-set word (is low small ∙ lt-ltb 0 _ old ∙ sym (lt-ltb 0 (length row) new)) (λ j _ _. refl)

    -- or holds none
    pub IsFilledWord-emptied : (left : ℕ) → IsLowest left low → left < 2 ^ 64 → low < 64 → row ≡ [] → IsFilledWord (set C low row) (without_lowest_of left word)
    IsFilledWord-emptied left lowest fits small none =
        IsFilledWord-set (without_lowest_of left word)
        (has_bit-cleared word left low lowest fits small ∙ ap (λ r. nat_lt 0 (length r)) (sym none))
        (λ j below apart. has_bit-cleared_other word left low lowest fits j below apart)

module _ {P F : Type 0} (R : F → P → Bool → F → Type 0) (Q : F → P → Type 0) (C₀ : List (List P)) (f₀ : F) where
  -- the closure was asked about the pairs of these rows before one of them. The bits from there on are left
  pub record AreAsked (C : List (List P)) (f : F) (left : ℕ) : Type 0 where
    pub from : ℕ
    pub word : IsRowWord C from 0 left
    pub fits : left < 2 ^ 64
    pub callable : TakesEach R Q f (joined (drop from C))
    pub leads : Leads (Retains R) f₀ (joined C₀) f (joined (take from C)) (joined (drop from C))

  -- about none yet
  pub AreAsked-start : (word : ℕ) → IsFilledWord C₀ word → word < 2 ^ 64 → TakesEach R Q f₀ (joined C₀) → AreAsked C₀ f₀ word
  AreAsked-start word is fits callable = record {
    from = 0;
    word = IsRowWord-start C₀ word is;
    fits = fits;
    callable = callable;
    leads = λ N g run. run;
  }

  module _ (C : List (List P)) (f : F) (left : ℕ) (asked : AreAsked C f left) (some : 0 < left) where
    -- the lowest bit that is left is that of the next row
    pub next : IsNextRow C asked.from (trailing_zeros w64 left)
    next = subst (IsNextRow C asked.from) (zero-add _) (IsNextRow-word C asked.from 0 left asked.word some asked.fits)

    pub asks : TakesEach R Q f (get_or C (trailing_zeros w64 left) [])
    asks = TakesEach-front R Q f _ _ (rw (next-left C asked.from (trailing_zeros w64 left) next) at asked.callable)

    pub AreAsked-next : (row : List P) (h : F) → Retains R f (get_or C (trailing_zeros w64 left) []) row h → AreAsked (set C (trailing_zeros w64 left) row) h (bit_and left (left - 1))
    AreAsked-next row h run =
        let low = trailing_zeros w64 left in
        record {
          from = low + 1;
          word = IsRowWord-set C low row 0 (bit_and left (left - 1)) (subst (λ i. IsRowWord C (i + 1) 0 (bit_and left (left - 1))) (zero-add _) (IsRowWord-rest C asked.from 0 left asked.word some asked.fits));
          fits = (let le = and_le_l left (left - 1) in omega (arith, le, asked.fits));
          callable = TakesEach-row C asked.from low row next R Q f h asked.callable (FoldsTo-Retains R f h _ row run);
          leads = Leads-row C asked.from low row next f₀ f h (joined C₀) (Retains R) (Retains-append R) asked.leads run;
        }

  -- about all
  pub AreAsked-end : (C : List (List P)) (f : F) → length C ≤ 64 → AreAsked C f 0 → Retains R f₀ (joined C₀) (joined C) f
  AreAsked-end C f short asked =
      Leads-all (Retains R) f₀ f (joined C₀) C asked.from
      (λ j le. elim (cases_lt j 64) [
        | inl small ↦ row-none (get_or C j []) (asked.word.bit j (omega (arith, small)) le ∙ has_bit-zero (j % 64))
        | inr past ↦ get_or_past C j [] (omega (arith, short, past))
      ])
      (refl, refl) asked.leads
