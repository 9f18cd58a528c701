-- The marks of a table say which of its slots hold a pair.
use Rattle.std.proofs.Common.{◌≡◌, ℕ, zero, suc, ◌+◌, ◌-◌, ◌*◌, ◌/◌, ◌<◌, ◌≤◌, Bool, true, false, List, [], ◌∷◌, ◌++◌, length, get_or, set, replicate, refl, sym, ◌∙◌, subst, arith, length-set, length-append, get_or-set_same, get_or-set_other}
use Rattle.std.specs.Prelude.{◌==◌, cond, filter, count_by, nat_lt}
use Rattle.std.specs.List.{list_any, range_with_len}
use Rattle.std.proofs.lemmas.Bool.{lt-ltb, ltb-true}
use Rattle.std.proofs.lemmas.Bool.Decides.{nat_tests}
use Rattle.std.proofs.lemmas.List.{length-replicate, length_push, get_or_past, set-get_or}
use Rattle.std.proofs.lemmas.List.Sums.{sum_by-cons}
use Rattle.intmap_table.specs.Tables.Bits.{marked, marked_indices, IsNextMark}
use Rattle.intmap_table.specs.Tables.Nodes.{further}
use Rattle.intmap_table.specs.Tables.Slots.{joined, pairs_at, AreMarked, IsNextRow}
use Rattle.intmap_table.proofs.Tables.MarkedLemmas.{get_or-of_default, row-none, flat_map-marked_indices, length-marked_indices}

-- a row that holds a pair is one of the rows
pub row-within : {P : Type 0} (R : List (List P)) (i : ℕ) → 0 < length (get_or R i []) → i < length R
row-within R i some = let past = get_or_past R i [] in grind (arith, past, some)

module _ {P : Type 0} (R : List (List P)) (marks : List Bool) (are : AreMarked R marks) where
  -- each row has a mark
  pub marks-enough : length R ≤ length marks
  marks-enough = omega (arith, are.words)

  -- the rows at the marked indices are all pairs
  pub pairs_at-marked : pairs_at R (marked_indices marks) ≡ joined R
  pairs_at-marked = flat_map-marked_indices R marks marks-enough are.own

  -- the number of marked indices is the number of rows that hold a pair
  pub count-marked : length (marked_indices marks) ≡ count_by (λ row. nat_lt 0 (length row)) R
  count-marked = length-marked_indices R marks marks-enough are.own

  module _ (i : ℕ) (below : i < length R) where
    -- with row i and its mark changed
    pub AreMarked-set : (row : List P) (b : Bool) → b ≡ nat_lt 0 (length row) → AreMarked (set R i row) (set marks i b)
    AreMarked-set row b is = record {
      words = rw (length-set R i row) (length-set marks i b ∙ are.words);
      own = λ j.
          let mark = get_or-set_same marks i b false (omega (arith, below, marks-enough)) in let filled = get_or-set_same R i row [] below in
          let other_mark = get_or-set_other marks i j b false in let other = get_or-set_other R i j row [] in let own = are.own j in
          grind (arith, is, mark, filled, other_mark, other, own);
    }

    -- with row i changed, but not whether it holds a pair
    pub AreMarked-kept : (row : List P) → marked marks i ≡ nat_lt 0 (length row) → AreMarked (set R i row) marks
    AreMarked-kept row is = subst (AreMarked (set R i row)) (set-get_or marks i false) (AreMarked-set row (marked marks i) is)

-- if no row holds a pair, none is marked
pub AreMarked-none : {P : Type 0} (R : List (List P)) (C : ℕ) → length R ≡ C → ((i : ℕ) → get_or R i [] ≡ []) → AreMarked R (replicate (64 * ((C + 63) / 64)) false)
AreMarked-none R C len empty = record {
  words = rw len (length-replicate (64 * ((C + 63) / 64)) false);
  own = λ i. get_or-of_default (64 * ((C + 63) / 64)) i false ∙ rw (empty i) refl;
}

-- a row with a pair at its end holds one
pub filled-pushed : {P : Type 0} (row : List P) (p : P) → nat_lt 0 (length (row ++ p ∷ [])) ≡ true
filled-pushed row p = lt-ltb 0 (length (row ++ p ∷ [])) (let n = length_push row p in omega (arith, n))

-- a number that a run keeps is found among those that it keeps
kept-found : (test : ℕ → Bool) (i a n : ℕ) → list_any (λ j. j == i) (filter test (range_with_len a n)) ≡ false → a ≤ i → i < a + n → test i ≡ false
kept-found test i a zero missed from below = absurd (omega (arith, from, below))
kept-found test i a (suc n) missed from below = let rest = kept-found test i (a + 1) n in grind (arith, nat_tests, missed, from, below, rest)

-- a row whose index isn't among the marked ones holds no pair
pub row-unmarked : {P : Type 0} (R : List (List P)) (marks : List Bool) → AreMarked R marks → (i : ℕ) → list_any (λ j. j == i) (marked_indices marks) ≡ false → get_or R i [] ≡ []
row-unmarked R marks are i missed =
    let own = are.own i in let kept = kept-found (marked marks) i 0 (length marks) missed in let past = get_or_past marks i false in
    row-none (get_or R i []) (grind (arith, own, kept, past))

-- the pairs are the first ones of the rows and those behind them
pub length-joined : {P : Type 0} (R : List (List P)) → length (joined R) ≡ count_by (λ row. nat_lt 0 (length row)) R + further R
length-joined [] = refl
length-joined (row ∷ R) =
    let rest = length-joined R in let both = length-append row (joined R) in let more = sum_by-cons (λ r. length r - 1) row R in
    let some = sum_by-cons (λ r. cond {A = ℕ} (nat_lt 0 (length r)) 1 0) row R in
    grind (arith, nat_tests, rest, both, more, some)

-- rows without pairs, joined
pub joined-emptied : {P : Type 0} (R : List (List P)) → ((i : ℕ) → get_or R i [] ≡ []) → joined R ≡ []
joined-emptied [] empty = refl
joined-emptied (row ∷ R) empty = rw (empty 0) (joined-emptied R (λ i. empty (suc i)))

-- the next marked index is that of the next row with a pair
pub next-row : {P : Type 0} (R : List (List P)) (marks : List Bool) → ((i : ℕ) → marked marks i ≡ nat_lt 0 (length (get_or R i []))) → (from i : ℕ) → IsNextMark marks from i → IsNextRow R from i
next-row R marks own from i next =
    let some = ltb-true 0 (length (get_or R i [])) (sym (own i) ∙ next.is) in
    record {
      behind = next.behind;
      within = row-within R i some;
      filled = some;
      between = λ j le lt. row-none (get_or R j []) (sym (own j) ∙ next.between j le lt);
    }

pub next-marked : {P : Type 0} (R : List (List P)) (marks : List Bool) → AreMarked R marks → (from i : ℕ) → IsNextMark marks from i → IsNextRow R from i
next-marked R marks are = next-row R marks are.own

-- if no row holds a pair from the first one on that wasn't passed, there is none
pub joined-passed : {P : Type 0} (R : List (List P)) (from : ℕ) → ((j : ℕ) → j < from → get_or R j [] ≡ []) → ((j : ℕ) → from ≤ j → get_or R j [] ≡ []) → joined R ≡ []
joined-passed R from passed none = joined-emptied R (λ j. let before = passed j in let behind = none j in grind (arith, before, behind))
