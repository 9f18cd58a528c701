-- Where a place of a slot is in the walk of a table, what comes behind it, what a step of a cursor does, and what the removal of the pair there does.
use Rattle.std.proofs.Common.{◌≡◌, inl, inr, ℕ, ◌+◌, ◌-◌, ◌<◌, ◌≤◌, List, [], ◌∷◌, ◌++◌, length, get_or, take, drop, min, sym, ap, ◌∙◌, subst, arith, length-append, zero, suc, set, zero-add, append-nil, refl, get_or-set_same}
use Rattle.std.proofs.Math.Seq.{drop-append-add, take-append-add, drop-append_seam, take-append_seam}
use Rattle.std.proofs.lemmas.Bool.{cases_lt}
use Rattle.std.proofs.lemmas.List.{drop_all, drop_min, drop_more, drop-append-le, take-append-le, take_min, length-take-le}
use Rattle.intmap_table.specs.Tables.Slots.{joined, count_before, IsNextRow}
use Rattle.intmap_table.proofs.Tables.AroundLemmas.{joined-before, joined-around, joined-taken, length-around, next-taken, left-same, taken-same}
use Rattle.std.specs.List.{flat_map, range_with_len}
use Rattle.std.proofs.lemmas.Grind.{flat_map-append}
use Rattle.std.proofs.lemmas.List.Elements.{All-append, All-drop, All-get_or, All-take}
use Rattle.intmap_table.specs.Classes.{slot_number}
use Rattle.intmap_table.specs.Picking.{IsReached, pairs_before}
use Rattle.intmap_table.specs.Tables.Rows.{IsTable}
use Rattle.intmap_table.specs.Walk.{slot_of}
use Rattle.intmap_table.specs.declared.table.walk.Cursor.{Cursor}
use Rattle.intmap_table.proofs.Tables.FilledLemmas.{row-within}
use Rattle.intmap_table.proofs.Tables.MarkedLemmas.{range_with_len-add}
use Rattle.intmap_table.proofs.Tables.TableLemmas.{joined-take, IsTable-set_at, slot_of-joined}

module _ {P : Type 0} (R : List (List P)) (i j : ℕ) where
  abbrev row : List P
  row = get_or R i []

  -- those behind it
  pub drop-before : drop (count_before R i j) (joined R) ≡ drop j row ++ joined (drop (i + 1) R)
  drop-before =
      (λ k. drop (count_before R i j) (joined-around i R k)) ∙ drop-append-add (joined (take i R)) (row ++ joined (drop (i + 1) R)) (min j (length row))
      ∙ drop-append-le (min j (length row)) row (joined (drop (i + 1) R)) (omega arith) ∙ ap (λ Z. Z ++ joined (drop (i + 1) R)) (drop_min j row)

  -- and those before it
  pub take-before : take (count_before R i j) (joined R) ≡ joined (take i R) ++ take j row
  take-before =
      (λ k. take (count_before R i j) (joined-around i R k)) ∙ take-append-add (joined (take i R)) (row ++ joined (drop (i + 1) R)) (min j (length row))
      ∙ ap (λ Z. joined (take i R) ++ Z) (take-append-le (min j (length row)) row (joined (drop (i + 1) R)) (omega arith) ∙ take_min j row)

  -- the one at hand, and what is left behind it
  pub drop-here : (p : P) → j < length row → drop (count_before R i j) (joined R) ≡ get_or row j p ∷ drop (count_before R i (j + 1)) (joined R)
  drop-here p below =
      drop-before ∙ ap (λ Z. Z ++ joined (drop (i + 1) R)) (drop_more row j p below)
      ∙ ap (λ Z. get_or row j p ∷ Z) (sym (drop-append-le (j + 1) row (joined (drop (i + 1) R)) (omega (arith, below))) ∙ whole)
    where
      whole : drop (j + 1) (row ++ joined (drop (i + 1) R)) ≡ drop (count_before R i (j + 1)) (joined R)
      whole = sym ((λ k. drop (count_before R i (j + 1)) (joined-around i R k)) ∙ ap (λ m. drop (length (joined (take i R)) + m) (joined (take i R) ++ (row ++ joined (drop (i + 1) R)))) (omega (arith, below)) ∙ drop-append-add (joined (take i R)) (row ++ joined (drop (i + 1) R)) (j + 1))

  pub before-here : j < length row → count_before R i (j + 1) ≡ count_before R i j + 1
  before-here below = omega (arith, below)

  -- at the end of the row the next one begins
  pub before-past : length row ≤ j → count_before R (i + 1) 0 ≡ count_before R i j
  before-past past = let taken = ap length (joined-taken i R) ∙ length-append (joined (take i R)) row in omega (arith, past, taken)

-- the next row that holds one is behind the same elements
pub before-next : {P : Type 0} (R : List (List P)) (from i : ℕ) → IsNextRow R from i → count_before R i 0 ≡ count_before R from 0
before-next R from i next = let same = ap length (next-taken R from i next) in omega (arith, same)

-- if no row holds one any more, none is left
pub drop-end : {P : Type 0} (R : List (List P)) (i : ℕ) → ((k : ℕ) → i ≤ k → get_or R k [] ≡ []) → drop (count_before R i 0) (joined R) ≡ []
drop-end R i empty = let long = ap length (joined-before i R empty) in drop_all (count_before R i 0) (joined R) (omega (arith, long))

-- at place j of row i, n elements were passed
pub record IsInRows {P : Type 0} (R : List (List P)) (i j n : ℕ) : Type 0 where
  pub within : j ≤ length (get_or R i [])
  pub count : n ≡ count_before R i j

module _ {P : Type 0} (R : List (List P)) (i j n : ℕ) (at : IsInRows R i j n) where
  -- those that are left
  pub drop-reached : drop n (joined R) ≡ drop j (get_or R i []) ++ joined (drop (i + 1) R)
  drop-reached = ap (λ m. drop m (joined R)) at.count ∙ drop-before R i j

  -- with those that are left of the row there are no more than in all
  pub row-few : n + (length (get_or R i []) - j) ≤ length (joined R)
  row-few = let all = length-around i R in omega (arith, all, at.count, at.within)

  -- if no row holds an element any more, none is left
  pub drop-none : ((k : ℕ) → i ≤ k → get_or R k [] ≡ []) → drop n (joined R) ≡ []
  drop-none empty = let long = ap length (joined-before i R empty) in drop_all n (joined R) (omega (arith, long, at.count))

  -- the row is at its end: the next one begins
  pub IsInRows-past : length (get_or R i []) ≤ j → IsInRows R (i + 1) 0 n
  IsInRows-past past = record { within = omega arith; count = at.count ∙ sym (before-past R i j past) }

  -- the next row that holds one is the current one: if that isn't this row, this one is empty
  pub IsInRows-next : (k : ℕ) → IsNextRow R i k → IsInRows R k j n
  IsInRows-next k next = elim (cases_lt i k) as (λ _. IsInRows R k j n) [
    | inl before ↦
        (let none = ap length (next.between i (omega arith) before) in let same = before-next R i k next in
        record { within = omega (arith, none, at.within); count = omega (arith, at.count, at.within, none, same) })
    | inr up ↦ (let same : i ≡ k = omega (arith, up, next.behind) in subst (λ m. IsInRows R m j n) same at)
  ]

module _ {K X : Type 0} (number : K → ℕ) (R : List (List (K × X))) (table : IsTable number R) where
  abbrev slot : ℕ → List (K × X)
  slot = slot_of number (joined R) (length R)

  -- the slots before one are its rows
  pub slots-before : (i : ℕ) → flat_map slot (range_with_len 0 i) ≡ joined (take i R)
  slots-before zero = refl
  slots-before (suc i) =
      let more : suc i ≡ i + 1 = omega arith in
      ap (λ n. flat_map slot (range_with_len 0 n)) more ∙ ap (flat_map slot) (range_with_len-add 0 i 1 ∙ ap (λ h. range_with_len 0 i ++ h ∷ []) (zero-add i)) ∙ flat_map-append slot (range_with_len 0 i) (i ∷ [])
      ∙ (λ k. slots-before i k ++ (append-nil (slot i) ∙ slot_of-joined number R table i) k) ∙ sym (joined-take i R)

  -- what was passed in the walk was passed in the rows
  pub IsInRows-reached : (i j n : ℕ) → IsReached number (joined R) (length R) i j n → IsInRows R i j n
  IsInRows-reached i j n reached = record {
    within = subst (λ ps. j ≤ length ps) (slot_of-joined number R table i) reached.within;
    count = (let all = reached.count in let before = ap length (slots-before i) in let row = ap length (slot_of-joined number R table i) in
        let fits = reached.within in omega (arith, all, before, row, fits));
  }

  pub IsReached-at : (i j n : ℕ) → IsInRows R i j n → IsReached number (joined R) (length R) i j n
  IsReached-at i j n at = record {
    within = subst (λ ps. j ≤ length ps) (sym (slot_of-joined number R table i)) at.within;
    count = (let before = ap length (slots-before i) in omega (arith, at.count, at.within, before));
    few = (let few = row-few R i j n at in omega (arith, few));
  }

  -- the position of a cursor in the walk of a table is that in its rows
  pub pairs_before-joined : (at : Cursor) → pairs_before number (joined R) (length R) at ≡ count_before R at.slot at.place
  pairs_before-joined at i = length (slots-before at.slot i) + min at.place (length (slot_of-joined number R table at.slot i))

-- a pair of a row belongs to its slot
pub slot_number-here : {K X : Type 0} (number : K → ℕ) (R : List (List (K × X))) (i j : ℕ) (p : K × X) → IsTable number R → j < length (get_or R i []) → get_or (get_or R i []) j p ≡ p
    → slot_number number p.0 (length R) ≡ i
slot_number-here {K = K} {X = X} number R i j p table below here =
    let Own = λ (q : K × X). slot_number number q.0 (length R) ≡ i in
    subst Own here (All-get_or Own (get_or R i []) j p below (table.in_place i (row-within R i (omega (arith, below)))))

-- the rows without the pair p at place j of row i
module _ {K X : Type 0} (number : K → ℕ) (R : List (List (K × X))) (i j : ℕ) (p : K × X) (below : j < length (get_or R i [])) (here : get_or (get_or R i []) j p ≡ p) where
  abbrev front : List (K × X)
  front = take j (get_or R i [])

  abbrev rest : List (K × X)
  rest = drop (j + 1) (get_or R i [])

  abbrev pub without : List (List (K × X))
  without = set R i (front ++ rest)

  within : i < length R
  within = row-within R i (omega (arith, below))

  row-left : get_or without i [] ≡ front ++ rest
  row-left = get_or-set_same R i (front ++ rest) [] within

  fits : length front ≡ j
  fits = length-take-le j (get_or R i []) (omega (arith, below))

  -- they are a table
  pub IsTable-cut : IsTable number R → IsTable number without
  IsTable-cut table =
      let Own = λ (q : K × X). slot_number number q.0 (length R) ≡ i in let all = table.in_place i within in
      IsTable-set_at number R table i (front ++ rest) within
      (All-append Own front rest (All-take Own j (get_or R i []) all) (All-drop Own (j + 1) (get_or R i []) all))

  -- as many pairs are before the place
  pub before-cut : count_before without i j ≡ count_before R i j
  before-cut =
      let before = ap length (taken-same R i (front ++ rest)) in let row = ap length row-left ∙ length-append front rest in
      omega (arith, below, before, row, fits)

  -- and the same ones
  pub take-cut : take (count_before without i j) (joined without) ≡ take (count_before R i j) (joined R)
  take-cut =
      take-before without i j
      ∙ (λ k. taken-same R i (front ++ rest) k ++ (ap (take j) row-left ∙ ap (λ n. take n (front ++ rest)) (sym fits) ∙ take-append_seam front rest) k)
      ∙ sym (take-before R i j)

  -- behind it is what was behind the pair
  pub drop-cut : drop (count_before R i j) (joined R) ≡ p ∷ drop (count_before without i j) (joined without)
  drop-cut =
      drop-before R i j ∙ ap (λ Z. Z ++ joined (drop (i + 1) R)) (drop_more (get_or R i []) j p below ∙ ap (λ q. q ∷ rest) here)
      ∙ ap (λ Z. p ∷ Z) (sym (drop-before without i j
      ∙ (λ k. (ap (drop j) row-left ∙ ap (λ n. drop n (front ++ rest)) (sym fits) ∙ drop-append_seam front rest) k ++ left-same R i (front ++ rest) k)))

  -- the place is in the row that is left, or at its end
  pub within-cut : j ≤ length (get_or without i [])
  within-cut = let row = ap length row-left ∙ length-append front rest in omega (arith, row, fits)
