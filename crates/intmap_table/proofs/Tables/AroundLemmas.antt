-- The pairs and the rows of a table around one slot: what is before it, its own, and what is behind it.
use Rattle.std.proofs.Common.{◌≡◌, ℕ, zero, suc, ◌+◌, ◌<◌, ◌≤◌, List, [], ◌∷◌, ◌++◌, length, get_or, take, drop, refl, sym, ap, ◌∙◌, arith, append-nil, append_assoc, length-append, set, get_or-set_same, get_or-set_other}
use Rattle.std.proofs.lemmas.List.{append_cancel_left, get_or-drop, take-append-drop, drop-set-lt, take-set-le}
use Rattle.std.proofs.lemmas.Grind.{flat_map-append}
use Rattle.intmap_table.specs.Tables.Slots.{joined, IsNextRow}
use Rattle.intmap_table.proofs.LeadsLemmas.{Leads, Leads-end, Leads-next}
use Rattle.intmap_table.proofs.Tables.FilledLemmas.{joined-emptied}
use Rattle.intmap_table.proofs.Tables.TableLemmas.{joined-take}
use Rattle.std.specs.Prelude.{nat_lt}
use Rattle.std.specs.List.{FoldsTo}
use Rattle.intmap_table.specs.Taking.{Passes, TakesEach}
use Rattle.intmap_table.specs.Tables.Rows.{IsRowWord}
use Rattle.intmap_table.proofs.TakingLemmas.{TakesEach-behind}

module _ {P : Type 0} where
  -- the rows before an index, and those from there on
  pub joined-cut : (i : ℕ) (R : List (List P)) → joined R ≡ joined (take i R) ++ joined (drop i R)
  joined-cut i R = ap joined (sym (take-append-drop i R)) ∙ flat_map-append (λ row. row) (take i R) (drop i R)

  -- those up to a row, and all: those before it, its own, and those behind it
  pub joined-taken : (i : ℕ) (R : List (List P)) → joined (take (i + 1) R) ≡ joined (take i R) ++ get_or R i []
  joined-taken i R = let one : i + 1 ≡ suc i = omega arith in ap (λ n. joined (take n R)) one ∙ joined-take i R

  pub joined-around : (i : ℕ) (R : List (List P)) → joined R ≡ joined (take i R) ++ (get_or R i [] ++ joined (drop (i + 1) R))
  joined-around i R =
      joined-cut (i + 1) R ∙ ap (λ Z. Z ++ joined (drop (i + 1) R)) (joined-taken i R)
      ∙ append_assoc (joined (take i R)) (get_or R i []) (joined (drop (i + 1) R))

  pub length-around : (i : ℕ) (R : List (List P))
      → length (joined R) ≡ length (joined (take i R)) + (length (get_or R i []) + length (joined (drop (i + 1) R)))
  length-around i R =
      ap length (joined-around i R) ∙ length-append (joined (take i R)) (get_or R i [] ++ joined (drop (i + 1) R))
      ∙ ap (λ n. length (joined (take i R)) + n) (length-append (get_or R i []) (joined (drop (i + 1) R)))

  -- rows without pairs are passed over
  pub joined-take_past : (R : List (List P)) (from i : ℕ) → from ≤ i → ((j : ℕ) → from ≤ j → j < i → get_or R j [] ≡ [])
      → joined (take i R) ≡ joined (take from R)
  joined-take_past R zero zero up empty = refl
  joined-take_past R (suc from) zero up empty = absurd (omega (arith, up))
  joined-take_past [] zero (suc i) up empty = refl
  joined-take_past [] (suc from) (suc i) up empty = refl
  joined-take_past (row ∷ R) zero (suc i) up empty =
      rw (empty 0 (omega arith) (omega arith)) (joined-take_past R zero i (omega arith) (λ j _ lt. empty (suc j) (omega arith) (omega (arith, lt))))
  joined-take_past (row ∷ R) (suc from) (suc i) up empty =
      ap (λ Z. row ++ Z) (joined-take_past R from i (omega (arith, up)) (λ j le lt. empty (suc j) (omega (arith, le)) (omega (arith, lt))))

  -- if no row holds a pair from index i on
  pub joined-none : (i : ℕ) (R : List (List P)) → ((j : ℕ) → i ≤ j → get_or R j [] ≡ []) → joined (drop i R) ≡ []
  joined-none i R empty = joined-emptied (drop i R) (λ j. get_or-drop i R j [] ∙ empty (i + j) (omega arith))

  pub joined-before : (i : ℕ) (R : List (List P)) → ((j : ℕ) → i ≤ j → get_or R j [] ≡ []) → joined (take i R) ≡ joined R
  joined-before i R empty = sym (joined-cut i R ∙ ap (λ Z. joined (take i R) ++ Z) (joined-none i R empty) ∙ append-nil (joined (take i R)))

module _ {P : Type 0} (R : List (List P)) (from i : ℕ) (next : IsNextRow R from i) where
  -- the next row with a pair: as many are before it, and it is the first of those that are left
  pub next-taken : joined (take i R) ≡ joined (take from R)
  next-taken = joined-take_past R from i next.behind next.between

  pub next-left : joined (drop from R) ≡ get_or R i [] ++ joined (drop (i + 1) R)
  next-left =
      append_cancel_left (joined (take from R)) _ _
      (sym (joined-cut from R) ∙ joined-around i R ∙ ap (λ Z. Z ++ (get_or R i [] ++ joined (drop (i + 1) R))) next-taken)

-- it went over all if no row holds a pair from there on
pub Leads-all : {F P : Type 0} (Goes : F → List P → List P → F → Type 0) (f₀ f : F) (L : List P) (R : List (List P)) (from : ℕ)
    → ((j : ℕ) → from ≤ j → get_or R j [] ≡ []) → Goes f [] [] f → Leads Goes f₀ L f (joined (take from R)) (joined (drop from R)) → Goes f₀ L (joined R) f
Leads-all Goes f₀ f L R from empty none leads =
    rw (joined-before from R empty) at (Leads-end Goes f₀ f L (joined (take from R)) none (rw (joined-none from R empty) at leads))

module _ {P : Type 0} (R : List (List P)) (i : ℕ) (row : List P) where
  -- the rows before it and those behind it are as they were
  pub taken-same : joined (take i (set R i row)) ≡ joined (take i R)
  taken-same = ap joined (take-set-le i R i row (omega arith))

  pub left-same : joined (drop (i + 1) (set R i row)) ≡ joined (drop (i + 1) R)
  left-same = ap joined (drop-set-lt (i + 1) R i row (omega arith))

  -- and so is what is held of those behind it
  pub IsRowWord-set : (at word : ℕ) → IsRowWord R (i + 1) at word → IsRowWord (set R i row) (i + 1) at word
  IsRowWord-set at word held =
      let same : (j : ℕ) → i + 1 ≤ j → get_or (set R i row) j [] ≡ get_or R j [] = λ j le. get_or-set_other R i j row [] (λ e. omega (arith, le, e)) in
      record {
        fits = held.fits;
        reached = held.reached;
        before = λ j le lt. ap (λ r. nat_lt 0 (length r)) (same j le) ∙ held.before j le lt;
        bit = λ j own le. ap (λ r. nat_lt 0 (length r)) (same j le) ∙ held.bit j own le;
        none = held.none;
      }

-- row i is the next one with a pair, and is changed
module _ {P : Type 0} (R : List (List P)) (from i : ℕ) (row : List P) (next : IsNextRow R from i) where
  pub row-taken : joined (take (i + 1) (set R i row)) ≡ joined (take from R) ++ row
  row-taken = joined-taken i (set R i row) ∙ (λ k. (taken-same R i row ∙ next-taken R from i next) k ++ get_or-set_same R i row [] next.within k)

  pub row-left : joined (drop from R) ≡ get_or R i [] ++ joined (drop (i + 1) (set R i row))
  row-left = next-left R from i next ∙ ap (λ Z. get_or R i [] ++ Z) (sym (left-same R i row))

  module _ {F : Type 0} (f₀ f h : F) (L : List P) where
    -- what went over the pairs before it goes over its own
    pub Leads-row : (Goes : F → List P → List P → F → Type 0)
        → ((f g h : F) (L L' M M' : List P) → Goes f L M g → Goes g L' M' h → Goes f (L ++ L') (M ++ M') h)
        → Leads Goes f₀ L f (joined (take from R)) (joined (drop from R)) → Goes f (get_or R i []) row h
        → Leads Goes f₀ L h (joined (take (i + 1) (set R i row))) (joined (drop (i + 1) (set R i row)))
    Leads-row Goes append leads run =
        rw row-taken (Leads-next Goes append f₀ f h L _ (get_or R i []) row (joined (drop (i + 1) (set R i row))) (rw row-left at leads) run)

  -- and what takes all of those takes those behind them
  pub TakesEach-row : {F Y : Type 0} (S : F → P → Y → F → Type 0) (Q : F → P → Type 0) (f h : F)
      → TakesEach S Q f (joined (drop from R)) → FoldsTo (Passes S) f (get_or R i []) h → TakesEach S Q h (joined (drop (i + 1) (set R i row)))
  TakesEach-row S Q f h takes passed = TakesEach-behind S Q f h (get_or R i []) (joined (drop (i + 1) (set R i row))) (rw row-left at takes) passed
