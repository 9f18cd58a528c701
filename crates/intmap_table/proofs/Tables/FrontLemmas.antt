-- What the rows of a table hold once pairs were removed from the front of its walk.
use Rattle.std.proofs.Common.{◌≡◌, ℕ, ◌+◌, ◌<◌, ◌≤◌, false, zero-add, map, length-set, List, [], ◌++◌, length, get_or, set, take, drop, sym, ap, ◌∙◌, subst, arith, append_assoc, get_or-set_other}
use Rattle.std.specs.Prelude.{All, nat_lt}
use Rattle.std.specs.List.{range_with_len}
use Rattle.std.proofs.Math.Seq.{drop-append_seam}
use Rattle.std.proofs.lemmas.List.{ext_get_or, get_or-map, length-map}
use Rattle.std.proofs.lemmas.List.Elements.{All-drop}
use Rattle.std.proofs.lemmas.List.FromFn.{get_or-range_with_len, length-range_with_len}
use Rattle.intmap_table.specs.Classes.{slot_number}
use Rattle.intmap_table.specs.Fronts.{IsRowFront}
use Rattle.intmap_table.specs.Walk.{slot_of, ArePassed}
use Rattle.intmap_table.specs.declared.table.front.Front.{Front}
use Rattle.intmap_table.specs.Tables.Slots.{joined, IsNextRow}
use Rattle.intmap_table.specs.Tables.Rows.{IsTable}
use Rattle.intmap_table.proofs.Tables.AroundLemmas.{IsRowWord-set, joined-cut, joined-take_past, row-taken, row-left}
use Rattle.intmap_table.proofs.Tables.FilledLemmas.{joined-passed}
use Rattle.intmap_table.proofs.Tables.MarkedLemmas.{row-none}
use Rattle.intmap_table.proofs.Tables.TableLemmas.{slot_of-joined, IsTable-set_at}

-- the slots of a table's walk are its rows
pub rows-joined : {K X : Type 0} (number : K → ℕ) (R : List (List (K × X))) → IsTable number R → map (slot_of number (joined R) (length R)) (range_with_len 0 (length R)) ≡ R
rows-joined number R table =
    let row : ℕ → List _ = slot_of number (joined R) (length R) in
    let numbers = length-range_with_len 0 (length R) in
    let len = length-map (range_with_len 0 (length R)) row in
    ext_get_or [] (map row (range_with_len 0 (length R))) R (len ∙ numbers) (λ j below.
    let less : j < length (range_with_len 0 (length R)) = omega (arith, below, len) in
    get_or-map row (range_with_len 0 (length R)) j 0 [] less ∙ ap row (get_or-range_with_len 0 (length R) j 0 (omega (arith, less, numbers)) ∙ zero-add j) ∙ slot_of-joined number R table j)

module _ {K X : Type 0} (number : K → ℕ) (R : List (List (K × X))) (table : IsTable number R) (n : ℕ) where
  -- the rows of slots that were passed are empty
  pub rows-passed : ArePassed number (joined R) (length R) n → (j : ℕ) → j < n → get_or R j [] ≡ []
  rows-passed passed j lt = sym (slot_of-joined number R table j) ∙ passed j lt

  -- slots whose rows are empty were passed
  pub ArePassed-rows : ((j : ℕ) → j < n → get_or R j [] ≡ []) → ArePassed number (joined R) (length R) n
  ArePassed-rows empty j lt = slot_of-joined number R table j ∙ empty j lt

module _ {P : Type 0} (R : List (List P)) (from index : ℕ) (next : IsNextRow R from index) (passed : (j : ℕ) → j < from → get_or R j [] ≡ []) where
  none-before : joined (take from R) ≡ []
  none-before = joined-take_past R 0 from (omega arith) (λ j _ lt. passed j lt)

  -- the walk began with the pairs that the first filled slot lost
  pub joined-front : (ps row : List P) → get_or R index [] ≡ ps ++ row → joined R ≡ ps ++ joined (set R index row)
  joined-front ps row taken =
      let left = joined (drop (index + 1) (set R index row)) in
      let front : joined (take (index + 1) (set R index row)) ≡ row = row-taken R from index row next ∙ ap (λ Z. Z ++ row) none-before in
      joined-cut from R ∙ ap (λ Z. Z ++ joined (drop from R)) none-before ∙ row-left R from index row next
      ∙ ap (λ Z. Z ++ left) taken ∙ append_assoc ps row left ∙ ap (λ Z. ps ++ Z) (sym (joined-cut (index + 1) (set R index row) ∙ ap (λ Z. Z ++ left) front))

  -- the slots before it hold no pair
  pub rows-before : (row : List P) (j : ℕ) → j < index → get_or (set R index row) j [] ≡ []
  rows-before row j lt =
      let empty : get_or R j [] ≡ [] = (let before = passed j in let behind = next.between j in grind (arith, lt, before, behind)) in
      get_or-set_other R index j row [] (λ q. omega (arith, lt, q)) ∙ empty

module _ {P : Type 0} (R : List (List P)) (f : Front) (front : IsRowFront R f) where
  -- if neither the front's slot nor one behind it holds a pair, no pair is left
  pub joined-left : nat_lt 0 (length (get_or R f.at [])) ≡ false → ((j : ℕ) → f.at + 1 ≤ j → get_or R j [] ≡ []) → joined R ≡ []
  joined-left none behind = joined-passed R (f.at + 1) (λ j less. let before = front.passed j in let here = row-none (get_or R f.at []) none in grind (arith, before, here, less)) behind

  -- once the first row with a pair is the front's, it may lose pairs
  pub IsRowFront-set : IsNextRow R 0 f.at → (row : List P) → IsRowFront (set R f.at row) f
  IsRowFront-set next row = record {
    within = (let len = length-set R f.at row in omega (arith, len, next.within));
    passed = rows-before R 0 f.at next (λ j less. absurd (omega (arith, less))) row;
    left = IsRowWord-set R f.at row f.left.at f.left.word front.left;
  }

module _ {K X : Type 0} (number : K → ℕ) (R : List (List (K × X))) (old : IsTable number R) (from index : ℕ) (next : IsNextRow R from index)
    (passed : (j : ℕ) → j < from → get_or R j [] ≡ []) (ps row : List (K × X)) (taken : get_or R index [] ≡ ps ++ row) where
  -- the rows are those of a table
  pub IsTable-front : IsTable number (set R index row)
  IsTable-front =
      let Own : List (K × X) → Type 0 = λ L. All (λ p. slot_number number p.0 (length R) ≡ index) L in
      let all = All-drop (λ p. slot_number number p.0 (length R) ≡ index) (length ps) (ps ++ row) (subst Own taken (old.in_place index next.within)) in
      IsTable-set_at number R old index row next.within (subst Own (drop-append_seam ps row) all)

  -- all slots before it were passed
  pub ArePassed-front : ArePassed number (joined (set R index row)) (length (set R index row)) index
  ArePassed-front = ArePassed-rows number (set R index row) IsTable-front index (rows-before R from index next passed row)
