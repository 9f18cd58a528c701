-- The rows of a table whose pairs have all moved, or were all cloned.
use Rattle.std.proofs.Common.{◌≡◌, ℕ, List, [], ◌∷◌, length, get_or, sym, ap, subst, zero, suc, refl, true}
use Rattle.std.specs.Prelude.{◌==◌, All}
use Rattle.std.specs.List.{AllZip}
use Rattle.std.proofs.lemmas.Bool.{eqb-true}
use Rattle.std.proofs.lemmas.List.Elements.{All-weaker, filter_passes}
use Rattle.intmap_table.specs.Classes.{IsCapacity, slot_number}
use Rattle.intmap_table.specs.Cloning.{IsPairClone}
use Rattle.intmap_table.specs.Walk.{slot_of, walk_of}
use Rattle.intmap_table.specs.Tables.Slots.{joined}
use Rattle.intmap_table.specs.Tables.Rows.{IsTable, HasMoved}
use Rattle.intmap_table.proofs.Tables.CloneLemmas.{AllZip-append, AreClones, keys_of-AreClones}
use Rattle.intmap_table.proofs.Tables.SameKeysLemmas.{All-same_keys}
use Rattle.intmap_table.proofs.Tables.TableLemmas.{walk_of-rows}

module _ {K X : Type 0} (number : K → ℕ) (L : List (K × X)) (C : ℕ) (T : List (List (K × X))) (moved : HasMoved number L C T) where
  -- once all are moved, the rows, joined, are the walk of the pairs
  pub joined-moved : joined T ≡ walk_of number L C
  joined-moved = sym (walk_of-rows number L C T (sym moved.len) (λ j below. sym (moved.rows j below)))

  -- and the rows a table
  pub IsTable-moved : IsTable number T
  IsTable-moved = record {
    capacity = subst IsCapacity (sym moved.len) moved.capacity;
    in_place = rw moved.len (λ j below. rw (moved.rows j below)
        (All-weaker (λ p. (slot_number number p.0 C == j) ≡ true) (λ p. slot_number number p.0 C ≡ j) (λ p e. eqb-true (slot_number number p.0 C) j e)
        (slot_of number L C j) (filter_passes (λ p. slot_number number p.0 C == j) L)));
  }

module _ {K X : Type 0} (clones : X → X → Type 0) where
  -- rows that are cloned one by one hold clones
  pub AreClones-joined : (R T : List (List (K × X))) → AllZip (AreClones clones) R T → AreClones clones (joined R) (joined T)
  AreClones-joined [] [] all = tt
  AreClones-joined [] (row ∷ T) all = absurd all
  AreClones-joined (row ∷ R) [] all = absurd all
  AreClones-joined (row ∷ R) (copy ∷ T) all = AllZip-append (IsPairClone clones) row (joined R) copy (joined T) all.0 (AreClones-joined R T all.1)

  -- there are as many
  pub length-clones : (R T : List (List (K × X))) → AllZip (AreClones clones) R T → length T ≡ length R
  length-clones [] [] all = refl
  length-clones [] (row ∷ T) all = absurd all
  length-clones (row ∷ R) [] all = absurd all
  length-clones (row ∷ R) (copy ∷ T) all = ap suc (length-clones R T all.1)

  -- what holds of all keys of a row holds of those of its clone
  All-clones : (P : K → Type 0) (R T : List (List (K × X))) → AllZip (AreClones clones) R T → (i : ℕ) → All (λ p. P p.0) (get_or R i []) → All (λ p. P p.0) (get_or T i [])
  All-clones P [] [] are i all = all
  All-clones P [] (row ∷ T) are i all = absurd are
  All-clones P (row ∷ R) [] are i all = absurd are
  All-clones P (row ∷ R) (copy ∷ T) are zero all = All-same_keys P row copy (keys_of-AreClones clones row copy are.0) all
  All-clones P (row ∷ R) (copy ∷ T) are (suc i) all = All-clones P R T are.1 i all

  -- and they are a table
  pub IsTable-clones : (number : K → ℕ) (R T : List (List (K × X))) → AllZip (AreClones clones) R T → IsTable number R → IsTable number T
  IsTable-clones number R T are table =
      let len = length-clones R T are in
      record {
        capacity = rw len table.capacity;
        in_place = rw len (λ i below. All-clones (λ k. slot_number number k (length R) ≡ i) R T are i (table.in_place i below));
      }
