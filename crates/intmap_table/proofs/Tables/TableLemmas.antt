-- What calls of a table do to the rows of its slots, read as its walk.
use Rattle.std.proofs.Common.{◌+◌, ◌≡◌, ℕ, zero, suc, List, [], ◌∷◌, ◌++◌, get_or, take, refl, sym, ap, ◌∙◌, append_assoc, append-nil, ◌≢◌, inl, inr, ◌<◌, length, set, None, arith, zero-add, length-set, get_or-set_same, get_or-set_other}
use Rattle.intmap_table.specs.Tables.Slots.{Grid, joined}
use Rattle.std.specs.Prelude.{All, count_by}
use Rattle.std.specs.List.{flat_map, range_with_len}
use Rattle.std.proofs.lemmas.List.Elements.{All-push, All-nil}
use Rattle.std.proofs.lemmas.Bool.{cases_eq}
use Rattle.intmap_table.specs.Classes.{IsCapacity, slot_number, same_key}
use Rattle.intmap_table.specs.Bindings.{swap_out, value_of, take_key, put_pair}
use Rattle.intmap_table.specs.Walk.{slot_of, walk_of}
use Rattle.intmap_table.specs.Reach.{through_first, class_size, reach}
use Rattle.intmap_table.specs.Figures.{load_of}
use Rattle.intmap_table.specs.Tables.Rows.{IsTable}
use Rattle.intmap_table.proofs.SlotNumberLemmas.{agrees-slot_number, slot_number-below}
use Rattle.intmap_table.proofs.Tables.SwapOutLemmas.{any}
use Rattle.intmap_table.proofs.ClassLemmas.{class-joined, flat_map-rows}
use Rattle.intmap_table.proofs.DistinctLemmas.{All-swap_out}
use Rattle.intmap_table.proofs.PositionLemmas.{swap_out-none, position-from_none}
use Rattle.intmap_table.proofs.WalkLemmas.{slot_of-take_key, slot_of-take_key-other, slot_of-put_pair, slot_of-put_pair-other, value_of-slot_of, class_size-slot_of, reach-slot_of}
use Rattle.intmap_table.proofs.LoadLemmas.{is_filled, load_of-rows, further-filled}
use Rattle.intmap_table.specs.Tables.Nodes.{further}

-- tables with the same walk, number of slots and memory are seen alike
pub Grid-same : {K X : Type 0} (s t : Grid K X) → s.walk ≡ t.walk → s.capacity ≡ t.capacity → s.nodes ≡ t.nodes → s ≡ t
Grid-same s t walk capacity nodes i = record { walk = walk i; capacity = capacity i; nodes = nodes i }

module _ {P : Type 0} where
  -- the rows before a place and the row there, joined
  pub joined-take : (i : ℕ) (R : List (List P)) → joined (take (suc i) R) ≡ joined (take i R) ++ get_or R i []
  joined-take zero [] = refl
  joined-take zero (row ∷ R) = append-nil row
  joined-take (suc i) [] = refl
  joined-take (suc i) (row ∷ R) = ap (λ Z. row ++ Z) (joined-take i R) ∙ sym (append_assoc row (joined (take i R)) (get_or R i []))

module _ {K X : Type 0} (number : K → ℕ) where
  -- a list whose slots are these rows has them, joined, as its walk
  pub walk_of-rows : (L : List (K × X)) (C : ℕ) (R : List (List (K × X))) → C ≡ length R → ((i : ℕ) → i < C → slot_of number L C i ≡ get_or R i []) → walk_of number L C ≡ joined R
  walk_of-rows L C R len same =
      ap (λ m. flat_map (slot_of number L C) (range_with_len 0 m)) len
      ∙ flat_map-rows (slot_of number L C) 0 R (λ i below. let w : i < C = omega (arith, below, len) in rw zero-add (same i w))

  -- a table of slots without pairs
  pub IsTable-empty : (R : List (List (K × X))) → IsCapacity (length R) → ((i : ℕ) → get_or R i [] ≡ []) → IsTable number R
  IsTable-empty R cap empty = record {
    capacity = cap;
    in_place = λ i below. rw (empty i) (All-nil (λ p. slot_number number p.0 (length R) ≡ i));
  }

module _ {K X : Type 0} (number : K → ℕ) (R : List (List (K × X))) (table : IsTable number R) where
  -- a slot of the walk is its row
  pub slot_of-joined : (i : ℕ) → slot_of number (joined R) (length R) i ≡ get_or R i []
  slot_of-joined i = rw zero-add at (class-joined (λ p. slot_number number p.0 (length R)) 0 i R (λ j below. rw zero-add (table.in_place j below)))

  -- the walk of a table is its own walk
  pub walk_of-joined : walk_of number (joined R) (length R) ≡ joined R
  walk_of-joined = walk_of-rows number (joined R) (length R) R refl (λ i _. slot_of-joined i)

  -- the number of slots that hold a pair is the number of residues of the keys
  pub load_of-joined : load_of number (joined R) (length R) ≡ count_by is_filled R
  load_of-joined =
      load_of-rows number (length R) (agrees-slot_number number (length R) table.capacity) (λ k. slot_number-below number k (length R) table.capacity)
      R (joined R) refl (λ i _. slot_of-joined i)

  -- the pairs behind the first ones of their slots are those that the load doesn't count
  pub further-joined : further R + load_of number (joined R) (length R) ≡ length (joined R)
  further-joined = let load = load_of-joined in let all = further-filled R in omega (arith, load, all)

  -- with another row i, the walk is that of a list that differs in slot i alone
  pub joined-set : (i : ℕ) (row L : List (K × X)) → i < length R
      → slot_of number L (length R) i ≡ row → ((j : ℕ) → i ≢ j → slot_of number L (length R) j ≡ slot_of number (joined R) (length R) j)
      → joined (set R i row) ≡ walk_of number L (length R)
  joined-set i row L below here there =
      sym (walk_of-rows number L (length R) (set R i row) (sym (length-set R i row)) (λ j _.
      let own = get_or-set_same R i row [] below in let other = get_or-set_other R i j row [] in let away = there j in let old = slot_of-joined j in
      grind (arith, here, own, other, away, old)))

  -- with another row i, whose pairs belong there, it is a table
  pub IsTable-set_at : (i : ℕ) (row : List (K × X)) → i < length R → All (λ p. slot_number number p.0 (length R) ≡ i) row → IsTable number (set R i row)
  IsTable-set_at i row below all = record {
    capacity = rw (length-set R i row) table.capacity;
    in_place = rw (length-set R i row) (λ j w. elim (cases_eq j i) as (λ _. All (λ p. slot_number number p.0 (length R) ≡ j) (get_or (set R i row) j [])) [
      | inl q ↦ rw (q, get_or-set_same R i row [] below) all
      | inr apart ↦ rw (get_or-set_other R i j row [] apart) (table.in_place j w)
    ]);
  }

-- k belongs to slot i of the table
pub record IsSlot {K X : Type 0} (number : K → ℕ) (R : List (List (K × X))) (i : ℕ) (k : K) : Type 0 where
  pub table : IsTable number R
  pub slot : i ≡ slot_number number k (length R)

module _ {K X : Type 0} (number : K → ℕ) (R : List (List (K × X))) (i : ℕ) (k : K) (at : IsSlot number R i k) where
  abbrev row : List (K × X)
  row = get_or R i []

  cap : IsCapacity (length R)
  cap = at.table.capacity

  pub within : i < length R
  within = let b = slot_number-below number k (length R) cap in omega (arith, b, at.slot)

  pub slot_of-here : slot_of number (joined R) (length R) i ≡ row
  slot_of-here = slot_of-joined number R at.table i

  pub reach-here : reach number (joined R) (length R) k ≡ length (through_first (λ p. same_key number k p.0) row)
  reach-here =
      reach-slot_of number (length R) cap (joined R) k i (sym at.slot)
      ∙ ap (λ ps. length (through_first (λ p. same_key number k p.0) ps)) slot_of-here

  pub class_size-here : class_size number (joined R) (length R) k ≡ length row
  class_size-here = class_size-slot_of number (length R) cap (joined R) k i (sym at.slot) ∙ ap length slot_of-here

  pub value_of-here : value_of number (joined R) k ≡ value_of number row k
  value_of-here =
      sym (value_of-slot_of number (length R) (joined R) k)
      ∙ ap (λ n. value_of number (slot_of number (joined R) (length R) n) k) (sym at.slot)
      ∙ ap (λ ps. value_of number ps k) slot_of-here

  -- the row without the pair of the key
  abbrev pub row_without : List (K × X)
  row_without = swap_out (λ p. same_key number k p.0) any row

  -- with the row changed as a removal of the key changes it, the walk is that without the key
  pub walk-taken : joined (set R i row_without) ≡ walk_of number (take_key number (joined R) (length R) k) (length R)
  walk-taken =
      joined-set number R at.table i row_without (take_key number (joined R) (length R) k) within
      (slot_of-take_key number (length R) cap (joined R) k i (sym at.slot) ∙ ap (swap_out (λ p. same_key number k p.0) any) slot_of-here)
      (λ j apart. slot_of-take_key-other number (length R) cap (joined R) k j (λ q. apart (at.slot ∙ q)))

  -- with the row changed as an insertion changes it, the walk is that with the pair
  pub walk-put : (v : X) → joined (set R i (row_without ++ (k, v) ∷ [])) ≡ walk_of number (put_pair number (joined R) (length R) k v) (length R)
  walk-put v =
      joined-set number R at.table i (row_without ++ (k, v) ∷ []) (put_pair number (joined R) (length R) k v) within
      (slot_of-put_pair number (length R) cap (joined R) k v i (sym at.slot) ∙ ap (λ ps. swap_out (λ p. same_key number k p.0) any ps ++ (k, v) ∷ []) slot_of-here)
      (λ j apart. slot_of-put_pair-other number (length R) cap (joined R) k v j (λ q. apart (at.slot ∙ q)))

  -- with the pair of a new key at the end of the row, the walk is that with the pair
  pub walk-added : (v : X) → value_of number (joined R) k ≡ None → joined (set R i (row ++ (k, v) ∷ [])) ≡ walk_of number (put_pair number (joined R) (length R) k v) (length R)
  walk-added v none =
      let missing = position-from_none (same_key number k) row (sym value_of-here ∙ none) in
      ap (λ ps. joined (set R i (ps ++ (k, v) ∷ []))) (sym (swap_out-none (λ (p : K × X). same_key number k p.0) any row missing)) ∙ walk-put v

  -- each pair belongs to the slot
  abbrev pub Belong : List (K × X) → Type 0
  Belong ps = All (λ p. slot_number number p.0 (length R) ≡ i) ps

  pub Belong-here : Belong row
  Belong-here = at.table.in_place i within

  pub Belong-taken : Belong row_without
  Belong-taken = All-swap_out (λ p. slot_number number p.0 (length R) ≡ i) (λ p. same_key number k p.0) any row Belong-here

  pub Belong-push : (ps : List (K × X)) (v : X) → Belong ps → Belong (ps ++ (k, v) ∷ [])
  Belong-push ps v all = All-push (λ p. slot_number number p.0 (length R) ≡ i) ps (k, v) all (sym at.slot)

  -- the table with another row of the slot
  pub IsTable-set : (ps : List (K × X)) → Belong ps → IsTable number (set R i ps)
  IsTable-set ps all = IsTable-set_at number R at.table i ps within all

  -- and with the row changed as an insertion changes it
  pub IsTable-put : (v : X) → IsTable number (set R i (row_without ++ (k, v) ∷ []))
  IsTable-put v = IsTable-set (row_without ++ (k, v) ∷ []) (Belong-push row_without v Belong-taken)
