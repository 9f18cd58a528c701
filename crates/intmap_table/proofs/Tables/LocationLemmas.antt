-- Pairs that were located in the rows of a table: what is there, and what the table is once one was written or put there.
use Rattle.std.proofs.Common.{◌≡◌, ℕ, zero, suc, ◌+◌, ◌<◌, ◌≤◌, true, List, [], ◌∷◌, ◌++◌, length, get_or, set, Some, None, refl, sym, ap, ◌∙◌, subst, arith, length-set, get_or-set_same}
use Rattle.std.specs.Prelude.{◌==◌, count_by, position, swap_remove}
use Rattle.std.specs.List.{position_or_len}
use Rattle.std.specs.Option.{option_and_then}
use Rattle.std.proofs.lemmas.Bool.{eq-eqb}
use Rattle.std.proofs.lemmas.List.{length_push}
use Rattle.std.proofs.lemmas.List.Elements.{filter-append}
use Rattle.intmap_table.specs.Classes.{slot_number, same_key}
use Rattle.intmap_table.specs.Bindings.{value_of, write_value, HasDistinctKeys}
use Rattle.intmap_table.specs.Locations.{IsAt, IsFound, key_at, write_in}
use Rattle.intmap_table.specs.Tables.Slots.{Grid, joined, write_at}
use Rattle.intmap_table.specs.Tables.Rows.{IsTable, HasMoved, write_rows}
use Rattle.intmap_table.specs.Walk.{slot_of}
use Rattle.intmap_table.specs.declared.table.locate.Location.{Location}
use Rattle.intmap_table.proofs.WrittenLemmas.{slot_of-write_value, option_and_then-the_key, write_in-the_key}
use Rattle.intmap_table.proofs.PositionLemmas.{swap_remove-position, position-within, first_value-position, position-from_none}
use Rattle.intmap_table.proofs.LocationLemmas.{All-write_at, count_by-filter-le, position-push, slot_of-write_value-other, walk_of-write_value, write_at-position_or_len}
use Rattle.intmap_table.proofs.SlotNumberLemmas.{slot_number-below}
use Rattle.intmap_table.proofs.WalkLemmas.{value_of-slot_of}
use Rattle.intmap_table.proofs.Tables.FoundLemmas.{key_at-get_or}
use Rattle.intmap_table.proofs.Tables.TableLemmas.{Grid-same, IsSlot, row_without, slot_of-here, value_of-here, walk_of-joined, slot_of-joined, joined-set, within, IsTable-set, Belong-here, Belong-push}
use Rattle.intmap_table.proofs.Tables.MovedLemmas.{IsTable-moved}

module _ {K X : Type 0} where
  -- the rows with a value written are those with that row changed
  pub write_rows-set : (R : List (List (K × X))) (i j : ℕ) (v : X) → write_rows R i j v ≡ set R i (write_at (get_or R i []) j v)
  write_rows-set [] i j v = refl
  write_rows-set (row ∷ R) zero j v = refl
  write_rows-set (row ∷ R) (suc i) j v = ap (λ T. row ∷ T) (write_rows-set R i j v)

-- k belongs to slot i of a table
module _ {K X : Type 0} (number : K → ℕ) (R : List (List (K × X))) (i : ℕ) (k : K) (at : IsSlot number R i k) where
  -- with a value written in the slot, the rows are a table as before
  pub IsTable-written : (j : ℕ) (v : X) → IsTable number (write_rows R i j v)
  IsTable-written j v =
      subst (IsTable number) (sym (write_rows-set R i j v))
      (IsTable-set number R i k at (write_at (get_or R i []) j v) (All-write_at (λ q. slot_number number q (length R) ≡ i) (get_or R i []) j v (Belong-here number R i k at)))

  module _ (v : X) where
    abbrev place : ℕ
    place = position_or_len (λ p. same_key number k p.0) (get_or R i [])

    walk-written : HasDistinctKeys number (joined R) → joined (write_rows R i place v) ≡ write_value number (joined R) k v
    walk-written distinct =
        let W : List (K × X) = joined R in
        let row = get_or R i [] in
        let in_slot = slot_of-here number R i k at in
        let fewer = count_by-filter-le (λ p. slot_number number p.0 (length R) == i) (λ p. same_key number k p.0) W in
        let one = distinct k in
        let once : count_by (λ p. same_key number k p.0) row ≤ 1 = subst (λ ps. count_by (λ p. same_key number k p.0) ps ≤ 1) in_slot (omega (arith, fewer, one)) in
        let here : slot_of number (write_value number W k v) (length R) i ≡ write_at row place v =
        slot_of-write_value number W (length R) k v i ∙ ap (λ ps. write_value number ps k v) in_slot ∙ sym (write_at-position_or_len number row k v once) in
        ap joined (write_rows-set R i place v)
        ∙ joined-set number R at.table i (write_at row place v) (write_value number W k v) (within number R i k at) here
        (λ j apart. slot_of-write_value-other number W (length R) k v j (λ q. apart (at.slot ∙ q)))
        ∙ walk_of-write_value number W (length R) k v ∙ ap (λ L. write_value number L k v) (walk_of-joined number R at.table)

    -- with it written at the key's place, the walk has it as that of the key
    pub Grid-written : HasDistinctKeys number (joined R) → (nodes : ℕ)
        → ◌≡◌ {A = Grid K X} (record { walk = joined (write_rows R i place v); capacity = length (write_rows R i place v); nodes = nodes }) (record { walk = write_value number (joined R) k v; capacity = length R; nodes = nodes })
    Grid-written distinct nodes = Grid-same _ _ (walk-written distinct) (ap length (write_rows-set R i place v) ∙ length-set R i (write_at (get_or R i []) place v)) refl

-- a pair of a table was located
module _ {K X : Type 0} (number : K → ℕ) (R : List (List (K × X))) (l : Location K) (table : IsTable number R) (at : IsAt number (joined R) (length R) l) where
  abbrev row : List (K × X)
  row = get_or R l.slot []

  pub slot-at : IsSlot number R l.slot l.key
  slot-at = record { table = table; slot = at.slot }

  pub place-at : position (λ p. same_key number l.key p.0) row ≡ Some l.place
  place-at = ap (position (λ p. same_key number l.key p.0)) (sym (slot_of-here number R l.slot l.key slot-at)) ∙ at.place

  pub place-within : l.place < length row
  place-within = (position-within (λ (p : K × X). same_key number l.key p.0) row l.place place-at).1

  -- the value there is that of the key
  pub value_of-at : (v : X) → ((p : K × X) → v ≡ (get_or row l.place p).1) → value_of number (joined R) l.key ≡ Some v
  value_of-at v is =
      value_of-here number R l.slot l.key slot-at ∙ first_value-position (same_key number l.key) row l.place (l.key, v) place-at ∙ ap (λ v. Some v) (sym (is (l.key, v)))

  -- the pair there
  module _ (p : K × X) (is : p ≡ get_or row l.place p) where
    -- has the value of the key
    pub value_of-pair : value_of number (joined R) l.key ≡ Some p.1
    value_of-pair =
        value_of-here number R l.slot l.key slot-at ∙ first_value-position (same_key number l.key) row l.place p place-at
        ∙ ap (λ (q : K × X). Some q.1) (sym is)

    -- without it the row is that without the key
    pub swap_out-at : swap_remove row l.place p ≡ row_without number R l.slot l.key slot-at
    swap_out-at = swap_remove-position (λ q. same_key number l.key q.0) row l.place p place-at is

  -- with a value written there, the walk has it as that of the key
  pub Grid-at : (v : X) → HasDistinctKeys number (joined R) → (nodes : ℕ)
      → ◌≡◌ {A = Grid K X} (record { walk = joined (write_rows R l.slot l.place v); capacity = length (write_rows R l.slot l.place v); nodes = nodes }) (record { walk = write_value number (joined R) l.key v; capacity = length R; nodes = nodes })
  Grid-at v distinct nodes =
      ap (λ n. record { walk = joined (write_rows R l.slot n v); capacity = length (write_rows R l.slot n v); nodes = nodes }) (sym (position-within (λ (p : K × X). same_key number l.key p.0) row l.place place-at).0)
      ∙ Grid-written number R l.slot l.key slot-at v distinct nodes

-- a pair of a table was found
module _ {K X : Type 0} (number : K → ℕ) (R : List (List (K × X))) (slot place : ℕ) (table : IsTable number R) (is : IsFound number (joined R) (length R) slot place) where
  pub place-found : place < length (get_or R slot [])
  place-found = place-within number R _ table is.at

  pub key_at-here : (k : K) → ((p : K × X) → k ≡ (get_or (get_or R slot []) place p).0) → Some k ≡ key_at (slot_of number (joined R) (length R) slot) place
  key_at-here k e = key_at-get_or (get_or R slot []) place k place-found e ∙ ap (λ L. key_at L place) (sym (slot_of-joined number R table slot))

  -- the value there is that of the key there
  pub value_of-found : (v : X) → ((p : K × X) → v ≡ (get_or (get_or R slot []) place p).1)
      → option_and_then (value_of number (joined R)) (key_at (slot_of number (joined R) (length R) slot) place) ≡ Some v
  value_of-found v e = option_and_then-the_key (value_of number (joined R)) _ is.some ∙ value_of-at number R _ table is.at v e

  -- and with a value written there, the walk has it as that of the key there
  pub Grid-found : (v : X) → HasDistinctKeys number (joined R) → (nodes : ℕ)
      → ◌≡◌ {A = Grid K X} (record { walk = joined (write_rows R slot place v); capacity = length (write_rows R slot place v); nodes = nodes }) (record { walk = write_in number (joined R) (length R) slot place v; capacity = length R; nodes = nodes })
  Grid-found v distinct nodes =
      Grid-at number R _ table is.at v distinct nodes
      ∙ ap (λ W. record { walk = W; capacity = length R; nodes = nodes }) (sym (write_in-the_key number (joined R) (length R) slot place v is))

  pub IsTable-found : (v : X) → IsTable number (write_rows R slot place v)
  IsTable-found v = IsTable-written number R slot _ (slot-at number R _ table is.at) place v

-- the pair of k is the last of slot i, and no other there has this key
IsAt-end : {K X : Type 0} (number : K → ℕ) (T : List (List (K × X))) (i : ℕ) (k : K) (v : X) (others : List (K × X)) → IsTable number T
    → i ≡ slot_number number k (length T) → get_or T i [] ≡ others ++ (k, v) ∷ [] → value_of number others k ≡ None
    → IsAt number (joined T) (length T) (record { key = k; slot = i; place = length others })
IsAt-end number T i k v others table at row missing = record {
  slot = at;
  place = ap (position (λ p. same_key number k p.0)) (slot_of-joined number T table i ∙ row)
      ∙ position-push (λ p. same_key number k p.0) others (k, v) (position-from_none (same_key number k) others missing) (eq-eqb (number k) (number k) refl);
}

-- k, which is absent, belongs to slot i, and its pair comes behind those of the slot
module _ {K X : Type 0} (number : K → ℕ) (R : List (List (K × X))) (i : ℕ) (k : K) (at : IsSlot number R i k) (missing : value_of number (joined R) k ≡ None) (v : X) where
  abbrev added : List (List (K × X))
  added = set R i (get_or R i [] ++ (k, v) ∷ [])

  -- the rows are a table
  pub IsTable-added : IsTable number added
  IsTable-added = IsTable-set number R i k at (get_or R i [] ++ (k, v) ∷ []) (Belong-push number R i k at (get_or R i []) v (Belong-here number R i k at))

  -- and the pair is at the place after theirs
  pub IsAt-added : IsAt number (joined added) (length added) (record { key = k; slot = i; place = length (get_or R i []) })
  IsAt-added =
      IsAt-end number added i k v (get_or R i []) IsTable-added (at.slot ∙ ap (slot_number number k) (sym (length-set R i (get_or R i [] ++ (k, v) ∷ []))))
      (get_or-set_same R i (get_or R i [] ++ (k, v) ∷ []) [] (within number R i k at)) (sym (value_of-here number R i k at) ∙ missing)

-- the pair of a new key has moved, behind all others, to slot i of C slots
module _ {K X : Type 0} (number : K → ℕ) (L : List (K × X)) (k : K) (v : X) (C : ℕ) (T : List (List (K × X))) (moved : HasMoved number (L ++ (k, v) ∷ []) C T)
    (i : ℕ) (at : i ≡ slot_number number k C) where
  row-new : get_or T i [] ≡ slot_of number L C i ++ (k, v) ∷ []
  row-new =
      let here : (slot_number number k C == i) ≡ true = eq-eqb (slot_number number k C) i (sym at) in
      moved.rows i (rw at (slot_number-below number k C moved.capacity)) ∙ filter-append (λ p. slot_number number p.0 C == i) L ((k, v) ∷ []) ∙ simp here refl

  -- there it is the last
  pub IsAt-new : value_of number L k ≡ None → (place : ℕ) → place + 1 ≡ length (get_or T i [])
      → IsAt number (joined T) (length T) (record { key = k; slot = i; place = place })
  IsAt-new missing place last =
      let end : length (slot_of number L C i) ≡ place = (let n = ap length row-new ∙ length_push (slot_of number L C i) (k, v) in omega (arith, n, last)) in
      subst (λ n. IsAt number (joined T) (length T) (record { key = k; slot = i; place = n })) end
      (IsAt-end number T i k v (slot_of number L C i) (IsTable-moved number _ C T moved) (rw moved.len at) row-new
      (ap (λ j. value_of number (slot_of number L C j) k) at ∙ value_of-slot_of number C L k ∙ missing))
