-- Room for further pairs of any keys: what insertions leave of it.
use Rattle.std.proofs.Common.{◌≡◌, ℕ, ◌+◌, ◌≤◌, cond, Bool, true, false, List, [], ◌∷◌, ◌++◌, length, Option, None, Some, is_some, sym, ap, ◌∙◌, arith, refl, subst, inl, inr, ⊎_elim}
use Rattle.std.specs.Prelude.{◌==◌, MatchOption}
use Rattle.std.proofs.lemmas.Bool.{eq-eqb, ne_eqb, cases_eq, lt-ltb}
use Rattle.std.proofs.lemmas.List.{length-append}
use Rattle.intmap_table.specs.Classes.{IsCapacity, slot_number}
use Rattle.intmap_table.specs.Bindings.{value_of, take_key, put_pair}
use Rattle.intmap_table.specs.Figures.{load_of}
use Rattle.intmap_table.specs.Walk.{walk_of}
use Rattle.intmap_table.proofs.LoadLemmas.{is_filled, load_of-more, load_of-but}
use Rattle.intmap_table.proofs.Nodes.NodeLemmas.{same_or_not}
use Rattle.intmap_table.proofs.SlotNumberLemmas.{agrees-slot_number, capacity-positive, slot_number-below}
use Rattle.intmap_table.proofs.WalkLemmas.{slot_of-walk_of, slot_of-take_key-other, slot_of-put_pair, slot_of-put_pair-other}
use Rattle.intmap.specs.Growth.{IsNext, MeetsLoad}
use Rattle.intmap.specs.Insertions.{IsInsertion}
use Rattle.intmap.specs.Map.{MapState, IsMap, after_insert, without_key}
use Rattle.intmap.specs.Room.{HasRoom, HasRoomForAny}
use Rattle.intmap.specs.Spots.{TakesOneMore}
use Rattle.intmap.proofs.AfterLemmas.{length-taken, without_missing}
use Rattle.intmap.proofs.LoadFactorLemmas.{IsNext-met, IsNext-unique, MeetsLoad-fewer}

at_most_one : (b : Bool) → cond b 0 1 ≤ 1
at_most_one true = omega arith
at_most_one false = omega arith

filled_at_end : {P : Type 0} (ps : List P) (p : P) → is_filled (ps ++ p ∷ []) ≡ true
filled_at_end ps p = lt-ltb 0 (length (ps ++ p ∷ [])) (let n = length-append ps (p ∷ []) in omega (arith, n))

-- if the load is met at the next length, the capacity stays
capacity_kept : {V : Type 0} (o : Option V) (C n F D : ℕ) → IsCapacity C → MeetsLoad C n F → MatchOption o (IsNext C n F D) (λ _. D ≡ C) → D ≡ C
capacity_kept None C n F D cap meets next = IsNext-unique C n F D C next (IsNext-met C n F cap meets)
capacity_kept (Some v) C n F D cap meets same = same

-- what stays reserved in D slots is no more than there is memory for
pub still-below : (D C r old now : ℕ) → r ≤ old → (C ≡ D → old ≤ now) → cond (D == C) r 0 ≤ now
still-below D C r old now fits kept = elim (cases_eq D C) as (λ _. cond (D == C) r 0 ≤ now) [
  | inl same ↦ rw (eq-eqb D C same) (let more = kept (sym same) in omega (arith, fits, more))
  | inr apart ↦ rw (ne_eqb D C apart) (omega arith)
]

module _ {K V : Type 0} (number : K → ℕ) where
  -- what has room for a pair takes one more
  pub HasRoom-takes : (L : List (K × V)) (C F R : ℕ) → IsCapacity C → HasRoomForAny number L C F R 1 → TakesOneMore L C F
  HasRoom-takes L C F R cap room = record { count = room.count; stays = IsNext-met C (length L + 1) F cap room.load }

  -- room for n pairs is room for fewer
  pub HasRoom-fewer : (m : MapState K V) (n fewer : ℕ) → IsCapacity m.capacity → HasRoom number m n → fewer ≤ n → HasRoom number m fewer
  HasRoom-fewer m n fewer cap room less =
      let all = room.memory in let count = room.count in
      record {
        memory = omega (arith, all, less);
        count = omega (arith, count, less);
        load = MeetsLoad-fewer m.capacity (length m.walk + n) (length m.walk + fewer) m.factor (capacity-positive m.capacity cap) room.load (omega (arith, less));
      }

  -- an inserted pair leaves pairs in the slots that hold some
  load-put : (L : List (K × V)) (C : ℕ) (k : K) (v : V) → IsCapacity C → load_of number L C ≤ load_of number (walk_of number (put_pair number L C k v) C) C
  load-put L C k v cap =
      let M = put_pair number L C k v in
      load_of-more number C (agrees-slot_number number C cap) (λ q. slot_number-below number q C cap) L (walk_of number M C)
      (λ i below some. ap is_filled (slot_of-walk_of number C M i below)
      ∙ ⊎_elim (λ here. ap is_filled (slot_of-put_pair number C cap L k v i here) ∙ filled_at_end _ (k, v))
      (λ apart. ap is_filled (slot_of-put_pair-other number C cap L k v i apart) ∙ some)
      (same_or_not (slot_number number k C) i))

  -- an insertion into a map with room for n + 1 pairs leaves room for n
  pub HasRoom-inserted : (is_valid : K → Type 0) (m l : MapState K V) (k : K) (v : V) (n : ℕ) → IsMap number is_valid m → HasRoom number m (n + 1)
      → IsInsertion number is_valid m k v l → l ≡ after_insert number m k v l.capacity → HasRoom number l n
  HasRoom-inserted is_valid m l k v n valid room did state =
      let C = m.capacity in
      let some = capacity-positive C valid.capacity in
      let meets : MeetsLoad C (length m.walk + 1) m.factor = MeetsLoad-fewer C (length m.walk + (n + 1)) (length m.walk + 1) m.factor some room.load (omega arith) in
      let same : l.capacity ≡ C = capacity_kept (value_of number m.walk k) C (length m.walk + 1) m.factor l.capacity valid.capacity meets did.fits.capacity in
      let factor : l.factor ≡ m.factor = ap (λ s. s.factor) state in
      let reserved : l.reserved ≡ m.reserved =
      ap (λ s. s.reserved) state ∙ ap (λ D. cond (D == C) m.reserved 0) same ∙ ap (λ b. cond b m.reserved 0) (eq-eqb C C refl) in
      let walk : l.walk ≡ walk_of number (put_pair number m.walk C k v) C = ap (λ s. s.walk) state ∙ ap (λ D. walk_of number (put_pair number m.walk C k v) D) same in
      let loads : load_of number l.walk l.capacity ≡ load_of number (walk_of number (put_pair number m.walk C k v) C) C = λ i. load_of number (walk i) (same i) in
      let more = load-put m.walk C k v valid.capacity in
      let len = did.len in
      let most = at_most_one (is_some (value_of number m.walk k)) in
      let all = room.memory in
      let count = room.count in
      record {
        memory = omega (arith, all, loads, more, len, most, reserved);
        count = omega (arith, count, len, most);
        load = rw (same, factor) (MeetsLoad-fewer C (length m.walk + (n + 1)) (length l.walk + n) m.factor some room.load (omega (arith, len, most)));
      }

  -- a removal empties one slot at most
  load-taken : (L : List (K × V)) (C : ℕ) (k : K) → IsCapacity C → load_of number L C ≤ load_of number (walk_of number (take_key number L C k) C) C + 1
  load-taken L C k cap =
      let M = take_key number L C k in
      load_of-but number C (agrees-slot_number number C cap) (λ q. slot_number-below number q C cap) L (walk_of number M C) (slot_number number k C)
      (λ i below apart some. ap is_filled (slot_of-walk_of number C M i below) ∙ ap is_filled (slot_of-take_key-other number C cap L k i (λ e. apart (sym e))) ∙ some)

  -- a removal leaves the room
  pub HasRoom-removed : (is_valid : K → Type 0) (m : MapState K V) (k : K) (n : ℕ) → IsMap number is_valid m → HasRoom number m n → HasRoom number (without_key number m k) n
  HasRoom-removed is_valid m k n valid room = removed (value_of number m.walk k) refl
    where
      removed : (o : Option V) → value_of number m.walk k ≡ o → HasRoom number (without_key number m k) n
      removed None none = subst (λ s. HasRoom number s n) (sym (without_missing number is_valid m k valid none)) room
      removed (Some v) had =
          let left = walk_of number (take_key number m.walk m.capacity k) m.capacity in
          let len : length left + 1 ≡ length m.walk = rw had at (length-taken number is_valid m left k valid refl) in
          let less = load-taken m.walk m.capacity k valid.capacity in
          let all = room.memory in
          let count = room.count in
          record {
            memory = omega (arith, all, less, len);
            count = omega (arith, count, len);
            load = MeetsLoad-fewer m.capacity (length m.walk + n) (length left + n) m.factor (capacity-positive m.capacity valid.capacity) room.load (omega (arith, len));
          }
