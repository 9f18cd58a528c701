-- Pairs for which a table has room are inserted in turn, and none fails.
use Rattle.std.proofs.Common.{◌≡◌, ℕ, ◌+◌, ◌^◌, ◌<◌, ◌≤◌, cond, List, [], ◌∷◌, ◌++◌, length, get_or, None, refl, sym, ap, ◌∙◌, append_assoc, arith}
use Rattle.std.specs.Prelude.{All}
use Rattle.std.proofs.lemmas.List.{length-append}
use Rattle.std.proofs.lemmas.List.Elements.{All-nil, All-cons, All-head, All-tail}
use Rattle.std.proofs.lemmas.Bool.Decides.{nat_tests}
use Rattle.std.proofs.lemmas.List.Sums.{sum_by-append}
use Rattle.intmap.proofs.CountLemmas.{count_by-cons}
use Rattle.intmap_table.specs.Classes.{IsCapacity, same_key, agrees}
use Rattle.intmap_table.specs.Bindings.{HasDistinctKeys, value_of, put_pair}
use Rattle.intmap_table.specs.Reach.{class_size}
use Rattle.intmap_table.specs.Walk.{walk_of}
use Rattle.intmap_table.proofs.DistinctLemmas.{length-walk_of}
use Rattle.intmap_table.proofs.PositionLemmas.{position-from_none, swap_out-none}
use Rattle.intmap_table.proofs.SlotNumberLemmas.{capacity-positive, slot_number-below}
use Rattle.intmap_table.proofs.WalkLemmas.{class_size-same, walk_of-walk_of}
use Rattle.intmap.specs.Extending.{MapInsertsAll}
use Rattle.intmap.specs.Insertions.{MapInserts}
use Rattle.intmap.specs.Growth.{IsNext, MeetsLoad}
use Rattle.intmap.specs.Map.{MapState, IsMap, NeedsNoMemory}
use Rattle.intmap.specs.PlainLists.{RefusalIsDue, list_of}
use Rattle.intmap.specs.Room.{HasRoomFor, HasRoomInRow}
use Rattle.intmap.specs.declared.refusal.Cause.{Cause}
use Rattle.intmap.proofs.CostLemmas.{class_size-in_row}
use Rattle.intmap.proofs.LoadFactorLemmas.{IsNext-unique, IsNext-loaded, IsLoaded-from, MeetsLoad-fewer}
use Rattle.intmap.proofs.RefusalLemmas.{NeedsNoMemory-never_refused}

module _ {K V : Type 0} (number : K → ℕ) where
  -- the class of a key in two lists
  class_size-append : (L M : List (K × V)) (C : ℕ) (k : K) → class_size number (L ++ M) C k ≡ class_size number L C k + class_size number M C k
  class_size-append L M C k = sum_by-append (λ p. cond (agrees number C k p.0) 1 0) L M

  -- a key is in its own class
  class_size-own : (C : ℕ) (p : K × V) (L : List (K × V)) → class_size number (p ∷ L) C p.0 ≡ 1 + class_size number L C p.0
  class_size-own C p L = let more = count_by-cons (λ q. agrees number C p.0 q.0) p L in grind (arith, nat_tests, more)

  -- a key that shares its slot with none is absent
  value_of-alone : (L : List (K × V)) (C : ℕ) (k : K) → class_size number L C k ≡ 0 → value_of number L k ≡ None
  value_of-alone [] C k alone = refl
  value_of-alone (p ∷ L) C k alone = let rest = value_of-alone L C k in let more = count_by-cons (λ q. agrees number C k q.0) p L in grind (arith, nat_tests, alone, rest, more)

  -- and is put behind all pairs
  put_pair-alone : (L : List (K × V)) (C : ℕ) (k : K) (v : V) → class_size number L C k ≡ 0 → put_pair number L C k v ≡ L ++ (k, v) ∷ []
  put_pair-alone L C k v alone =
      ap (λ M. M ++ (k, v) ∷ []) (swap_out-none (λ p. same_key number k p.0) (λ p. agrees number C k p.0) L (position-from_none (same_key number k) L (value_of-alone L C k alone)))

  -- the first of the pairs for which there is room needs no memory
  pub NeedsNoMemory-room : (L : List (K × V)) (C F : ℕ) (p : K × V) (ps : List (K × V)) → IsCapacity C → HasRoomFor number L C F (p ∷ ps) → NeedsNoMemory number L C F p.0
  NeedsNoMemory-room L C F p ps capacity room =
      let one : class_size number (L ++ p ∷ ps) C p.0 ≡ 1 = All-head (λ q. class_size number (L ++ p ∷ ps) C q.0 ≡ 1) p ps room.alone in
      let both = class_size-append L (p ∷ ps) C p.0 in
      let own = class_size-own C p ps in
      let len : length (L ++ p ∷ ps) ≡ length L + length (p ∷ ps) = length-append L (p ∷ ps) in
      let fits = room.count in
      record {
        alone = omega (arith, one, both, own);
        stays = IsNext-loaded C (length L + 1) (length (L ++ p ∷ ps)) F capacity room.load (omega (arith, len));
        count = omega (arith, len, fits);
      }

module _ {K V : Type 0} (number : K → ℕ) (is_valid : K → Type 0) where
  module _ (m l : MapState K V) (p : K × V) (ps : List (K × V)) (capacity : IsCapacity m.capacity) (room : HasRoomFor number m.walk m.capacity m.factor (p ∷ ps))
      (step : MapInserts number is_valid m p.0 p.1 l) where
    free : NeedsNoMemory number m.walk m.capacity m.factor p.0
    free = NeedsNoMemory-room number m.walk m.capacity m.factor p ps capacity room

    capacity-kept : l.capacity ≡ m.capacity
    capacity-kept =
        let next : IsNext m.capacity (length m.walk + 1) m.factor l.capacity = rw (value_of-alone number m.walk m.capacity p.0 free.alone) at step.inserted.fits.capacity in
        IsNext-unique m.capacity (length m.walk + 1) m.factor l.capacity m.capacity next free.stays

    walk-after : l.walk ≡ walk_of number (m.walk ++ p ∷ []) m.capacity
    walk-after =
        ap (λ n. n.walk) step.state
        ∙ ap (λ L. walk_of number L l.capacity) (put_pair-alone number m.walk m.capacity p.0 p.1 free.alone)
        ∙ ap (λ C. walk_of number (m.walk ++ p ∷ []) C) capacity-kept

    class_size-after : (q : K) → class_size number l.walk m.capacity q ≡ class_size number (m.walk ++ p ∷ []) m.capacity q
    class_size-after q =
        ap (λ L. class_size number L m.capacity q) walk-after
        ∙ class_size-same number m.capacity capacity (walk_of number (m.walk ++ p ∷ []) m.capacity) (m.walk ++ p ∷ []) q (walk_of-walk_of number m.capacity (m.walk ++ p ∷ []))

    length-after : length l.walk ≡ length m.walk + 1
    length-after =
        ap length walk-after
        ∙ length-walk_of number (m.walk ++ p ∷ []) m.capacity (λ k. slot_number-below number k m.capacity capacity)
        ∙ length-append m.walk (p ∷ [])

    length-all : length (l.walk ++ ps) ≡ length (m.walk ++ p ∷ ps)
    length-all =
        let after = length-append l.walk ps in
        let before = length-append m.walk (p ∷ ps) in
        let more = length-after in omega (arith, after, before, more)

    class_size-all : (q : K) → class_size number (l.walk ++ ps) m.capacity q ≡ class_size number (m.walk ++ p ∷ ps) m.capacity q
    class_size-all q =
        class_size-append number l.walk ps m.capacity q
        ∙ ap (λ n. n + class_size number ps m.capacity q) (class_size-after q)
        ∙ sym (class_size-append number (m.walk ++ p ∷ []) ps m.capacity q)
        ∙ ap (λ L. class_size number L m.capacity q) (append_assoc m.walk (p ∷ []) ps)

    -- behind an insertion there is room for the pairs that are left
    room-after : HasRoomFor number l.walk l.capacity l.factor ps
    room-after = rw (capacity-kept, ap (λ n. n.factor) step.state) (record {
      alone = λ i d below. class_size-all (get_or ps i d).0 ∙ All-tail (λ q. class_size number (m.walk ++ p ∷ ps) m.capacity q.0 ≡ 1) p ps room.alone i d below;
      count = rw length-all room.count;
      load = rw length-all room.load;
    })

  -- what insertions in turn leave: as many slots, the same load factor, and room for the pairs that are left
  pub record IsRoomLeft (m : MapState K V) (qs : List (K × V)) (n : MapState K V) : Type 0 where
    pub capacity : n.capacity ≡ m.capacity
    pub room : HasRoomFor number n.walk n.capacity n.factor qs

  pub IsRoomLeft-from : (m n : MapState K V) (ps qs : List (K × V)) → IsCapacity m.capacity → HasRoomFor number m.walk m.capacity m.factor (ps ++ qs) → MapInsertsAll number is_valid m ps n
      → IsRoomLeft m qs n
  IsRoomLeft-from m n [] qs capacity room same = record { capacity = ap (λ s. s.capacity) same; room = rw same room }
  IsRoomLeft-from m n (p ∷ ps) qs capacity room steps =
      let kept : steps.0.capacity ≡ m.capacity = capacity-kept m steps.0 p (ps ++ qs) capacity room steps.1 in
      let left : IsRoomLeft steps.0 qs n =
      IsRoomLeft-from steps.0 n ps qs (rw kept capacity) (room-after m steps.0 p (ps ++ qs) capacity room steps.1) steps.2 in
      record { capacity = left.capacity ∙ kept; room = left.room }

  -- the next pair is never refused
  pub never_refused-room : (m n : MapState K V) (ps qs : List (K × V)) (p : K × V) (cause : Cause) → IsCapacity m.capacity → HasRoomFor number m.walk m.capacity m.factor (ps ++ p ∷ qs)
      → MapInsertsAll number is_valid m ps n → RefusalIsDue number (list_of n) p.0 cause → ⊥
  never_refused-room m n ps qs p cause capacity room steps may =
      let left : IsRoomLeft m (p ∷ qs) n = IsRoomLeft-from m n ps (p ∷ qs) capacity room steps in
      let here : IsCapacity n.capacity = rw left.capacity capacity in
      NeedsNoMemory-never_refused number (list_of n) p.0 here (NeedsNoMemory-room number n.walk n.capacity n.factor p qs here left.room) cause may

module _ {K V : Type 0} (number : K → ℕ) where
  -- distinct keys whose numbers stand in a row as long as the capacity each have a slot of their own
  pub All-alone : (L : List (K × V)) (C a : ℕ) (ps : List (K × V)) → HasDistinctKeys number (L ++ ps) → All (λ p. (a ≤ number p.0) × (number p.0 < a + C)) (L ++ ps) → All (λ p. class_size number (L ++ ps) C p.0 ≡ 1) ps
  All-alone L C a ps once near = each [] ps refl
    where
      each : (front qs : List (K × V)) → ps ≡ front ++ qs → All (λ p. class_size number (L ++ ps) C p.0 ≡ 1) qs
      each front [] is = All-nil (λ p. class_size number (L ++ ps) C p.0 ≡ 1)
      each front (q ∷ qs) is =
          let most : class_size number (L ++ ps) C q.0 ≤ 1 = class_size-in_row number (L ++ ps) C a q.0 once near in
          let whole = class_size-append number L ps C q.0 in
          let part : class_size number ps C q.0 ≡ class_size number front C q.0 + class_size number (q ∷ qs) C q.0 = ap (λ M. class_size number M C q.0) is ∙ class_size-append number front (q ∷ qs) C q.0 in
          let own = class_size-own number C q qs in
          All-cons (λ p. class_size number (L ++ ps) C p.0 ≡ 1) q qs (omega (arith, most, whole, part, own)) (each (front ++ q ∷ []) qs (is ∙ sym (append_assoc front (q ∷ []) qs)))

  -- if the load factor is met with n further pairs, there is room for as many in a row
  pub HasRoomInRow-met : (is_valid : K → Type 0) (m : MapState K V) (n : ℕ) → IsMap number is_valid m → length m.walk + n < 2 ^ 64 → MeetsLoad m.capacity (length m.walk + n) m.factor
      → HasRoomInRow number m.walk m.capacity m.factor n
  HasRoomInRow-met is_valid m n valid fits meets ps few once row =
      let len = length-append m.walk ps in
      let some = capacity-positive m.capacity valid.capacity in
      record {
        alone = All-alone m.walk m.capacity row.first ps once row.all;
        count = omega (arith, len, few, fits);
        load = IsLoaded-from m.capacity (length (m.walk ++ ps)) m.factor some
            (MeetsLoad-fewer m.capacity (length m.walk + n) (length (m.walk ++ ps)) m.factor some meets (omega (arith, len, few)));
      }
