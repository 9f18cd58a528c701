-- Lists that have one walk: they agree slot by slot, and calls keep it so.
use Rattle.std.proofs.Common.{◌≡◌, ◌≢◌, ℕ, ◌*◌, ◌%◌, ◌<◌, Bool, true, false, List, [], ◌∷◌, ◌++◌, length, refl, sym, ap, ◌∙◌, arith, zero-add, append-nil}
use Rattle.std.specs.Prelude.{filter, ◌==◌, count_by}
use Rattle.std.proofs.lemmas.List.Elements.{filter-append}
use Rattle.std.proofs.lemmas.List.Sums.{length-filter}
use Rattle.std.proofs.lemmas.Bool.{eq-eqb, eqb-true, ne_eqb}
use Rattle.intmap_table.specs.Classes.{multiplier, IsCapacity, slot_number, same_key, agrees}
use Rattle.intmap_table.specs.Bindings.{swap_out, first_value, value_of, take_key, put_pair}
use Rattle.intmap_table.specs.Walk.{slot_of, walk_of}
use Rattle.intmap_table.specs.Reach.{through_first, class_size, reach}
use Rattle.intmap_table.proofs.SlotNumberLemmas.{agrees-slot_number, slot_number-below}
use Rattle.intmap_table.proofs.Tables.SwapOutLemmas.{any, filter-swap_out, filter-swap_out-other}
use Rattle.intmap_table.proofs.ClassLemmas.{class, class-classes, flat_map-same}

-- a filter that keeps what the test passes sees the list through the first such element
filter-through_first : {X : Type 0} (keep is_it : X → Bool) → ((x : X) → is_it x ≡ true → keep x ≡ true) → (xs : List X) → filter keep (through_first is_it xs) ≡ through_first is_it (filter keep xs)
filter-through_first keep is_it own [] = refl
filter-through_first keep is_it own (x ∷ xs) =
    let h = filter-through_first keep is_it own xs in let o = own x in grind (arith, h, o)

-- a filter that keeps what the test passes keeps the first such value
first_value-filter : {K V : Type 0} (test : K → Bool) (keep : K × V → Bool) → ((p : K × V) → test p.0 ≡ true → keep p ≡ true) → (L : List (K × V)) → first_value test (filter keep L) ≡ first_value test L
first_value-filter test keep own [] = refl
first_value-filter test keep own (p ∷ L) =
    let h = first_value-filter test keep own L in let o = own p in grind (arith, h, o)

module _ {K V : Type 0} (number : K → ℕ) (C : ℕ) where
  -- the two lists have the same pairs in each slot, in one order
  abbrev pub SameSlots : List (K × V) → List (K × V) → Type 0
  SameSlots L M = (i : ℕ) → i < C → slot_of number L C i ≡ slot_of number M C i

  -- a slot of a walk is the slot of the list
  pub slot_of-walk_of : (L : List (K × V)) (i : ℕ) → i < C → slot_of number (walk_of number L C) C i ≡ slot_of number L C i
  slot_of-walk_of L i below = class-classes (λ p. slot_number number p.0 C) L C i below

  pub SameSlots-from_walk_of : (L M : List (K × V)) → walk_of number L C ≡ walk_of number M C → SameSlots L M
  SameSlots-from_walk_of L M same i below =
      sym (slot_of-walk_of L i below) ∙ ap (class (λ p. slot_number number p.0 C) i) same ∙ slot_of-walk_of M i below

  pub walk_of-same : (L M : List (K × V)) → SameSlots L M → walk_of number L C ≡ walk_of number M C
  walk_of-same L M same = flat_map-same (slot_of number L C) (slot_of number M C) 0 C (λ i below. rw zero-add (same i below))

  -- the walk of a walk is the walk
  pub walk_of-walk_of : (L : List (K × V)) → walk_of number (walk_of number L C) C ≡ walk_of number L C
  walk_of-walk_of L = walk_of-same (walk_of number L C) L (slot_of-walk_of L)

  -- a pair of the key k is in the slot of k
  pub same_key-slot : (k : K) (p : K × V) → same_key number k p.0 ≡ true → slot_number number p.0 C ≡ slot_number number k C
  same_key-slot k p same = ap (λ n. (n * multiplier) % C) (eqb-true (number p.0) (number k) same)

  -- if a key is present, it is in its slot
  pub value_of-slot_of : (L : List (K × V)) (k : K) → value_of number (slot_of number L C (slot_number number k C)) k ≡ value_of number L k
  value_of-slot_of L k =
      first_value-filter (same_key number k) (λ p. slot_number number p.0 C == slot_number number k C)
      (λ p same. eq-eqb (slot_number number p.0 C) (slot_number number k C) (same_key-slot k p same)) L

  module _ (cap : IsCapacity C) where
    -- a key that agrees with k is one of the slot of k
    class_tests : (k : K) (i : ℕ) → slot_number number k C ≡ i → ◌≡◌ {A = K × V → Bool} (λ p. agrees number C k p.0) (λ p. slot_number number p.0 C == i)
    class_tests k i at = λ j p. (agrees-slot_number number C cap p.0 k ∙ ap (λ n. slot_number number p.0 C == n) at) j

    pub slot_of-take_key : (L : List (K × V)) (k : K) (i : ℕ) → slot_number number k C ≡ i → slot_of number (take_key number L C k) C i ≡ swap_out (λ p. same_key number k p.0) any (slot_of number L C i)
    slot_of-take_key L k i at =
        ap (λ (test : K × V → Bool). slot_of number (swap_out (λ p. same_key number k p.0) test L) C i) (class_tests k i at)
        ∙ filter-swap_out (λ p. slot_number number p.0 C == i) (λ p. same_key number k p.0) (λ p same. eq-eqb (slot_number number p.0 C) i (same_key-slot k p same ∙ at)) L

    pub slot_of-take_key-other : (L : List (K × V)) (k : K) (i : ℕ) → slot_number number k C ≢ i → slot_of number (take_key number L C k) C i ≡ slot_of number L C i
    slot_of-take_key-other L k i apart =
        filter-swap_out-other (λ p. slot_number number p.0 C == i) (λ p. same_key number k p.0) (λ p. agrees number C k p.0)
        (λ p same. agrees-slot_number number C cap p.0 k ∙ eq-eqb (slot_number number p.0 C) (slot_number number k C) (same_key-slot k p same))
        (λ p agree. ne_eqb (slot_number number p.0 C) i (λ q. apart (sym (eqb-true (slot_number number p.0 C) (slot_number number k C) (sym (agrees-slot_number number C cap p.0 k) ∙ agree)) ∙ q))) L

    pub slot_of-put_pair : (L : List (K × V)) (k : K) (v : V) (i : ℕ) → slot_number number k C ≡ i → slot_of number (put_pair number L C k v) C i ≡ swap_out (λ p. same_key number k p.0) any (slot_of number L C i) ++ (k, v) ∷ []
    slot_of-put_pair L k v i at =
        let here : (slot_number number k C == i) ≡ true = eq-eqb (slot_number number k C) i at in
        filter-append (λ p. slot_number number p.0 C == i) (take_key number L C k) ((k, v) ∷ []) ∙ simp (here, slot_of-take_key L k i at)

    pub slot_of-put_pair-other : (L : List (K × V)) (k : K) (v : V) (i : ℕ) → slot_number number k C ≢ i → slot_of number (put_pair number L C k v) C i ≡ slot_of number L C i
    slot_of-put_pair-other L k v i apart =
        let away : (slot_number number k C == i) ≡ false = ne_eqb (slot_number number k C) i apart in
        filter-append (λ p. slot_number number p.0 C == i) (take_key number L C k) ((k, v) ∷ []) ∙ simp (away, slot_of-take_key-other L k i apart, append-nil)

    -- lists with one walk have the same slots after a key was removed, so they have one walk
    SameSlots-take_key : (L M : List (K × V)) (k : K) → walk_of number L C ≡ walk_of number M C → SameSlots (take_key number L C k) (take_key number M C k)
    SameSlots-take_key L M k same i below =
        let slots = SameSlots-from_walk_of L M same i below in let own = slot_of-take_key L k i in let own' = slot_of-take_key M k i in
        let other = slot_of-take_key-other L k i in let other' = slot_of-take_key-other M k i in grind (arith, slots, own, own', other, other')

    pub walk_of-take_key-same : (L M : List (K × V)) (k : K) → walk_of number L C ≡ walk_of number M C → walk_of number (take_key number L C k) C ≡ walk_of number (take_key number M C k) C
    walk_of-take_key-same L M k same = walk_of-same (take_key number L C k) (take_key number M C k) (SameSlots-take_key L M k same)

    -- lists with one walk have one after a pair was put in
    pub walk_of-put_pair-same : (L M : List (K × V)) (k : K) (v : V) → walk_of number L C ≡ walk_of number M C → walk_of number (put_pair number L C k v) C ≡ walk_of number (put_pair number M C k v) C
    walk_of-put_pair-same L M k v same = walk_of-same (put_pair number L C k v) (put_pair number M C k v) (λ i below.
        let split = λ (T : List (K × V)). filter-append (λ (p : K × V). slot_number number p.0 C == i) T ((k, v) ∷ []) in
        split (take_key number L C k) ∙ ap (λ xs. xs ++ slot_of number ((k, v) ∷ []) C i) (SameSlots-take_key L M k same i below) ∙ sym (split (take_key number M C k)))

    -- in lists with one walk a key has one value
    pub value_of-same : (L M : List (K × V)) (k : K) → walk_of number L C ≡ walk_of number M C → value_of number L k ≡ value_of number M k
    value_of-same L M k same =
        sym (value_of-slot_of L k) ∙ ap (λ xs. value_of number xs k) (SameSlots-from_walk_of L M same (slot_number number k C) (slot_number-below number k C cap)) ∙ value_of-slot_of M k

    -- the keys that agree with k are those of its slot
    pub class_size-slot_of : (L : List (K × V)) (k : K) (i : ℕ) → slot_number number k C ≡ i → class_size number L C k ≡ length (slot_of number L C i)
    class_size-slot_of L k i at =
        ap (λ (test : K × V → Bool). count_by test L) (class_tests k i at) ∙ sym (length-filter (λ p. slot_number number p.0 C == i) L)

    -- a look-up of k goes through its slot
    pub reach-slot_of : (L : List (K × V)) (k : K) (i : ℕ) → slot_number number k C ≡ i → reach number L C k ≡ length (through_first (λ p. same_key number k p.0) (slot_of number L C i))
    reach-slot_of L k i at =
        class_size-slot_of (through_first (λ p. same_key number k p.0) L) k i at
        ∙ ap length (filter-through_first (λ p. slot_number number p.0 C == i) (λ p. same_key number k p.0) (λ p same. eq-eqb (slot_number number p.0 C) i (same_key-slot k p same ∙ at)) L)

    -- in lists with one walk the same number of keys agree with k
    pub class_size-same : (L M : List (K × V)) (k : K) → walk_of number L C ≡ walk_of number M C → class_size number L C k ≡ class_size number M C k
    class_size-same L M k same =
        let i : ℕ = slot_number number k C in
        class_size-slot_of L k i refl ∙ ap length (SameSlots-from_walk_of L M same i (slot_number-below number k C cap)) ∙ sym (class_size-slot_of M k i refl)

    -- lists with one walk are looked through for k alike
    pub reach-same : (L M : List (K × V)) (k : K) → walk_of number L C ≡ walk_of number M C → reach number L C k ≡ reach number M C k
    reach-same L M k same =
        let i : ℕ = slot_number number k C in
        reach-slot_of L k i refl ∙ ap (λ xs. length (through_first (λ p. same_key number k p.0) xs)) (SameSlots-from_walk_of L M same i (slot_number-below number k C cap)) ∙ sym (reach-slot_of M k i refl)
