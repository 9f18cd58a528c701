-- When a new member has a slot of its own, and how far a search then goes; what insertions and removals leave of the room for any members.
use Rattle.std.proofs.Common.{◌≡◌, ◌∙◌, inl, inr, ℕ, ◌+◌, ◌%◌, ◌*◌, ◌/◌, ◌^◌, ◌<◌, ◌≤◌, Bool, true, false, cond, List, [], ◌∷◌, Option, Some, None, refl, sym, ap, subst, length, arith}
use Rattle.std.proofs.Math.Nat.{mod-eq_of_lt}
use Rattle.std.proofs.lemmas.Bool.{cases_Bool, cases_lt, eqb-true, true≢false}
use Rattle.std.proofs.lemmas.List.Elements.{All-cons, All-nil}
use Rattle.std.proofs.lemmas.Nat.{le-div}
use Rattle.std.specs.Prelude.{◌==◌, ◌||◌, All, IsTrue, MatchOption}
use Rattle.intmap.specs.Bindings.{HasDistinctKeys, value_of}
use Rattle.intmap.specs.Classes.{IsCapacity, agrees}
use Rattle.intmap.specs.Growth.{IsNext, MeetsLoad}
use Rattle.intmap.specs.Map.{IsCapacityAfter, NeedsNoMemory, after_insert, after_remove, after_search}
use Rattle.intmap.specs.PlainLists.{RefusalIsDue, list_of}
use Rattle.intmap.specs.Reach.{class_size, reach}
use Rattle.intmap.specs.Room.{HasRoom}
use Rattle.intmap.specs.declared.refusal.Cause.{Cause}
use Rattle.intmap.proofs.CostLemmas.{class_size-below, reach-within_class}
use Rattle.intmap.proofs.CountLemmas.{count_by-cons}
use Rattle.intmap.proofs.LoadFactorLemmas.{IsNext-met, IsNext-unique, MeetsLoad-fewer}
use Rattle.intmap.proofs.RefusalLemmas.{NeedsNoMemory-never_refused}
use Rattle.intmap.proofs.ReservedLemmas.{HasRoom-fewer, HasRoom-inserted, HasRoom-removed}
use Rattle.intmap.proofs.SlotNumberLemmas.{capacity-greatest, capacity-positive}
use Rattle.intmap_set.specs.Extending.{Inserts}
use Rattle.intmap_set.specs.Sets.{SetState, AreBelow, IsAlone, IsSet, as_map, holds, load_factor, looked_up, paired, set_of}
use Rattle.intmap_set.proofs.CallLemmas.{HasRoom-seen}
use Rattle.intmap_set.proofs.MemberLemmas.{as_map-seen, holds-paired, holds-same_number, length-paired, same_key-itself}

-- what is true beside another is true of both
or-true : (b c : Bool) → c ≡ true → (b || c) ≡ true
or-true true c is = refl
or-true false c is = is

-- members that meet the load of a set are fewer than 2^64
few-met : (C n : ℕ) → IsCapacity C → MeetsLoad C n load_factor → n < 2 ^ 64
few-met C n capacity meets = elim (cases_lt n (2 ^ 64)) [
  | inl few ↦ few
  | inr many ↦
      (let top = capacity-greatest C capacity in
      let over : 910 ≤ n * 1000 / C = le-div 910 (n * 1000) C (capacity-positive C capacity) (omega (arith, top, many)) in
      absurd (omega (arith, meets, over)))
]

module _ {K : Type 0} (number : K → ℕ) where
  -- what holds of each member holds of each, one after another
  each-cons : (P : K → Type 0) (k : K) (W : List K) → ((q : K) → IsTrue (holds number (k ∷ W) q) → P q) → P k × ((q : K) → IsTrue (holds number W q) → P q)
  each-cons P k W each = (
    each k (ap (λ b. b || holds number W k) (same_key-itself number k)),
    λ q has. each q (or-true (number k == number q) (holds number W q) has),
  )

  -- the members are below n, as keys of pairs
  All-below : (W : List K) (n : ℕ) → AreBelow number W n → All (λ p. number p.0 < n) (paired W)
  All-below [] n below = All-nil (λ p. number p.0 < n)
  All-below (k ∷ W) n below =
      let each = each-cons (λ q. number q < n) k W below in All-cons (λ p. number p.0 < n) (k, tt) (paired W) each.0 (All-below W n each.1)

  -- no pair is in the slot of a key that is alone
  class_size-alone : (W : List K) (C : ℕ) (k : K) → IsAlone number W C k → class_size number (paired W) C k ≡ 0
  class_size-alone [] C k alone = refl
  class_size-alone (j ∷ W) C k alone =
      let each = each-cons (λ q. agrees number C k q ≡ false) j W alone in
      count_by-cons (λ p. agrees number C k p.0) (j, tt) (paired W) ∙ (λ i. cond (each.0 i) 1 0 + class_size-alone W C k each.1 i)

  -- a new key below the capacity is alone among members below it
  pub IsAlone-below : (W : List K) (C : ℕ) (k : K) → AreBelow number W C → number k < C → holds number W k ≡ false → IsAlone number W C k
  IsAlone-below W C k below small new q has = elim (cases_Bool (agrees number C k q)) [
    | inl shares ↦
        (let same : number q ≡ number k = sym (mod-eq_of_lt (below q has)) ∙ eqb-true (number q % C) (number k % C) shares ∙ mod-eq_of_lt small in
        absurd (true≢false (sym has ∙ holds-same_number number W q k same ∙ new)))
    | inr apart ↦ apart
  ]

  -- a search among members below the capacity compares one of them at most
  pub reach-below : (W : List K) (C : ℕ) (k : K) → HasDistinctKeys number (paired W) → AreBelow number W C → reach number (paired W) C k ≤ 1
  reach-below W C k once below =
      let within = reach-within_class number (paired W) C k in let one = class_size-below number (paired W) C k once (All-below W C below) in
      omega (arith, within, one)

  module _ (W : List K) (C n : ℕ) (k : K) (capacity : IsCapacity C) (meets : MeetsLoad C n load_factor) (few : length W < n) where
    -- one member more leaves the capacity
    stays : IsNext C (length (paired W) + 1) load_factor C
    stays =
        let up : length (paired W) + 1 ≤ n = (let same = length-paired W in omega (arith, same, few)) in
        IsNext-met C (length (paired W) + 1) load_factor capacity (MeetsLoad-fewer C n (length (paired W) + 1) load_factor (capacity-positive C capacity) meets up)

    -- a key that is alone needs no memory
    pub NeedsNoMemory-met : IsAlone number W C k → NeedsNoMemory number (paired W) C load_factor k
    NeedsNoMemory-met alone = record {
      alone = class_size-alone W C k alone;
      stays = stays;
      count = (let same = length-paired W in let fits = few-met C n capacity meets in omega (arith, same, few, fits));
    }

    -- no insertion changes the capacity
    pub IsCapacityAfter-met : (D : ℕ) → IsCapacityAfter number (paired W) C load_factor k D → D ≡ C
    IsCapacityAfter-met D after = at (value_of number (paired W) k) after
      where
        at : (o : Option (Unit {0})) → MatchOption o (IsNext C (length (paired W) + 1) load_factor D) (λ _. D ≡ C) → D ≡ C
        at None next = IsNext-unique C (length (paired W) + 1) load_factor D C next stays
        at (Some v) same = same

  -- the insertion of a key that needs no memory never fails
  pub NeedsNoMemory-never_due : (s : SetState K) (k : K) (cause : Cause) → IsCapacity s.capacity → NeedsNoMemory number (paired s.walk) s.capacity load_factor k
      → RefusalIsDue number (list_of (as_map s)) k cause → ⊥
  NeedsNoMemory-never_due s k cause capacity free = NeedsNoMemory-never_refused number (list_of (as_map s)) k capacity free cause

  -- nor does that of any key among members below the capacity, if one member more meets the load
  pub small-never_due : (s : SetState K) (k : K) (cause : Cause) → IsCapacity s.capacity → AreBelow number s.walk s.capacity → number k < s.capacity
      → MeetsLoad s.capacity (length s.walk + 1) load_factor → RefusalIsDue number (list_of (as_map s)) k cause → ⊥
  small-never_due s k cause capacity below small meets due =
      let alone = IsAlone-below s.walk s.capacity k below small (holds-paired number s.walk k ∙ due.new_key) in
      NeedsNoMemory-never_due s k cause capacity (NeedsNoMemory-met s.walk s.capacity (length s.walk + 1) k capacity meets (omega arith) alone) due

  -- an insertion into a set with room for n + 1 members leaves room for n
  pub HasRoom-inserts : (is_valid : K → Type 0) (s t : SetState K) (k : K) (n : ℕ) → IsSet number is_valid s → HasRoom number (as_map s) (n + 1) → Inserts number is_valid s k t
      → HasRoom number (as_map t) n
  HasRoom-inserts is_valid s t k n valid room did = left (holds number s.walk k) did.state
    where
      left : (b : Bool) → t ≡ cond b (looked_up number s k) (set_of (after_insert number (as_map s) k tt t.capacity)) → HasRoom number (as_map t) n
      left true state = subst (λ u. HasRoom number (as_map u) n) (sym state) (HasRoom-fewer number (as_map s) (n + 1) n valid.capacity room (omega arith))
      left false state =
          HasRoom-inserted number is_valid (as_map s) (as_map t) k tt n valid room did.inserted (sym (as_map-seen (after_insert number (as_map s) k tt t.capacity) t (sym state) refl))

  -- a removal leaves the room
  pub HasRoom-removes : (is_valid : K → Type 0) (s : SetState K) (k : K) (n : ℕ) → IsSet number is_valid s → HasRoom number (as_map s) n
      → HasRoom number (as_map (set_of (after_remove number (as_map s) k))) n
  HasRoom-removes is_valid s k n valid room =
      let m = after_remove number (as_map s) k in
      HasRoom-seen number m m (set_of m) refl refl n (HasRoom-removed number is_valid (after_search number (as_map s) k) k n valid room)
