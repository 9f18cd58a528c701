-- Where a pair can be put at once, and what is compared for that.
use Rattle.std.proofs.Common.{◌≡◌, ℕ, ◌+◌, ◌*◌, ◌/◌, ◌<◌, ◌≤◌, ◌^◌, inl, inr, Bool, true, false, List, [], ◌∷◌, length, Some, None, refl, sym, ap, ◌∙◌, subst, arith}
use Rattle.std.specs.Prelude.{◌⊎◌, MatchBool, IsTrue, nat_lt, not, ◌&&◌, ◌||◌, drop, take, position}
use Rattle.std.proofs.lemmas.Bool.{cases_Bool, cases_lt, le-ltb}
use Rattle.std.proofs.lemmas.Bool.Decides.{nat_tests}
use Rattle.intmap_table.specs.Bindings.{value_of, put_pair}
use Rattle.intmap_table.specs.Classes.{IsCapacity, same_key, slot_number}
use Rattle.intmap_table.specs.Firsts.{first_of, IsFirst}
use Rattle.intmap_table.specs.Reach.{through_first, reach}
use Rattle.intmap_table.specs.Walk.{slot_of, walk_of}
use Rattle.intmap_table.proofs.PositionLemmas.{position-within}
use Rattle.intmap_table.proofs.WalkLemmas.{class_size-slot_of, reach-slot_of}
use Rattle.intmap.specs.Consistency.{IsConsistent}
use Rattle.intmap.specs.Growth.{IsNext, IsThreshold, MeetsLoad, is_due}
use Rattle.intmap.specs.Insertions.{IsInsertion}
use Rattle.intmap.specs.Map.{MapState, IsMap, NeedsNoMemory, after_search}
use Rattle.intmap.specs.PlainLists.{RefusalIsDue, list_of}
use Rattle.intmap.specs.Spots.{TakesOneMore, TakesFirst, after_first, after_rest}
use Rattle.intmap.specs.declared.refusal.Cause.{Cause}
use Rattle.intmap.proofs.LoadFactorLemmas.{IsNext-if_met}
use Rattle.intmap.proofs.InsertionLemmas.{IsInsertion-added}
use Rattle.intmap.proofs.MapLemmas.{IsConsistent-added}

-- if the next capacity is this one, the greater length is not due, or not above the threshold
test-from_next : (C F n most : ℕ) → n < 2 ^ 64 → IsThreshold C F most → IsNext C n F C → (is_due n && nat_lt most n) ≡ false
test-from_next C F n most fits lim next = elim (cases_Bool (is_due n)) [
  | inl due ↦
      (let meets : MeetsLoad C n F = (rw due at next).meets in
      let low : n ≤ most = elim (cases_lt most n) [
        | inl over ↦ (let exceeds = (lim n fits).1 over in absurd (omega (arith, meets, exceeds)))
        | inr le ↦ le
      ] in
      rw (due, le-ltb most n low) refl)
  | inr not_due ↦ rw not_due refl
]

module _ {K V : Type 0} (W : List (K × V)) (C F n most : ℕ) (cap : IsCapacity C) (count : n ≡ length W) (lim : IsThreshold C F most) where
  more : n + 1 < 2 ^ 64 → IsNext C (n + 1) F C → TakesOneMore W C F
  more fits next = record { count = omega (arith, count, fits); stays = subst (λ m. IsNext C (m + 1) F C) count next }

  -- the test tells whether the map takes one more
  pub TakesOneMore-told : (b : Bool) → b ≡ (nat_lt n most || (nat_lt (n + 1) (2 ^ 64) && not (is_due (n + 1)))) → (IsTrue b → n + 1 < 2 ^ 64) → MatchBool b (TakesOneMore W C F) (TakesOneMore W C F → ⊥)
  TakesOneMore-told true e fits =
      let few : n + 1 < 2 ^ 64 = fits refl in
      more few (IsNext-if_met C (n + 1) F cap (λ due. elim (cases_lt n most) [
        | inl less ↦ (lim (n + 1) few).0 (omega (arith, less))
        | inr ge ↦ (let no : true ≡ false = e ∙ told ge due in cc)
      ]))
    where
      told : most ≤ n → is_due (n + 1) ≡ true → (nat_lt n most || (nat_lt (n + 1) (2 ^ 64) && not (is_due (n + 1)))) ≡ false
      told ge due = grind (arith, nat_tests, ge, due)
  TakesOneMore-told false e fits = λ t.
      let few : n + 1 < 2 ^ 64 = (let c = t.count in omega (arith, c, count)) in
      let next : IsNext C (n + 1) F C = subst (λ m. IsNext C (m + 1) F C) (sym count) t.stays in
      let test = test-from_next C F (n + 1) most few lim next in
      grind (arith, nat_tests, few, test, e)

module _ {K V : Type 0} (number : K → ℕ) (is_valid : K → Type 0) (W W' : List (K × V)) (C F n most R N : ℕ) (old : IsConsistent number is_valid W C F n most R N) (R' N' : ℕ) (memory : R' ≤ N') where
  -- the pair of an absent key was added to a map that takes one more
  pub IsConsistent-one_more : (C' : ℕ) (k : K) (x : V) → C' ≡ C → is_valid k → value_of number W k ≡ None → TakesOneMore W C F → W' ≡ walk_of number (put_pair number W C k x) C → IsConsistent number is_valid W' C' F (n + 1) most R' N'
  IsConsistent-one_more C' k x same key missing takes is =
      let few : n + 1 < 2 ^ 64 = (let c = takes.count in let e = old.count in omega (arith, c, e)) in
      let next : IsNext C (n + 1) F C = subst (λ m. IsNext C (m + 1) F C) (sym old.count) takes.stays in
      IsConsistent-added number is_valid W W' C F n most R N old R' N' memory C' k x same key missing few (test-from_next C F (n + 1) most few old.threshold next) is

module _ {K V : Type 0} (number : K → ℕ) (is_valid : K → Type 0) (m n : MapState K V) (k : K) (v : V) where
  -- to add the pair of an absent key to a map that takes one more is to insert it
  pub IsInsertion-one_more : n.capacity ≡ m.capacity → value_of number m.walk k ≡ None → TakesOneMore m.walk m.capacity m.factor → IsMap number is_valid m → IsMap number is_valid n
      → n.walk ≡ walk_of number (put_pair number m.walk m.capacity k v) m.capacity → IsInsertion number is_valid m k v n
  IsInsertion-one_more same missing takes old new walk = IsInsertion-added number is_valid m n k v missing old new (rw same walk) takes.count (rw same takes.stays)

-- one pair more is due for a check, and exceeds the load
pub record Exceeds (C F n : ℕ) : Type 0 where
  pub due : is_due n ≡ true
  pub over : F < n * 1000 / C

pub Exceeds-from : {K V : Type 0} (W : List (K × V)) (C F : ℕ) → IsCapacity C → length W + 1 < 2 ^ 64 → (TakesOneMore W C F → ⊥) → Exceeds C F (length W + 1)
Exceeds-from W C F power few full =
    let unmet : ((is_due (length W + 1) ≡ true → MeetsLoad C (length W + 1) F) → ⊥) = λ meets. full (record { count = few; stays = IsNext-if_met C (length W + 1) F power meets }) in
    record {
      due = elim (cases_Bool (is_due (length W + 1))) [ inl due ↦ due | inr undue ↦ absurd (unmet (λ due. let w : true ≡ false = sym due ∙ undue in cc)) ];
      over = elim (cases_lt F ((length W + 1) * 1000 / C)) [ inl over ↦ over | inr met ↦ absurd (unmet (λ _. met)) ];
    }

-- maps whose changed parts are the same are the same
pub MapState-counted : {K V : Type 0} {W W' : List (K × V)} {C C' F p p' c c' r r' : ℕ} → W ≡ W' → C ≡ C' → p ≡ p' → c ≡ c' → r ≡ r'
    → ◌≡◌ {A = MapState K V} (record { walk = W; capacity = C; factor = F; placed = p; compared = c; reserved = r }) (record { walk = W'; capacity = C'; factor = F; placed = p'; compared = c'; reserved = r' })
MapState-counted walk capacity placed compared reserved = rw (walk, capacity, placed, compared, reserved) refl

module _ {K V : Type 0} (number : K → ℕ) where
  some_or_none : (ps : List (K × V)) → (ps ≡ []) ⊎ (0 < length ps)
  some_or_none [] = inl refl
  some_or_none (p ∷ ps) = inr (omega arith)

  -- what needs no memory can be put at once
  pub TakesFirst-free : (W : List (K × V)) (C F i : ℕ) (k : K) → IsCapacity C → i ≡ slot_number number k C → NeedsNoMemory number W C F k → TakesFirst number W C F i
  TakesFirst-free W C F i k cap at free = elim (some_or_none (slot_of number W C i)) [
    | inl none ↦ record { empty = none; more = record { count = free.count; stays = free.stays } }
    | inr some ↦ (let size = class_size-slot_of number C cap W k i (sym at) in let alone = free.alone in absurd (omega (arith, some, size, alone)))
  ]

  first_reached : (k : K) (row : List (K × V)) → position (λ p. same_key number k p.0) row ≡ Some 0 → length (through_first (λ p. same_key number k p.0) row) ≡ length (take 1 row)
  first_reached k [] at = refl
  first_reached k (p ∷ ps) at =
      let first = (position-within (λ (q : K × V). same_key number k q.0) (p ∷ ps) 0 at).0 in
      elim (cases_Bool (same_key number k p.0)) [
        | inl same ↦ rw same refl
        | inr other ↦ (let gone = rw other at first in absurd (omega (arith, gone)))
      ]

  rest_reached : (k : K) (row : List (K × V)) → value_of number (take 1 row) k ≡ None
      → length (take 1 row) + length (through_first (λ p. same_key number k p.0) (drop 1 row)) ≡ length (through_first (λ p. same_key number k p.0) row)
  rest_reached k [] none = refl
  rest_reached k (p ∷ ps) none = elim (cases_Bool (same_key number k p.0)) [
    | inl same ↦ (let w : Some p.1 ≡ None = rw same at none in cc)
    | inr other ↦ rw other (omega arith)
  ]

  module _ (m : MapState K V) (i : ℕ) (k : K) (cap : IsCapacity m.capacity) (at : i ≡ slot_number number k m.capacity) where
    reached : reach number m.walk m.capacity k ≡ length (through_first (λ p. same_key number k p.0) (slot_of number m.walk m.capacity i))
    reached = reach-slot_of number m.capacity cap m.walk k i (sym at)

    counted : (c d : ℕ) → c ≡ d → ◌≡◌ {A = MapState K V} (record m { compared = c }) (record m { compared = d })
    counted c d e = ap (λ n. record m { compared = n }) e

    -- in an empty slot nothing is compared
    pub after_first-vacant : slot_of number m.walk m.capacity i ≡ [] → after_first number m i ≡ after_search number m k
    after_first-vacant none =
        counted _ _ (ap (λ n. m.compared + n) (ap (λ ps. length (take 1 ps)) none ∙ sym (reached ∙ ap (λ ps. length (through_first (λ p. same_key number k p.0) ps)) none)))

    -- if the first pair has the key, no other is compared
    pub after_first-first : IsFirst number m.walk m.capacity i k → after_first number m i ≡ after_search number m k
    after_first-first is = counted _ _ (ap (λ n. m.compared + n) (sym (reached ∙ first_reached k (slot_of number m.walk m.capacity i) is.place)))

    -- and if not, those behind it are
    pub after_rest-first : (n : MapState K V) → n ≡ after_first number m i → value_of number (first_of number m.walk m.capacity i) k ≡ None → after_rest number n i k ≡ after_search number m k
    after_rest-first n is other =
        let sum = rest_reached k (slot_of number m.walk m.capacity i) other in
        ap (λ n. after_rest number n i k) is ∙ counted _ _ (omega (arith, sum, reached))

  -- an insertion that fails in a map with another count may fail in the map
  pub RefusalIsDue-counted : (m : MapState K V) (c : ℕ) (k : K) (cause : Cause) → RefusalIsDue number (list_of (record m { compared = c })) k cause → RefusalIsDue number (list_of m) k cause
  RefusalIsDue-counted m c k cause due = record { new_key = due.new_key; too_large = due.too_large; memory = due.memory }
