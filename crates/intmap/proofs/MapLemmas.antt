-- What calls leave of a map: its walk stays that of a map, and its count that of its walk.
use Rattle.std.proofs.Common.{◌≡◌, ℕ, ◌+◌, ◌-◌, ◌^◌, ◌<◌, ◌≤◌, cond, true, false, List, [], ◌∷◌, length, Some, None, is_some, refl, sym, ap, ◌∙◌, add-zero, subst, arith}
use Rattle.std.specs.Prelude.{All, ◌==◌, ◌&&◌, nat_lt, Result, Ok, Err, IsOk}
use Rattle.std.specs.Result.{is_err}
use Rattle.std.proofs.lemmas.Bool.{eq-eqb}
use Rattle.std.proofs.lemmas.List.{nil_from_length}
use Rattle.std.proofs.lemmas.List.Elements.{All-nil, All-tail}
use Rattle.intmap_table.specs.Classes.{IsCapacity}
use Rattle.intmap_table.specs.Bindings.{HasDistinctKeys, value_of, take_key, put_pair}
use Rattle.intmap_table.specs.Walk.{walk_of}
use Rattle.intmap.specs.Growth.{IsThreshold, MeetsLoad, is_due}
use Rattle.intmap.specs.Map.{MapState, IsMapWalk}
use Rattle.intmap.specs.Consistency.{IsConsistent}
use Rattle.intmap_table.proofs.SlotNumberLemmas.{slot_number-below, capacity-positive}
use Rattle.intmap.proofs.CostLemmas.{HasDistinctKeys-tail}
use Rattle.intmap.proofs.LoadFactorLemmas.{IsLoaded, IsLoaded-from, IsLoaded-fewer, IsLoaded-more}
use Rattle.intmap_table.proofs.WalkLemmas.{walk_of-walk_of}
use Rattle.intmap_table.proofs.DistinctLemmas.{length-walk_of, length-take_key, length-put_pair, HasDistinctKeys-nil, HasDistinctKeys-walk_of, HasDistinctKeys-take_key, HasDistinctKeys-put_pair, All-walk_of, All-take_key, All-put_pair}

-- maps whose changed parts are the same are the same
pub MapState-same : {K V : Type 0} {W W' : List (K × V)} {C C' F p p' c r r' : ℕ} → W ≡ W' → C ≡ C' → p ≡ p' → r ≡ r'
    → ◌≡◌ {A = MapState K V} (record { walk = W; capacity = C; factor = F; placed = p; compared = c; reserved = r }) (record { walk = W'; capacity = C'; factor = F; placed = p'; compared = c; reserved = r' })
MapState-same walk capacity placed reserved = rw (walk, capacity, placed, reserved) refl

-- and as many pairs stay reserved
pub reserved-same : (C r : ℕ) → r ≡ cond (C == C) r 0
reserved-same C r = sym (ap (λ b. cond b r 0) (eq-eqb C C refl))

-- a pair that is put into as many slots is no pair in a larger table
pub placed-same : (C p n : ℕ) → p ≡ p + cond (C == C) 0 n
placed-same C p n = sym (ap (λ b. p + cond b 0 n) (eq-eqb C C refl) ∙ add-zero p)

module _ {K V : Type 0} (number : K → ℕ) (is_valid : K → Type 0) where
  -- the walk of any list of distinct keys, in enough slots for the load
  pub IsMapWalk-walk_of : (L : List (K × V)) (C F : ℕ) → IsCapacity C → HasDistinctKeys number L → All (λ p. is_valid p.0) L → length L < 2 ^ 64 → F < 2 ^ 64 → IsLoaded C (length L) F → IsMapWalk number is_valid (walk_of number L C) C F
  IsMapWalk-walk_of L C F cap distinct keys fits factor loaded =
      let below = λ (k : K). slot_number-below number k C cap in
      let len = length-walk_of number L C below in
      record {
        capacity = cap;
        own = walk_of-walk_of number C L;
        distinct = HasDistinctKeys-walk_of number L C below distinct;
        keys = All-walk_of number (λ p. is_valid p.0) L C keys;
        count = omega (arith, len, fits);
        factor = factor;
        load = subst (λ n. IsLoaded C n F) (sym len) loaded;
      }

  -- a map without pairs
  pub IsMapWalk-empty : (W : List (K × V)) (C F : ℕ) → W ≡ [] → IsCapacity C → F < 2 ^ 64 → IsMapWalk number is_valid W C F
  IsMapWalk-empty W C F none cap factor =
      let nil = nil_from_length (walk_of number [] C) (length-walk_of number [] C (λ (k : K). slot_number-below number k C cap)) in
      subst (λ L. IsMapWalk number is_valid L C F) (nil ∙ sym none)
      (IsMapWalk-walk_of [] C F cap (HasDistinctKeys-nil {V = V} number [] refl) (All-nil (λ p. is_valid p.0)) (omega arith) factor (λ four. absurd (omega (arith, four))))

module _ {K V : Type 0} (number : K → ℕ) where
  module _ (is_valid : K → Type 0) (W W' : List (K × V)) (C F n most R N : ℕ) (old : IsConsistent number is_valid W C F n most R N) (R' N' : ℕ) (memory : R' ≤ N') where
    -- the pairs of a list of distinct keys went into D slots, at the load factor G
    filled : (L : List (K × V)) (D D' G n' most' : ℕ) → HasDistinctKeys number L → All (λ p. is_valid p.0) L → D' ≡ D → IsCapacity D → G < 2 ^ 64 → W' ≡ walk_of number L D → length L ≡ n' → n' < 2 ^ 64
        → IsLoaded D n' G → IsThreshold D G most' → IsConsistent number is_valid W' D' G n' most' R' N'
    filled L D D' G n' most' distinct keys same cap factor is len fits loaded threshold = record {
      map = rw (same, is) (IsMapWalk-walk_of number is_valid L D G cap distinct keys (omega (arith, len, fits)) factor (subst (λ m. IsLoaded D m G) (sym len) loaded));
      count = sym (ap length is ∙ length-walk_of number L D (λ k. slot_number-below number k D cap) ∙ len);
      threshold = rw same threshold;
      memory = memory;
    }

    -- a pair was put in, in D slots
    put : (D D' n' most' : ℕ) (k : K) (x : V) → D' ≡ D → IsCapacity D → is_valid k → W' ≡ walk_of number (put_pair number W C k x) D → length (put_pair number W C k x) ≡ n' → n' < 2 ^ 64 → IsLoaded D n' F → IsThreshold D F most' → IsConsistent number is_valid W' D' F n' most' R' N'
    put D D' n' most' k x same cap key is len fits loaded threshold =
        filled (put_pair number W C k x) D D' F n' most' (HasDistinctKeys-put_pair number W C k x old.map.distinct) (All-put_pair number (λ p. is_valid p.0) W C k x old.map.keys key) same cap old.map.factor is len fits loaded threshold

    loaded-old : IsLoaded C n F
    loaded-old = subst (λ m. IsLoaded C m F) (sym old.count) old.map.load

    fits-old : n < 2 ^ 64
    fits-old = let fits = old.map.count in omega (arith, fits, old.count)

    -- the pair of a present key was replaced
    pub IsConsistent-replaced : (C' : ℕ) (k : K) (x y : V) → C' ≡ C → is_valid k → value_of number W k ≡ Some y → W' ≡ walk_of number (put_pair number W C k x) C → IsConsistent number is_valid W' C' F n most R' N'
    IsConsistent-replaced C' k x y same key bound is =
        put C C' n most k x same old.map.capacity key is (let len = length-put_pair number W C k x in let all = old.count in grind (arith, len, bound, all)) fits-old loaded-old old.threshold

    longer : (k : K) (x : V) → value_of number W k ≡ None → length (put_pair number W C k x) ≡ n + 1
    longer k x missing = let len = length-put_pair number W C k x in let all = old.count in grind (arith, len, missing, all)

    -- the pair of an absent key was added, if the table needn't grow
    pub IsConsistent-added : (C' : ℕ) (k : K) (x : V) → C' ≡ C → is_valid k → value_of number W k ≡ None → n + 1 < 2 ^ 64 → (is_due (n + 1) && nat_lt most (n + 1)) ≡ false → W' ≡ walk_of number (put_pair number W C k x) C → IsConsistent number is_valid W' C' F (n + 1) most R' N'
    IsConsistent-added C' k x same key missing fits test is =
        put C C' (n + 1) most k x same old.map.capacity key is (longer k x missing) fits
        (IsLoaded-more C n F most (capacity-positive C old.map.capacity) fits old.threshold loaded-old test) old.threshold

    -- and if it grew to D slots
    pub IsConsistent-grown_with : (D D' most' : ℕ) (k : K) (x : V) → D' ≡ D → IsCapacity D → is_valid k → value_of number W k ≡ None → n + 1 < 2 ^ 64 → MeetsLoad D (n + 1) F → IsThreshold D F most' → W' ≡ walk_of number (put_pair number W C k x) D → IsConsistent number is_valid W' D' F (n + 1) most' R' N'
    IsConsistent-grown_with D D' most' k x same cap key missing fits meets threshold is =
        put D D' (n + 1) most' k x same cap key is (longer k x missing) fits (IsLoaded-from D (n + 1) F (capacity-positive D cap) meets) threshold

    -- pairs were let go
    pub IsConsistent-fewer : (C' n' : ℕ) → C' ≡ C → walk_of number W' C' ≡ W' → n' ≡ length W' → length W' ≤ length W → HasDistinctKeys number W' → All (λ p. is_valid p.0) W' → IsConsistent number is_valid W' C' F n' most R' N'
    IsConsistent-fewer C' n' same own count less distinct keys = record {
      map = rw same (record {
        capacity = old.map.capacity;
        own = subst (λ D. walk_of number W' D ≡ W') same own;
        distinct = distinct;
        keys = keys;
        count = omega (arith, less, old.map.count);
        factor = old.map.factor;
        load = IsLoaded-fewer C (length W) (length W') F (capacity-positive C old.map.capacity) old.map.load less;
      });
      count = count;
      threshold = rw same old.threshold;
      memory = memory;
    }

    -- the first pair was removed
    pub IsConsistent-rest : (C' : ℕ) (p : K × V) → W ≡ p ∷ W' → C' ≡ C → walk_of number W' C' ≡ W' → IsConsistent number is_valid W' C' F (n - 1) most R' N'
    IsConsistent-rest C' p first same own =
        let all = ap length first in
        IsConsistent-fewer C' (n - 1) same own (omega (arith, all, old.count)) (omega (arith, all)) (HasDistinctKeys-tail number p W' (rw first at old.map.distinct))
        (All-tail (λ q. is_valid q.0) p W' (rw first at old.map.keys))

    -- a key was removed
    pub IsConsistent-taken : (C' : ℕ) (k : K) (n' : ℕ) → C' ≡ C → W' ≡ walk_of number (take_key number W C k) C → n' ≡ n - cond (is_some (value_of number W k)) 1 0 → IsConsistent number is_valid W' C' F n' most R' N'
    IsConsistent-taken C' k n' same is len =
        let below = λ (q : K). slot_number-below number q C old.map.capacity in
        let L : List (K × V) = take_key number W C k in
        let left = length-take_key number W C k in
        let same_len : length W' ≡ length L = ap length is ∙ length-walk_of number L C below in
        IsConsistent-fewer C' n' same (rw (same, is) (walk_of-walk_of number C L)) (omega (arith, same_len, left, len, old.count)) (omega (arith, same_len, left))
        (rw is (HasDistinctKeys-walk_of number L C below (HasDistinctKeys-take_key number W C k old.map.distinct)))
        (rw is (All-walk_of number (λ p. is_valid p.0) L C (All-take_key number (λ p. is_valid p.0) W C k old.map.keys)))

    -- the pairs went into D slots, at the load factor G
    pub IsConsistent-grown : (D G most' : ℕ) → IsCapacity D → G < 2 ^ 64 → IsLoaded D (length W) G → IsThreshold D G most' → W' ≡ walk_of number W D → IsConsistent number is_valid W' D G n most' R' N'
    IsConsistent-grown D G most' cap factor loaded threshold is =
        filled W D D G n most' old.map.distinct old.map.keys refl cap factor is (sym old.count) fits-old (subst (λ m. IsLoaded D m G) (sym old.count) loaded) threshold

-- a failed call isn't a successful one
pub IsOk-at_err : {T E : Type 0} (r : Result T E) → is_err r ≡ true → IsOk r → ⊥
IsOk-at_err (Ok x) e h = cc
IsOk-at_err (Err x) e h = cc
