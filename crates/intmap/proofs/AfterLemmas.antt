-- What calls leave of the bindings and the length of a map.
use Rattle.std.proofs.Common.{◌≡◌, ℕ, ◌+◌, List, cond, length, Some, None, is_some, ap, ◌∙◌, arith}
use Rattle.intmap_table.specs.Classes.{IsCapacity, same_key}
use Rattle.intmap_table.specs.Bindings.{value_of, take_key, put_pair, Updates}
use Rattle.intmap_table.specs.Walk.{walk_of}
use Rattle.intmap.specs.Map.{MapState, IsMap, without_key}
use Rattle.intmap_table.proofs.PositionLemmas.{swap_out-none, position-from_none}
use Rattle.intmap_table.proofs.SlotNumberLemmas.{slot_number-below}
use Rattle.intmap_table.proofs.DistinctLemmas.{length-walk_of, length-take_key, length-put_pair}
use Rattle.intmap_table.proofs.BindingLemmas.{value_of-walk_of, value_of-take_key, value_of-put_pair, Updates-from}

module _ {K V : Type 0} (number : K → ℕ) (is_valid : K → Type 0) where
  -- in other slots each key has its value
  pub value_of-in_slots : (W M : List (K × V)) (D : ℕ) (q : K) → IsCapacity D → M ≡ walk_of number W D → value_of number M q ≡ value_of number W q
  value_of-in_slots W M D q cap is = ap (λ L. value_of number L q) is ∙ value_of-walk_of number W D q (slot_number-below number q D cap)

  -- and the number of pairs is the same
  pub length-in_slots : (W M : List (K × V)) (D : ℕ) → IsCapacity D → M ≡ walk_of number W D → length M ≡ length W
  length-in_slots W M D cap is = ap length is ∙ length-walk_of number W D (λ q. slot_number-below number q D cap)

  -- with a pair put in its key has the value, and each other key its own
  pub Updates-put : (m : MapState K V) (W : List (K × V)) (D : ℕ) (k : K) (v : V) → IsMap number is_valid m → IsCapacity D → W ≡ walk_of number (put_pair number m.walk m.capacity k v) D → Updates number m.walk W k (Some v)
  Updates-put m W D k v is_map cap is =
      Updates-from number m.walk W k (Some v)
      (λ q. value_of-in_slots (put_pair number m.walk m.capacity k v) W D q cap is ∙ value_of-put_pair number m.walk m.capacity k q v is_map.distinct)

  -- and there is one pair more if the key was new
  pub length-put : (m : MapState K V) (W : List (K × V)) (D : ℕ) (k : K) (v : V) → IsCapacity D → W ≡ walk_of number (put_pair number m.walk m.capacity k v) D → length W ≡ length m.walk + cond (is_some (value_of number m.walk k)) 0 1
  length-put m W D k v cap is = length-in_slots (put_pair number m.walk m.capacity k v) W D cap is ∙ length-put_pair number m.walk m.capacity k v

  -- with a key removed it has no value, and each other key its own
  pub Updates-taken : (m : MapState K V) (W : List (K × V)) (k : K) → IsMap number is_valid m → W ≡ walk_of number (take_key number m.walk m.capacity k) m.capacity → Updates number m.walk W k None
  Updates-taken m W k is_map is =
      Updates-from number m.walk W k None
      (λ q. value_of-in_slots (take_key number m.walk m.capacity k) W m.capacity q is_map.capacity is ∙ value_of-take_key number m.walk m.capacity k q is_map.distinct)

  -- and there is one pair less if the key was present
  pub length-taken : (m : MapState K V) (W : List (K × V)) (k : K) → IsMap number is_valid m → W ≡ walk_of number (take_key number m.walk m.capacity k) m.capacity → length W + cond (is_some (value_of number m.walk k)) 1 0 ≡ length m.walk
  length-taken m W k is_map is =
      let walked = length-in_slots (take_key number m.walk m.capacity k) W m.capacity is_map.capacity is in
      let taken = length-take_key number m.walk m.capacity k in omega (arith, walked, taken)

  -- an absent key leaves the map as it is if it is removed
  pub without_missing : (m : MapState K V) (k : K) → IsMap number is_valid m → value_of number m.walk k ≡ None → without_key number m k ≡ m
  without_missing m k is_map none =
      let kept : take_key number m.walk m.capacity k ≡ m.walk = swap_out-none (λ p. same_key number k p.0) _ m.walk (position-from_none (same_key number k) m.walk none) in
      let own : walk_of number (take_key number m.walk m.capacity k) m.capacity ≡ m.walk = ap (λ L. walk_of number L m.capacity) kept ∙ is_map.own in
      λ i. record m { walk = own i }
