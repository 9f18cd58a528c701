-- What a list says that stands for a map is what the map says.
use Rattle.std.proofs.Common.{◌≡◌, inl, inr, ℕ, ◌+◌, ◌≤◌, Bool, List, cond, length, is_some, refl, sym, ap, ◌∙◌, subst, arith}
use Rattle.std.specs.Prelude.{◌↔◌, ◌==◌}
use Rattle.std.proofs.lemmas.Bool.{cases_eq, eq-eqb, ne_eqb}
use Rattle.intmap.specs.Classes.{IsCapacity}
use Rattle.intmap.specs.Bindings.{value_of, take_key, put_pair, write_value, strike_keys, keep_pairs}
use Rattle.intmap.specs.Walk.{walk_of}
use Rattle.intmap.specs.Reach.{class_size, reach}
use Rattle.intmap.specs.Figures.{load_of}
use Rattle.intmap.specs.Map.{MapState, IsMap, IsOutOfRange, IsCapacityAfter}
use Rattle.intmap.specs.PlainLists.{PlainList, Stands}
use Rattle.intmap.proofs.DistinctLemmas.{length-put_pair}
use Rattle.intmap.proofs.KeepLemmas.{StandsFor-keep_pairs}
use Rattle.intmap.proofs.LocationLemmas.{walk_of-write_value}
use Rattle.intmap_run.specs.Laws.{StandForOne}
use Rattle.intmap_run.proofs.CapacityLemmas.{IsLarger, IsCapacityAfter-changed}
use Rattle.intmap_run.proofs.StandLemmas.{value_of-one, length-one, load_of-one, class_size-one, reach-one, StandForOne-take_key, StandForOne-put_pair, StandForOne-strike_keys, StandForOne-larger}

module _ {K V : Type 0} {number : K → ℕ} {is_valid : K → Type 0} {m : MapState K V} {s : PlainList K V} (is_map : IsMap number is_valid m) (stands : Stands number s m) where
  -- the list and the map's walk stand for one map
  StandForOne-stands : StandForOne number s.capacity s.pairs m.walk
  StandForOne-stands = record {
    capacity = subst IsCapacity (sym stands.capacity) is_map.capacity;
    walk = stands.walk ∙ rw stands.capacity (sym is_map.own);
  }

  -- a key has the same value
  pub value_of-stands : (k : K) → value_of number s.pairs k ≡ value_of number m.walk k
  value_of-stands k = value_of-one StandForOne-stands k

  -- the number of pairs is the same
  pub length-stands : length s.pairs ≡ length m.walk
  length-stands = length-one StandForOne-stands

  -- the same number of slots hold a pair
  pub load_of-stands : load_of number s.pairs s.capacity ≡ load_of number m.walk m.capacity
  load_of-stands = load_of-one StandForOne-stands ∙ ap (load_of number m.walk) stands.capacity

  -- the same number of keys agree with a key
  pub class_size-stands : (k : K) → class_size number s.pairs s.capacity k ≡ class_size number m.walk m.capacity k
  class_size-stands k = class_size-one StandForOne-stands k ∙ ap (λ C. class_size number m.walk C k) stands.capacity

  -- a look-up compares the same number of keys
  pub reach-stands : (k : K) → reach number s.pairs s.capacity k ≡ reach number m.walk m.capacity k
  reach-stands k = reach-one StandForOne-stands k ∙ ap (λ C. reach number m.walk C k) stands.capacity

  -- a look-up counts the same in both
  pub compared-stands : (k : K) → s.compared + reach number s.pairs s.capacity k ≡ m.compared + reach number m.walk m.capacity k
  compared-stands k = ap (λ n. n + reach number s.pairs s.capacity k) stands.compared ∙ ap (λ n. m.compared + n) (reach-stands k)

  -- the same keys are out of range
  pub IsOutOfRange-stands : (k : K) → IsOutOfRange number s.pairs s.capacity s.factor k ↔ IsOutOfRange number m.walk m.capacity m.factor k
  IsOutOfRange-stands k = (
    (λ out. rw (value_of-stands k, length-stands, stands.capacity, stands.factor) at out),
    (λ out. rw (value_of-stands k, length-stands, stands.capacity, stands.factor) out),
  )

  -- an insertion that leaves D slots places the same number of pairs
  pub placements-stands : (k : K) (v : V) (D : ℕ) → IsCapacityAfter number m.walk m.capacity m.factor k D
      → cond (D == m.capacity) 0 (length m.walk + 1) ≡ cond (D == s.capacity) 0 (length (put_pair number s.pairs s.capacity k v))
  placements-stands k v D capacity = rw stands.capacity (elim (cases_eq D m.capacity) [
    | inl same ↦ (let e = eq-eqb D m.capacity same in rw e refl)
    | inr apart ↦
        (let e = ne_eqb D m.capacity apart in
        let new_key = IsCapacityAfter-changed (value_of number m.walk k) m.capacity (length m.walk + 1) m.factor D capacity apart in
        let longer = length-put_pair number s.pairs m.capacity k v ∙ ap (λ o. length s.pairs + cond (is_some o) 0 1) (value_of-stands k ∙ new_key.0) in
        rw e (omega (arith, longer, length-stands)))
  ])

  -- with a pair inserted, the list has the walk of the map in at least the same number of slots
  pub walk_of-put_pair-stands : (k : K) (v : V) (D : ℕ) → IsLarger m.capacity D → walk_of number (put_pair number s.pairs s.capacity k v) D ≡ walk_of number (put_pair number m.walk m.capacity k v) D
  walk_of-put_pair-stands k v D larger =
      let le : s.capacity ≤ D = (let more = larger.more in omega (arith, more, stands.capacity)) in
      (StandForOne-larger (StandForOne-put_pair StandForOne-stands k v) D larger.capacity le).walk ∙ ap (λ C. walk_of number (put_pair number m.walk C k v) D) stands.capacity

  -- the list has the walk of the map in at least the same number of slots
  pub walk_of-stands : (D : ℕ) → IsLarger m.capacity D → walk_of number s.pairs D ≡ walk_of number m.walk D
  walk_of-stands D larger =
      let le : s.capacity ≤ D = (let more = larger.more in omega (arith, more, stands.capacity)) in
      (StandForOne-larger StandForOne-stands D larger.capacity le).walk

  -- with a key removed, it has the walk of the map
  pub walk_of-take_key-stands : (k : K) → walk_of number (take_key number s.pairs s.capacity k) s.capacity ≡ walk_of number (take_key number m.walk m.capacity k) m.capacity
  walk_of-take_key-stands k =
      (StandForOne-take_key StandForOne-stands k).walk ∙ ap (λ C. walk_of number (take_key number m.walk C k) C) stands.capacity

  -- with keys struck, it has the walk of the map
  pub walk_of-strike_keys-stands : (ks : List K) → walk_of number (strike_keys number s.pairs ks) s.capacity ≡ walk_of number (strike_keys number m.walk ks) m.capacity
  walk_of-strike_keys-stands ks =
      (StandForOne-strike_keys StandForOne-stands ks).walk ∙ ap (λ C. walk_of number (strike_keys number m.walk ks) C) stands.capacity

module _ {K V : Type 0} {number : K → ℕ} {m : MapState K V} {s : PlainList K V} (stands : Stands number s m) where
  -- with a value written, the list has the walk of the map with it written
  pub walk_of-write_value-stands : (k : K) (v : V) → walk_of number (write_value number s.pairs k v) s.capacity ≡ write_value number m.walk k v
  walk_of-write_value-stands k v = walk_of-write_value number s.pairs s.capacity k v ∙ ap (λ W. write_value number W k v) stands.walk

  -- the pairs that a test keeps of the list have the walk of those that it keeps of the map
  pub walk_of-keep_pairs-stands : (keeps : K → V → Bool) → walk_of number (keep_pairs keeps s.pairs) s.capacity ≡ keep_pairs keeps m.walk
  walk_of-keep_pairs-stands keeps = StandsFor-keep_pairs number keeps s.pairs m.walk s.capacity stands.walk
