-- A removed pair goes in again if no other shares its slot: the capacity stays at a length that was there.
use Rattle.std.proofs.Common.{◌≡◌, ℕ, ◌+◌, ◌<◌, List, [], ◌∷◌, length, Some, refl, sym, subst, arith}
use Rattle.std.specs.Prelude.{cond}
use Rattle.std.proofs.lemmas.Bool.Decides.{nat_tests}
use Rattle.intmap_table.specs.Classes.{same_key, agrees}
use Rattle.intmap_table.specs.Bindings.{value_of, take_key}
use Rattle.intmap_table.specs.Reach.{class_size}
use Rattle.intmap_table.specs.Walk.{walk_of}
use Rattle.intmap_table.proofs.DistinctLemmas.{taken, sum_by-swap_out, length-take_key, length-walk_of}
use Rattle.intmap_table.proofs.SlotNumberLemmas.{slot_number-below}
use Rattle.intmap_table.proofs.WalkLemmas.{class_size-same, walk_of-walk_of}
use Rattle.intmap.specs.Map.{MapState, IsMap, NeedsNoMemory, after_remove}
use Rattle.intmap.proofs.LoadFactorLemmas.{IsNext-loaded}

module _ {K V : Type 0} (number : K → ℕ) (is_valid : K → Type 0) where
  -- a key that shares its slot with none needs no memory in a map that became shorter
  pub NeedsNoMemory-shorter : (m n : MapState K V) (k : K) → IsMap number is_valid m → length n.walk < length m.walk → n.capacity ≡ m.capacity → n.factor ≡ m.factor
      → class_size number n.walk n.capacity k ≡ 0 → NeedsNoMemory number n.walk n.capacity n.factor k
  NeedsNoMemory-shorter m n k is_map fewer capacity factor alone = record {
    alone = alone;
    stays =
        rw (capacity, factor) (IsNext-loaded m.capacity (length n.walk + 1) (length m.walk) m.factor is_map.capacity is_map.load (omega (arith, fewer)));
    count = let most = is_map.count in omega (arith, fewer, most);
  }

  -- the removal of a present key takes one from its class
  taken-present : (L : List (K × V)) (C : ℕ) (k : K) (v : V) → value_of number L k ≡ Some v
      → taken (λ p. cond (agrees number C k p.0) 1 0) (λ p. same_key number k p.0) (λ p. agrees number C k p.0) L ≡ 1
  taken-present [] C k v is = cc
  taken-present (p ∷ L) C k v is = let rest = taken-present L C k v in grind (arith, nat_tests, rest, is)

  -- nor does one that was alone in its slot once it is removed
  pub NeedsNoMemory-removed : (m n : MapState K V) (k : K) (v : V) → IsMap number is_valid m → n ≡ after_remove number m k → value_of number m.walk k ≡ Some v
      → class_size number m.walk m.capacity k ≡ 1 → NeedsNoMemory number n.walk n.capacity n.factor k
  NeedsNoMemory-removed m n k v is_map state present one =
      let C = m.capacity in let left : List (K × V) = take_key number m.walk C k in
      let long = length-walk_of number left C (λ j. slot_number-below number j C is_map.capacity) in
      let short = rw present at (length-take_key number m.walk C k) in
      let same = class_size-same number C is_map.capacity (walk_of number left C) left k (walk_of-walk_of number C left) in
      let took = taken-present m.walk C k v present in
      let less = sum_by-swap_out (λ p. cond (agrees number C k p.0) 1 0) (λ p. same_key number k p.0) (λ p. agrees number C k p.0) m.walk in
      subst (λ s. NeedsNoMemory number s.walk s.capacity s.factor k) (sym state)
      (NeedsNoMemory-shorter m (after_remove number m k) k is_map (omega (arith, long, short)) refl refl (omega (arith, same, less, took, one)))
