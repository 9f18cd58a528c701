-- What is left of a map once the value of a present key was handed to a closure.
use Rattle.std.proofs.Common.{◌≡◌, ℕ, ◌+◌, cond, false, length, Option, Some, None, is_some, ap, arith}
use Rattle.std.specs.Prelude.{Result}
use Rattle.intmap_table.specs.Bindings.{Updates, value_of}
use Rattle.intmap_table.specs.Classes.{same_key}
use Rattle.intmap_table.specs.HandingOver.{HandsOver}
use Rattle.intmap.specs.Map.{MapState, IsMap, with_pair, without_key}
use Rattle.intmap.proofs.AfterLemmas.{Updates-put, Updates-taken, length-put, length-taken}

module _ {K V R : Type 0} (number : K → ℕ) (is_valid : K → Type 0) (post : Result R V → Type 0) (m n : MapState K V) (k : K) where
  -- the map is without the key, or has its pair with the value that the closure returned
  abbrev pub IsLeft : Option R → Type 0
  IsLeft result = HandsOver post result (n ≡ without_key number m k) (λ back. n ≡ with_pair number m k back m.capacity)

  -- the key has no value, or that one
  abbrev pub IsUpdated : Option R → Type 0
  IsUpdated result = HandsOver post result (Updates number m.walk n.walk k None) (λ back. Updates number m.walk n.walk k (Some back))

  pub IsUpdated-left : (result : Option R) → IsMap number is_valid m → IsLeft result → IsUpdated result
  IsUpdated-left None is_map left = (left.0, left.1, Updates-put number is_valid m n.walk m.capacity k left.0 is_map is_map.capacity (ap (λ s. s.walk) left.2))
  IsUpdated-left (Some r) is_map left = (left.0, Updates-taken number is_valid m n.walk k is_map (ap (λ s. s.walk) left.1))

  -- each other key has its own value
  pub others-updated : (result : Option R) → IsUpdated result → (q : K) → same_key number k q ≡ false → value_of number n.walk q ≡ value_of number m.walk q
  others-updated None updated = updated.2.2
  others-updated (Some r) updated = updated.1.2

  -- and there is one pair less if the pair is gone
  pub length-left : (result : Option R) (v : V) → IsMap number is_valid m → value_of number m.walk k ≡ Some v → IsLeft result → length n.walk + cond (is_some result) 1 0 ≡ length m.walk
  length-left None v is_map bound left =
      let len = length-put number is_valid m n.walk m.capacity k left.0 is_map.capacity (ap (λ s. s.walk) left.2) in
      grind (arith, len, bound)
  length-left (Some r) v is_map bound left = rw bound at (length-taken number is_valid m n.walk k is_map (ap (λ s. s.walk) left.1))
