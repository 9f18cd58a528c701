-- The sizes of slots are the same for every list that stands for the map, and are one step of each.
use Rattle.std.proofs.Common.{◌≡◌, inl, ℕ, zero, suc, ◌+◌, ◌^◌, ◌<◌, Bool, List, [], ◌∷◌, length, map, refl, sym, ap, ◌∙◌, add-zero, zero-add, arith, lit<}
use Rattle.std.specs.Prelude.{nat_lt, filter}
use Rattle.std.specs.List.{range_with_len}
use Rattle.std.specs.declared.vec.Vec.{Vec}
use Rattle.intmap.specs.Classes.{IsCapacity}
use Rattle.intmap.specs.Extending.{IsMadeOf}
use Rattle.intmap.specs.Figures.{collisions_of, tally_of}
use Rattle.intmap.specs.Map.{MapState, IsMap, empty_map}
use Rattle.intmap.specs.PlainLists.{PlainList, Stands, empty_list}
use Rattle.intmap.specs.Walk.{slot_of, walk_of}
use Rattle.intmap.proofs.MapLemmas.{IsMapWalk-empty}
use Rattle.intmap.proofs.WalkLemmas.{SameSlots-from_walk_of}
use Rattle.intmap_run.specs.declared.command.Command.TheVariants as command
use Rattle.intmap_run.specs.declared.answer.Answer.TheVariants as answer
use Rattle.intmap_run.specs.Steps.{StepsFrom}
use Rattle.intmap_run.proofs.ExtendStepLemmas.{all_accepted}
use Rattle.intmap_run.proofs.StepLemmas.{Step-same}

-- what is the same at each number of a range
map-range_same : (f g : ℕ → ℕ) (a n : ℕ) → ((i : ℕ) → i < n → f (a + i) ≡ g (a + i)) → map f (range_with_len a n) ≡ map g (range_with_len a n)
map-range_same f g a zero same = refl
map-range_same f g a (suc n) same =
    let first : f a ≡ g a = let k = same 0 (omega arith) in rw add-zero at k in
    let rest = map-range_same f g (a + 1) n (λ i below. let q : a + 1 + i ≡ a + suc i = omega arith in rw q (same (suc i) (omega arith))) in
    ap (λ k. k ∷ map f (range_with_len (a + 1) n)) first ∙ ap (λ ks. g a ∷ ks) rest

module _ {K V : Type 0} (number : K → ℕ) where
  -- lists that have one walk have slots of the same sizes
  pub collisions_of-same : (L M : List (K × V)) (C : ℕ) → walk_of number L C ≡ walk_of number M C → collisions_of number L C ≡ collisions_of number M C
  collisions_of-same L M C same =
      ap (λ ns. tally_of (filter (nat_lt 1) ns))
      (map-range_same (λ i. length (slot_of number L C i)) (λ i. length (slot_of number M C i)) 0 C
      (λ i below. rw zero-add (ap length (SameSlots-from_walk_of number C L M same i below))))

  -- so have a list that stands for a map and its walk
  collisions_of-stands : (is_valid : K → Type 0) (m : MapState K V) → IsMap number is_valid m → (s : PlainList K V) → Stands number s m → collisions_of number s.pairs s.capacity ≡ collisions_of number m.walk m.capacity
  collisions_of-stands is_valid m is_map s stands = rw stands.capacity (collisions_of-same s.pairs m.walk m.capacity (rw stands.capacity at stands.walk ∙ sym is_map.own))

-- a new map of 4 slots
four : IsCapacity 4
four = (2, lit< tt, lit< tt, refl)

module _ {K V S A : Type 0} (number : K → ℕ) (is_valid : K → Type 0) (m : MapState K V) (is_map : IsMap number is_valid m) (sees : V → S → Type 0) (keeps : K → V → Bool) where
  -- the walk of a map that was made of the sizes
  pub StepsFrom-collisions : (sizes : Vec (ℕ × ℕ) A) (made : MapState ℕ ℕ) → IsMadeOf (λ n. n) (λ n. n < 2 ^ 64) (collisions_of number m.walk m.capacity) made → sizes.items ≡ made.walk
      → StepsFrom number sees keeps m command.Collisions (answer.Sizes sizes) m
  StepsFrom-collisions sizes made is items s stands =
      let empty : IsMap (λ n. n) (λ n. n < 2 ^ 64) (empty_map 4) = IsMapWalk-empty (λ n. n) (λ n. n < 2 ^ 64) [] 4 909 refl four (lit< tt) in
      let all = all_accepted (λ n. n) (λ n. n < 2 ^ 64) (empty_map 4) (collisions_of number m.walk m.capacity) is.filled empty is.inserted (empty_list 4)
      (record { walk = empty.own; capacity = refl; factor = refl; placed = refl; compared = refl }) in
      let walk : sizes.items ≡ walk_of (λ n. n) all.0.pairs all.0.capacity = items ∙ ap (λ x. x.walk) is.state ∙ sym all.1.stands.walk in
      let same = collisions_of-stands number is_valid m is_map s stands in
      Step-same number sees keeps m s command.Collisions (answer.Sizes sizes) (inl (sizes, refl, (all.0, rw same all.1.inserts, walk), refl)) stands
