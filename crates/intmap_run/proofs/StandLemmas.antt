-- Lists that stand for one map: what they say of it is the same, and they go on standing for one map.
use Rattle.std.proofs.Common.{◌≡◌, ℕ, ◌<◌, ◌≤◌, List, length, sym, ap, ◌∙◌}
use Rattle.intmap.specs.Classes.{IsCapacity, slot_number}
use Rattle.intmap.specs.Bindings.{value_of, take_key, put_pair, write_value, strike_keys}
use Rattle.intmap.specs.Walk.{walk_of}
use Rattle.intmap.specs.Reach.{class_size, reach}
use Rattle.intmap.specs.Figures.{load_of}
use Rattle.intmap.proofs.SlotNumberLemmas.{agrees-slot_number, slot_number-below}
use Rattle.intmap.proofs.WalkLemmas.{SameSlots-from_walk_of, walk_of-take_key-same, walk_of-put_pair-same, value_of-same, class_size-same, reach-same}
use Rattle.intmap.proofs.RewrittenLemmas.{walk_of-write_value-same, walk_of-strike_keys-same}
use Rattle.intmap.proofs.DistinctLemmas.{length-walk_of}
use Rattle.intmap.proofs.LoadLemmas.{load_of-same}
use Rattle.intmap.proofs.RegroupLemmas.{walk_of-larger}
use Rattle.intmap_run.specs.Laws.{StandForOne}

module _ {K V : Type 0} {number : K → ℕ} {C : ℕ} {L M : List (K × V)} (one : StandForOne number C L M) where
  -- each slot is below the capacity
  slot_number-one : (k : K) → slot_number number k C < C
  slot_number-one k = slot_number-below number k C one.capacity

  -- a key has one value in both, or is absent in both
  pub value_of-one : (k : K) → value_of number L k ≡ value_of number M k
  value_of-one k = value_of-same number C one.capacity L M k one.walk

  -- the number of pairs is the same
  pub length-one : length L ≡ length M
  length-one = sym (length-walk_of number L C slot_number-one) ∙ ap length one.walk ∙ length-walk_of number M C slot_number-one

  -- the same number of slots hold a pair
  pub load_of-one : load_of number L C ≡ load_of number M C
  load_of-one = load_of-same number C (agrees-slot_number number C one.capacity) slot_number-one L M (SameSlots-from_walk_of number C L M one.walk)

  -- the same number of keys agree with a key
  pub class_size-one : (k : K) → class_size number L C k ≡ class_size number M C k
  class_size-one k = class_size-same number C one.capacity L M k one.walk

  -- a look-up compares the same number of keys
  pub reach-one : (k : K) → reach number L C k ≡ reach number M C k
  reach-one k = reach-same number C one.capacity L M k one.walk

  -- once a key was removed
  pub StandForOne-take_key : (k : K) → StandForOne number C (take_key number L C k) (take_key number M C k)
  StandForOne-take_key k = record { capacity = one.capacity; walk = walk_of-take_key-same number C one.capacity L M k one.walk }

  -- once a pair was put in
  pub StandForOne-put_pair : (k : K) (v : V) → StandForOne number C (put_pair number L C k v) (put_pair number M C k v)
  StandForOne-put_pair k v = record { capacity = one.capacity; walk = walk_of-put_pair-same number C one.capacity L M k v one.walk }

  -- once a value was written
  pub StandForOne-write_value : (k : K) (v : V) → StandForOne number C (write_value number L k v) (write_value number M k v)
  StandForOne-write_value k v = record { capacity = one.capacity; walk = walk_of-write_value-same number C L M k v one.walk }

  -- once keys were struck
  pub StandForOne-strike_keys : (ks : List K) → StandForOne number C (strike_keys number L ks) (strike_keys number M ks)
  StandForOne-strike_keys ks = record { capacity = one.capacity; walk = walk_of-strike_keys-same number C L M ks one.walk }

  -- in at least the same number of slots
  pub StandForOne-larger : (D : ℕ) → IsCapacity D → C ≤ D → StandForOne number D L M
  StandForOne-larger D cap more = record {
    capacity = cap;
    walk = sym (walk_of-larger number L C D one.capacity cap more) ∙ ap (λ W. walk_of number W D) one.walk ∙ walk_of-larger number M C D one.capacity cap more;
  }
