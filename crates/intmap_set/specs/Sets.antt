-- A set of integers as contracts see it, its members, and the map that it stands for.
use Rattle.std.specs.Prelude.{◌≡◌, false, ℕ, ◌+◌, ◌<◌, Bool, cond, List, [], map, IsTrue}
use Rattle.std.specs.List.{list_any}
use Rattle.std.specs.Map.{keys_of}
use Rattle.intmap.specs.Classes.{same_key, agrees}
use Rattle.intmap.specs.Map.{MapState, IsMap, first_factor}
use Rattle.intmap.specs.Reach.{reach}

-- a set as contracts see it: its members in the order of the walk, and its number of slots; `placed`, how many members insertions put
-- into larger tables; `compared`, how many keys were compared; and `reserved`, for how many members behind the first ones of their
-- slots there surely is memory
pub record SetState (K : Type 0) : Type 0 where
  pub walk : List K
  pub capacity : ℕ
  pub placed : ℕ
  pub compared : ℕ
  pub reserved : ℕ

-- the load factor of every set, that of a new map: 909 thousandths
abbrev pub load_factor : ℕ
load_factor = first_factor

module _ {K : Type 0} where
  -- each member with the value ()
  abbrev pub paired : List K → List (K × Unit {0})
  paired W = map (λ k. (k, tt)) W

  -- the map from each member to ()
  abbrev pub as_map : SetState K → MapState K (Unit {0})
  as_map s = record { walk = paired s.walk; capacity = s.capacity; factor = load_factor; placed = s.placed; compared = s.compared; reserved = s.reserved }

  -- the set of the keys of a map
  abbrev pub set_of : MapState K (Unit {0}) → SetState K
  set_of m = record { walk = keys_of m.walk; capacity = m.capacity; placed = m.placed; compared = m.compared; reserved = m.reserved }

  -- a new set of C slots: no members, nothing counted, and nothing reserved
  abbrev pub empty_set : ℕ → SetState K
  empty_set C = record { walk = []; capacity = C; placed = 0; compared = 0; reserved = 0 }

module _ {K : Type 0} (number : K → ℕ) where
  -- whether a key is a member
  abbrev pub holds : List K → K → Bool
  holds W k = list_any (same_key number k) W

  -- the number of each member is below n
  abbrev pub AreBelow : List K → ℕ → Type 0
  AreBelow W n = (q : K) → IsTrue (holds W q) → number q < n

  -- no member shares the slot of k in C slots
  abbrev pub IsAlone : List K → ℕ → K → Type 0
  IsAlone W C k = (q : K) → IsTrue (holds W q) → agrees number C k q ≡ false

  -- the set once k was looked up: `compared` rose by the reach of k
  abbrev pub looked_up : SetState K → K → SetState K
  looked_up s k = record s { compared = s.compared + reach number (paired s.walk) s.capacity k }

  -- W has k if and only if b is true, and each other key if and only if V has it: the three parts say so of every key, of k, and of every other key
  abbrev pub Updates : List K → List K → K → Bool → Type 0
  Updates V W k b =
      ((q : K) → holds W q ≡ cond (same_key number k q) b (holds V q))
      × (holds W k ≡ b)
      × ((q : K) → same_key number k q ≡ false → holds W q ≡ holds V q)

  -- what holds of every set: its members are the keys of a map
  abbrev pub IsSet : (K → Type 0) → SetState K → Type 0
  IsSet is_valid s = IsMap number is_valid (as_map s)
