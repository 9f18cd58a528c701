-- A map as contracts see it, and what calls leave of it.
use Rattle.std.specs.Prelude.{◌≡◌, ◌⊎◌, ℕ, ◌+◌, ◌^◌, ◌<◌, ◌≤◌, ◌==◌, cond, List, [], length, All, IsNone, MatchOption}
use Rattle.intmap_table.specs.Classes.{IsCapacity}
use Rattle.intmap_table.specs.Bindings.{HasDistinctKeys, value_of, take_key, put_pair, write_value}
use Rattle.intmap_table.specs.Walk.{walk_of}
use Rattle.intmap_table.specs.Picking.{pairs_before}
use Rattle.intmap_table.specs.Values.{with_values}
use Rattle.intmap_table.specs.declared.table.walk.Cursor.{Cursor}
use Rattle.intmap_table.specs.Reach.{class_size, reach}
use Rattle.intmap.specs.Growth.{MeetsLoad, IsNext, NeedsTooMuch, last_due}

-- a map as contracts see it: its walk, capacity and load factor in thousandths; `placed`, how many pairs insertions put into larger
-- tables; `compared`, how many keys the calls by `&mut` compared, except steps of `get_disjoint_mut`; and `reserved`, for how many pairs
-- behind the first ones of their slots, those that are there included, there surely is memory
pub record MapState (K V : Type 0) : Type 0 where
  pub walk : List (K × V)
  pub capacity : ℕ
  pub factor : ℕ
  pub placed : ℕ
  pub compared : ℕ
  pub reserved : ℕ

-- the number of pairs of the walk before a cursor, whatever two numbers it has
abbrev pub passed : {K V : Type 0} → (K → ℕ) → MapState K V → Cursor → ℕ
passed number m at = pairs_before number m.walk m.capacity at

-- the load factor of a new map, in thousandths
abbrev pub first_factor : ℕ
first_factor = 909

-- the capacity of a map that `new` makes
abbrev pub first_capacity : ℕ
first_capacity = 4

-- the least capacity
abbrev pub least_capacity : ℕ
least_capacity = 2

-- a new map of C slots: no pairs, the load factor `first_factor`, nothing counted, and nothing reserved
abbrev pub empty_map : {K V : Type 0} → ℕ → MapState K V
empty_map C = record { walk = []; capacity = C; factor = first_factor; placed = 0; compared = 0; reserved = 0 }

module _ {K V : Type 0} where
  -- the map without its pairs
  abbrev pub emptied : MapState K V → MapState K V
  emptied m = record m { walk = [] }

  -- the map with this walk
  abbrev pub with_walk : MapState K V → List (K × V) → MapState K V
  with_walk m W = record m { walk = W }

  -- the map with these values in the order of its walk, and all else as it was
  abbrev pub map_with_values : MapState K V → List V → MapState K V
  map_with_values m vs = record m { walk = with_values m.walk vs }

module _ {K V : Type 0} (number : K → ℕ) where
  -- W may be the walk of a map of C slots at the load factor F: it is its own walk, no key is present twice, each key is a
  -- value of its type, length and load factor are below 2^64, and the last length at which the load was checked meets the load
  pub record IsMapWalk (is_valid : K → Type 0) (W : List (K × V)) (C F : ℕ) : Type 0 where
    pub capacity : IsCapacity C
    pub own : walk_of number W C ≡ W
    pub distinct : HasDistinctKeys number W
    pub keys : All (λ p. is_valid p.0) W
    pub count : length W < 2 ^ 64
    pub factor : F < 2 ^ 64
    pub load : 4 ≤ length W → MeetsLoad C (last_due (length W)) F

  -- what holds of every map: `IsMapWalk` of its walk, capacity and load factor
  abbrev pub IsMap : (K → Type 0) → MapState K V → Type 0
  IsMap is_valid m = IsMapWalk is_valid m.walk m.capacity m.factor

  -- k is a new key, and one more pair would be more than 2^64 - 1, or need more than 2^63 slots
  abbrev pub IsOutOfRange : List (K × V) → ℕ → ℕ → K → Type 0
  IsOutOfRange L C F k = IsNone (value_of number L k) × ((2 ^ 64 ≤ length L + 1) ⊎ NeedsTooMuch (IsNext C (length L + 1) F))

  -- the insertion of k, if it is new, needs no memory: no key shares its slot, the capacity stays at the length after it, and that length is below 2^64
  pub record NeedsNoMemory (L : List (K × V)) (C F : ℕ) (k : K) : Type 0 where
    pub alone : class_size number L C k ≡ 0
    pub stays : IsNext C (length L + 1) F C
    pub count : length L + 1 < 2 ^ 64

  -- D is the capacity after k was inserted: C if k is present, and otherwise the next one at one pair more
  abbrev pub IsCapacityAfter : List (K × V) → ℕ → ℕ → K → ℕ → Type 0
  IsCapacityAfter L C F k D = MatchOption (value_of number L k) (IsNext C (length L + 1) F D) (λ _. D ≡ C)

  -- an insertion of k isn't too large, and leaves D slots
  pub record Fits (L : List (K × V)) (C F : ℕ) (k : K) (D : ℕ) : Type 0 where
    pub in_range : IsOutOfRange L C F k → ⊥
    pub capacity : IsCapacityAfter L C F k D

  -- the map once k was looked up: `compared` rose by the reach of k
  abbrev pub after_search : MapState K V → K → MapState K V
  after_search m k = record m { compared = m.compared + reach number m.walk m.capacity k }

  -- the map with the pair of k and v at the end of its slot, in D slots; if D is another capacity, `placed` rose by the new length, and
  -- nothing is reserved any more
  abbrev pub with_pair : MapState K V → K → V → ℕ → MapState K V
  with_pair m k v D = record m {
    walk = walk_of number (put_pair number m.walk m.capacity k v) D;
    capacity = D;
    placed = m.placed + cond (D == m.capacity) 0 (length m.walk + 1);
    reserved = cond (D == m.capacity) m.reserved 0;
  }

  -- the map once k was looked up and inserted with v, in D slots
  abbrev pub after_insert : MapState K V → K → V → ℕ → MapState K V
  after_insert m k v D = with_pair (after_search m k) k v D

  -- the map in D slots, which its pairs filled in the order of its walk, with R pairs reserved
  abbrev pub in_slots : MapState K V → ℕ → ℕ → MapState K V
  in_slots m D R = record m { walk = walk_of number m.walk D; capacity = D; reserved = R }

  -- how many pairs stay reserved if the map gets D slots
  abbrev pub still_reserved : MapState K V → ℕ → ℕ
  still_reserved m D = cond (D == m.capacity) m.reserved 0

  -- the map without k; the last pair of its slot takes its place
  abbrev pub without_key : MapState K V → K → MapState K V
  without_key m k = record m { walk = walk_of number (take_key number m.walk m.capacity k) m.capacity }

  -- the map once k was looked up and removed
  abbrev pub after_remove : MapState K V → K → MapState K V
  after_remove m k = without_key (after_search m k) k

  -- the map with v as the value of k, in its place
  abbrev pub written : MapState K V → K → V → MapState K V
  written m k v = record m { walk = write_value number m.walk k v }
