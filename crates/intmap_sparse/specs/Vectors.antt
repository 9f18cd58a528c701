-- Sparse vectors of integers: the value at a place, the product of two vectors, and when two are the same.
use Rattle.std.specs.Prelude.{◌≡◌, ◌≢◌, ℕ, zero, suc, ◌+◌, ◌^◌, ◌<◌, ◌≤◌, ◌==◌, Bool, cond, not, ◌&&◌, nat_lt, List, length, map, take, Some, unwrap_or, ℤ, pos, ◌+ℤ◌, ◌*ℤ◌, FitsSigned, MatchBool}
use Rattle.std.specs.List.{fold, list_all, All}
use Rattle.std.specs.Ordering.{int_eq}
use Rattle.std.specs.Int.{w128}
use Rattle.intmap.specs.Bindings.{value_of, HasDistinctKeys, put_pair, take_key}
use Rattle.intmap.specs.Growing.{MeetsFactor}
use Rattle.intmap.specs.Map.{MapState, IsMap, IsOutOfRange, IsCapacityAfter, first_factor, in_slots, still_reserved}
use Rattle.intmap.specs.Walk.{walk_of}

-- a sparse vector: the stored places with their values, in the order of the walk; the number of slots; and `reserved`, for how many places
-- behind the first ones of their slots there surely is memory
pub record Vector : Type 0 where
  pub walk : List (ℕ × ℤ)
  pub capacity : ℕ
  pub reserved : ℕ

-- the value at a place: the stored one, or otherwise 0
abbrev pub value_at : List (ℕ × ℤ) → ℕ → ℤ
value_at W place = unwrap_or (value_of (λ key. key) W place) (pos 0)

-- no stored value is 0
abbrev pub HasNoZeros : List (ℕ × ℤ) → Type 0
HasNoZeros W = (place : ℕ) → value_of (λ key. key) W place ≢ Some (pos 0)

-- W may be the walk of a vector: no place is stored twice, each is below 2^64, and no stored value is 0
pub record IsVector (W : List (ℕ × ℤ)) : Type 0 where
  pub distinct : HasDistinctKeys (λ key. key) W
  pub places : All (λ pair. pair.0 < 2 ^ 64) W
  pub no_zeros : HasNoZeros W

-- an integer isn't 0
abbrev pub is_nonzero : ℤ → Bool
is_nonzero z = not (int_eq z (pos 0))

-- the value of one place is set, and each other place has what it had
abbrev pub SetsValue : List (ℕ × ℤ) → List (ℕ × ℤ) → ℕ → ℤ → Type 0
SetsValue V W place z = (value_at W place ≡ z) × ((other : ℕ) → other ≢ place → value_at W other ≡ value_at V other)

-- both vectors have the same value at every place
abbrev pub HaveSameValues : List (ℕ × ℤ) → List (ℕ × ℤ) → Type 0
HaveSameValues V W = (place : ℕ) → value_at V place ≡ value_at W place

-- at each place that V stores both have the same value
abbrev pub are_same_along : List (ℕ × ℤ) → List (ℕ × ℤ) → Bool
are_same_along V W = list_all (λ pair. int_eq (value_at V pair.0) (value_at W pair.0)) V

-- both vectors have the same value at each place that either stores
abbrev pub vectors_equal : Vector → Vector → Bool
vectors_equal v w = are_same_along v.walk w.walk && are_same_along w.walk v.walk

-- f 0 + f 1 + .. + f (n - 1)
unfoldable pub sum_below : (ℕ → ℤ) → ℕ → ℤ
sum_below f zero = pos 0
sum_below f (suc n) = sum_below f n +ℤ f n

-- how many of the numbers below n pass the test
unfoldable pub count_below : (ℕ → Bool) → ℕ → ℕ
count_below test zero = 0
count_below test (suc n) = count_below test n + cond (test n) 1 0

-- the product of two vectors: the sum of the products of their values, over all places
abbrev pub product : List (ℕ × ℤ) → List (ℕ × ℤ) → ℤ
product V W = sum_below (λ place. value_at V place *ℤ value_at W place) (2 ^ 64)

-- at how many places the value isn't 0
abbrev pub count_of_nonzero : List (ℕ × ℤ) → ℕ
count_of_nonzero W = count_below (λ place. is_nonzero (value_at W place)) (2 ^ 64)

-- the products of the values that V stores with those of W at their places, in the order of V
abbrev pub products_along : List (ℕ × ℤ) → List (ℕ × ℤ) → List ℤ
products_along V W = map (λ pair. pair.1 *ℤ value_at W pair.0) V

-- the same along the vector with fewer stored places, or along V if both have the same number
abbrev pub products : List (ℕ × ℤ) → List (ℕ × ℤ) → List ℤ
products V W = cond (nat_lt (length W) (length V)) (products_along W V) (products_along V W)

-- the sum of the first i numbers, the i-th partial sum
abbrev pub partial_sum : List ℤ → ℕ → ℤ
partial_sum zs i = fold ◌+ℤ◌ (pos 0) (take i zs)

-- some partial sum isn't an i128
abbrev pub HasWideSum : List ℤ → Type 0
HasWideSum zs = (i : ℕ) × (FitsSigned w128 (partial_sum zs i) → ⊥)

-- the load factor of every vector, that of a new map: 909 thousandths
abbrev pub load_factor : ℕ
load_factor = first_factor

-- the vector that a map from places to values is
abbrev pub vector_of : MapState ℕ ℤ → Vector
vector_of m = record { walk = m.walk; capacity = m.capacity; reserved = m.reserved }

-- the map from each stored place to its value, with nothing counted
abbrev pub as_map : Vector → MapState ℕ ℤ
as_map v = record { walk = v.walk; capacity = v.capacity; factor = load_factor; placed = 0; compared = 0; reserved = v.reserved }

-- what holds of every vector: its walk may be that of a vector, and its stored places with their values are a map
pub record IsSparseVec (v : Vector) : Type 0 where
  pub vector : IsVector v.walk
  pub map : IsMap (λ key. key) (λ key. key < 2 ^ 64) (as_map v)

-- room was made for so many further places, which took the vector v to w: the same places, in slots that meet the load factor with all of
-- them
pub record IsRoomMade (v : Vector) (additional : ℕ) (w : Vector) : Type 0 where
  pub count : length v.walk + additional < 2 ^ 64
  pub meets : MeetsFactor v.capacity (length v.walk + additional) load_factor w.capacity
  pub state : w ≡ vector_of (in_slots (λ key. key) (as_map v) w.capacity w.reserved)
  pub reserved : still_reserved (λ key. key) (as_map v) w.capacity ≤ w.reserved

-- the vector with z as the value of the place, in D slots: if z isn't 0, the place is stored with it as a map inserts a key,
-- and otherwise it is removed as a map removes a key; if D is another number of slots, nothing is reserved any more
abbrev pub with_value : Vector → ℕ → ℤ → ℕ → Vector
with_value v place z D = record {
  walk = walk_of (λ key. key) (cond (is_nonzero z) (put_pair (λ key. key) v.walk v.capacity place z) (take_key (λ key. key) v.walk v.capacity place)) D;
  capacity = D;
  reserved = cond (D == v.capacity) v.reserved 0;
}

-- D is the number of slots after z became the value of the place: `IsCapacityAfter` if z isn't 0, and otherwise the same
abbrev pub IsCapacityWith : Vector → ℕ → ℤ → ℕ → Type 0
IsCapacityWith v place z D = MatchBool (is_nonzero z) (IsCapacityAfter (λ key. key) v.walk v.capacity load_factor place D) (D ≡ v.capacity)

-- the place isn't stored, and as a new key it is out of range at the load factor of vectors
abbrev pub IsBeyondRange : Vector → ℕ → Type 0
IsBeyondRange v place = IsOutOfRange (λ key. key) v.walk v.capacity load_factor place

-- z became the value of the place, and the vector w is what v then is: a map with this place inserted, or removed for a 0; each other
-- place has the value that it had
pub record IsAssignment (v : Vector) (place : ℕ) (z : ℤ) (w : Vector) : Type 0 where
  pub capacity : IsCapacityWith v place z w.capacity
  pub state : w ≡ with_value v place z w.capacity
  pub sets : SetsValue v.walk w.walk place z
  pub len : length w.walk + cond (is_nonzero (value_at v.walk place)) 1 0 ≡ length v.walk + cond (is_nonzero z) 1 0
  pub valid : IsSparseVec w
