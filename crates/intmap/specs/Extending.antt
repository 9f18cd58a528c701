-- What inserting pairs in turn returns and leaves.
use Rattle.std.specs.Prelude.{◌≡◌, ℕ, ◌+◌, ◌-◌, ◌^◌, ◌<◌, ◌≤◌, cond, is_some, min, max, List, [], ◌∷◌, ◌++◌, length, reverse, Option, Some, ◌⊎◌}
use Rattle.std.specs.Iterator.{Drains, YieldsThen}
use Rattle.std.specs.Option.{option_or}
use Rattle.intmap_table.specs.Bindings.{value_of}
use Rattle.intmap_table.specs.Figures.{tally_of}
use Rattle.intmap.specs.Growth.{IsLeastPower}
use Rattle.intmap.specs.Insertions.{MapInserts}
use Rattle.intmap.specs.Map.{MapState, IsOutOfRange, empty_map, after_search, first_capacity, least_capacity}
use Rattle.intmap.specs.PlainLists.{RefusalIsDue, list_of}
use Rattle.intmap.specs.declared.refusal.Cause.{Cause}
use Rattle.intmap.specs.declared.refusal.Cause.TheVariants.{Memory, TooLarge}
use Rattle.intmap.specs.declared.refusal.RefusedPair.{RefusedPair}

module _ {K V : Type 0} (number : K → ℕ) where
  -- the keys of the pairs that are absent from the list, each once
  abbrev pub new_keys : List (K × V) → List (K × V) → List K
  new_keys L [] = []
  new_keys L (p ∷ ps) = cond (is_some (value_of number L p.0)) (new_keys L ps) (p.0 ∷ new_keys (p ∷ L) ps)

module _ {K V : Type 0} (number : K → ℕ) (is_valid : K → Type 0) where
  -- the pairs were inserted in turn, and none failed
  abbrev pub MapInsertsAll : MapState K V → List (K × V) → MapState K V → Type 0
  MapInsertsAll m [] n = n ≡ m
  MapInsertsAll m (p ∷ ps) n = (l : MapState K V) × MapInserts number is_valid m p.0 p.1 l × MapInsertsAll l ps n

  -- the pairs were inserted in turn, and none failed: each of their keys has its last value, each other key what it had, there is
  -- one pair more for each new key, the load factor stays, and there are no fewer slots
  pub record IsExtended (m : MapState K V) (ps : List (K × V)) (n : MapState K V) : Type 0 where
    pub inserted : MapInsertsAll m ps n
    pub updates : (q : K) → value_of number n.walk q ≡ option_or (value_of number (reverse ps) q) (value_of number m.walk q)
    pub len : length n.walk ≡ length m.walk + length (new_keys number m.walk ps)
    pub factor : n.factor ≡ m.factor
    pub capacity : m.capacity ≤ n.capacity

  -- the pairs were inserted in turn, and none failed, into an empty map of at least `room` slots
  pub record IsCollected (room : ℕ) (ps : List (K × V)) (m : MapState K V) : Type 0 where
    pub slots : ℕ
    pub power : IsLeastPower (max room least_capacity) slots
    pub extended : IsExtended (empty_map slots) ps m

  -- the pairs were inserted in turn into an empty map of at least `room` slots, up to one that is out of range
  pub record LeavesRange (room : ℕ) (ps : List (K × V)) : Type 0 where
    pub before : List (K × V)
    pub next : K × V
    pub rest : List (K × V)
    pub are : ps ≡ before ++ next ∷ rest
    pub filled : MapState K V
    pub collected : IsCollected room before filled
    pub out_of_range : IsOutOfRange number filled.walk filled.capacity filled.factor next.0

  -- apart from both counts and what is reserved, the map is what insertions of the pairs in turn into a new map of 4 slots leave
  pub record IsMadeOf (ps : List (K × V)) (m : MapState K V) : Type 0 where
    pub filled : MapState K V
    pub inserted : MapInsertsAll (empty_map first_capacity) ps filled
    pub state : m ≡ record filled { placed = m.placed; compared = m.compared; reserved = m.reserved }

module _ {K V S : Type 0} (number : K → ℕ) (is_valid : K → Type 0) (steps : S → Option (K × V) → S → Type 0) where
  -- all pairs that the iterator s gave were inserted in turn
  pub record Extends (s : S) (m n : MapState K V) : Type 0 where
    pub pairs : List (K × V)
    pub came : Drains steps s pairs
    pub extended : IsExtended number is_valid m pairs n

  -- the pairs that the iterator s gave were inserted in turn up to the first that failed, which is returned with the
  -- cause and the number of those before it, or 2^64 - 1 if they were more; then its key was looked up
  pub record ExtendsUpTo (s : S) (m : MapState K V) (refused : RefusedPair K V) (n : MapState K V) : Type 0 where
    pub pairs : List (K × V)
    pub rest : S
    pub came : YieldsThen steps s pairs (Some (refused.key, refused.value)) rest
    pub before : MapState K V
    pub extended : IsExtended number is_valid m pairs before
    pub may_refuse : RefusalIsDue number (list_of before) refused.key refused.cause
    pub after : n ≡ after_search number before refused.key
    pub applied : refused.applied ≡ min (length pairs) (2 ^ 64 - 1)

  -- an empty map of at least b slots was extended by all pairs that the iterator s gave
  pub record Collects (s : S) (b : ℕ) (n : MapState K V) : Type 0 where
    pub slots : ℕ
    pub power : IsLeastPower (max b least_capacity) slots
    pub extends : Extends s (empty_map slots) n

  -- a map of at least b slots could not be made, or the pairs that the iterator s gave were inserted into it, up to one that failed
  abbrev pub MayRefuseToCollect : S → ℕ → Cause → Type 0
  MayRefuseToCollect s b cause =
      ((cause ≡ TooLarge) × (2 ^ 63 < b))
      ⊎ ((cause ≡ Memory) × (b ≤ 2 ^ 63))
      ⊎ ((slots : ℕ) × IsLeastPower (max b least_capacity) slots × (refused : RefusedPair K V) × (n : MapState K V)
      × ExtendsUpTo s (empty_map slots) refused n × (cause ≡ refused.cause))

-- the keys of the map are the numbers of the list, each with how often it occurs there; the map is as insertions of them, in the order in which they first occur, leave it
pub record IsTally (ns : List ℕ) (m : MapState ℕ ℕ) : Type 0 where
  pub made : IsMadeOf (λ n. n) (λ n. n < 2 ^ 64) (tally_of ns) m
  pub counts : (q : ℕ) → value_of (λ n. n) m.walk q ≡ value_of (λ n. n) (tally_of ns) q
  pub len : length m.walk ≡ length (tally_of ns)
