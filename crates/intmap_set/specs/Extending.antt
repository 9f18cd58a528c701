-- What inserting keys in turn returns and leaves.
use Rattle.std.specs.Prelude.{◌≡◌, true, ◌⊎◌, ℕ, ◌+◌, ◌-◌, ◌^◌, ◌≤◌, cond, max, min, List, [], ◌∷◌, ◌++◌, length, take, Option, Some}
use Rattle.std.specs.Iterator.{Drains, YieldsThen}
use Rattle.std.specs.List.{slice_get}
use Rattle.intmap.specs.declared.refusal.Cause.{Cause}
use Rattle.intmap.specs.declared.refusal.Cause.TheVariants.{Memory}
use Rattle.intmap.specs.declared.refusal.RefusedPair.{RefusedPair}
use Rattle.intmap.specs.Extending.{new_keys}
use Rattle.intmap.specs.Growth.{IsLeastPower}
use Rattle.intmap.specs.Insertions.{IsInsertion}
use Rattle.intmap.specs.Map.{IsOutOfRange, after_insert, least_capacity}
use Rattle.intmap.specs.PlainLists.{RefusalIsDue, list_of}
use Rattle.intmap.specs.Reach.{reach}
use Rattle.intmap_set.specs.Sets.{SetState, IsSet, Updates, as_map, empty_set, holds, load_factor, looked_up, paired, set_of}
use Rattle.intmap_set.specs.Combined.{IsUnion}

module _ {K : Type 0} (number : K → ℕ) (is_valid : K → Type 0) where
  -- an insertion of k took the set s to t: it is one into the map, a new key is the last of its slot, a member is looked up and nothing
  -- more, the search is counted, each other key is a member if and only if it was one, and there is one member more if k is new
  pub record Inserts (s : SetState K) (k : K) (t : SetState K) : Type 0 where
    pub inserted : IsInsertion number is_valid (as_map s) k tt (as_map t)
    pub state : t ≡ cond (holds number s.walk k) (looked_up number s k) (set_of (after_insert number (as_map s) k tt t.capacity))
    pub compared : t.compared ≡ s.compared + reach number (paired s.walk) s.capacity k
    pub updates : Updates number s.walk t.walk k true
    pub len : length t.walk ≡ length s.walk + cond (holds number s.walk k) 0 1

  -- the keys were inserted in turn, and none failed
  abbrev pub InsertsAll : SetState K → List K → SetState K → Type 0
  InsertsAll s [] t = t ≡ s
  InsertsAll s (k ∷ ks) t = (u : SetState K) × Inserts s k u × InsertsAll u ks t

  -- the keys were inserted in turn, and none failed: they are members, and so is each old member, there is one member more for each new
  -- key, and there are no fewer slots
  pub record IsExtended (s : SetState K) (ks : List K) (t : SetState K) : Type 0 where
    pub inserted : InsertsAll s ks t
    pub updates : IsUnion number s.walk ks t.walk
    pub len : length t.walk ≡ length s.walk + length (new_keys number (paired s.walk) (paired ks))
    pub capacity : s.capacity ≤ t.capacity

  -- the keys were inserted in turn up to the first that failed, which is returned with the cause and the number of those
  -- before it; then it was looked up
  pub record StopsAmong (s : SetState K) (ks : List K) (refused : RefusedPair K (Unit {0})) (t : SetState K) : Type 0 where
    pub next : slice_get ks refused.applied ≡ Some refused.key
    pub before : SetState K
    pub extended : IsExtended s (take refused.applied ks) before
    pub may_refuse : RefusalIsDue number (list_of (as_map before)) refused.key refused.cause
    pub after : t ≡ looked_up number before refused.key

  -- the keys were inserted in turn, and none failed, into a set as `with_capacity` makes it of the number `room`
  pub record IsCollected (room : ℕ) (ks : List K) (s : SetState K) : Type 0 where
    pub slots : ℕ
    pub power : IsLeastPower (max room least_capacity) slots
    pub extended : IsExtended (empty_set slots) ks s

  -- the keys were inserted in turn into a set as `with_capacity` makes it of the number `room`, up to one that is out of range
  pub record LeavesRange (room : ℕ) (ks : List K) : Type 0 where
    pub before : List K
    pub next : K
    pub rest : List K
    pub are : ks ≡ before ++ next ∷ rest
    pub filled : SetState K
    pub collected : IsCollected room before filled
    pub out_of_range : IsOutOfRange number (paired filled.walk) filled.capacity load_factor next

module _ {K I : Type 0} (number : K → ℕ) (is_valid : K → Type 0) (steps : I → Option K → I → Type 0) where
  -- all keys that the iterator i gave were inserted in turn
  pub record Extends (i : I) (s t : SetState K) : Type 0 where
    pub keys : List K
    pub came : Drains steps i keys
    pub extended : IsExtended number is_valid s keys t

  -- the keys that the iterator i gave were inserted in turn up to the first that failed, which is returned with the
  -- cause and the number of keys before it, or 2^64 - 1 if there were more; the failed key was looked up too
  pub record ExtendsUpTo (i : I) (s : SetState K) (refused : RefusedPair K (Unit {0})) (t : SetState K) : Type 0 where
    pub keys : List K
    pub rest : I
    pub came : YieldsThen steps i keys (Some refused.key) rest
    pub before : SetState K
    pub extended : IsExtended number is_valid s keys before
    pub may_refuse : RefusalIsDue number (list_of (as_map before)) refused.key refused.cause
    pub after : t ≡ looked_up number before refused.key
    pub applied : refused.applied ≡ min (length keys) (2 ^ 64 - 1)

  -- there was no memory for a set, or an insertion into s of a key that the iterator i gave failed with this cause
  abbrev pub MayStop : I → SetState K → Cause → Type 0
  MayStop i s cause = (cause ≡ Memory) ⊎ ((refused : RefusedPair K (Unit {0})) × (t : SetState K) × ExtendsUpTo i s refused t × IsSet number is_valid t × (cause ≡ refused.cause))
