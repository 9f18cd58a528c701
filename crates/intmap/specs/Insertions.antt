-- What an insertion does to a map. `RefusalIsDue` of `PlainLists` says why one fails.
use Rattle.std.specs.Prelude.{◌≡◌, ℕ, ◌+◌, cond, is_some, length, Some}
use Rattle.intmap_table.specs.Bindings.{value_of, Updates}
use Rattle.intmap.specs.Map.{MapState, IsMap, Fits, after_insert}

module _ {K V : Type 0} (number : K → ℕ) (is_valid : K → Type 0) where
  -- an insertion of k took the map m to n, in which k has the value v: it isn't too large, a new key alone may grow the table, each
  -- other key has the value that it had, and there is one pair more if k is new
  pub record IsInsertion (m : MapState K V) (k : K) (v : V) (n : MapState K V) : Type 0 where
    pub fits : Fits number m.walk m.capacity m.factor k n.capacity
    pub updates : Updates number m.walk n.walk k (Some v)
    pub len : length n.walk ≡ length m.walk + cond (is_some (value_of number m.walk k)) 0 1
    pub valid : IsMap number is_valid n

  -- k was looked up and inserted with v, at the end of its slot: so `insert` took the map m to n
  pub record MapInserts (m : MapState K V) (k : K) (v : V) (n : MapState K V) : Type 0 where
    pub inserted : IsInsertion m k v n
    pub state : n ≡ after_insert number m k v n.capacity
