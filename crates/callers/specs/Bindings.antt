-- What callers say of the pairs of a map: counts, floors, cells, written values, and pairs that wait.
use Rattle.std.specs.Prelude.{◌%◌, ◌++◌, ◌+◌, ◌^◌, ◌∷◌, ◌≡◌, ◌≢◌, Bool, List, Option, Some, ℕ, ℤ, count_by, map, reverse, unwrap_or}
use Rattle.std.specs.Option.{option_and_then, option_or}
use Rattle.intmap.specs.Bindings.{value_of}
use Rattle.intmap.specs.Keys.{number_of_signed}
use Rattle.intmap.specs.Map.{MapState}
use Rattle.intmap.specs.Unsigned.{value_at}
use Rattle.callers.specs.declared.insertions.Waiting.{Waiting}

module _ {V : Type 0} where
  -- every number but n has the value that it had
  abbrev pub OthersStay : List (ℕ × V) → List (ℕ × V) → ℕ → Type 0
  OthersStay before after n = (q : ℕ) → q ≢ n → value_at after q ≡ value_at before q

  -- every number has the value that it had
  abbrev pub AllStay : List (ℕ × V) → List (ℕ × V) → Type 0
  AllStay before after = (q : ℕ) → value_at after q ≡ value_at before q

  -- the value in a column of a row, where each row has a map
  abbrev pub cell_at : List (ℕ × MapState ℕ V) → ℕ → ℕ → Option V
  cell_at rows row column = option_and_then (λ columns. value_at columns.walk column) (value_at rows row)

  -- the pairs before the failed one were inserted in turn: each of their numbers has its last value, and every other what it had
  pub record IsPutUpTo (failed : ℕ × V) (pairs before after : List (ℕ × V)) : Type 0 where
    pub put : List (ℕ × V)
    pub rest : List (ℕ × V)
    pub are : pairs ≡ put ++ failed ∷ rest
    pub bound : (q : ℕ) → value_at after q ≡ option_or (value_at (reverse put) q) (value_at before q)

module _ {K : Type 0} (number : K → ℕ) where
  -- how often a key was counted
  abbrev pub count_of : List (K × ℕ) → K → ℕ
  count_of L k = unwrap_or (value_of number L k) 0

  -- no pair has the count 0
  abbrev pub HasNoZeros : List (K × ℕ) → Type 0
  HasNoZeros L = (k : K) → value_of number L k ≢ Some 0

-- the rooms that are noted for a floor, or None
abbrev pub rooms_on : List (ℤ × ℕ) → ℤ → Option ℕ
rooms_on house floor = value_of number_of_signed house floor

module _ {K : Type 0} where
  -- each value is one more, and 0 where that is 2^64
  abbrev pub one_more : List (K × ℕ) → List (K × ℕ)
  one_more L = map (λ pair. (pair.0, (pair.1 + 1) % 2 ^ 64)) L

-- each value is the sum of its key and of what was there
abbrev pub more_by_keys : List (ℕ × ℕ) → List (ℕ × ℕ)
more_by_keys L = map (λ pair. (pair.0, pair.0 + pair.1)) L

module _ {V : Type 0} where
  -- the pairs that wait
  abbrev pub pairs_of : List (Waiting V) → List (ℕ × V)
  pairs_of waiting = map (λ w. (w.key, w.value)) waiting

  -- of the pairs that came, some were moved into the map and the others wait: each of them as often as it came. A key
  -- has the value of the first moved pair with this key, or, if there is none, the value that it had
  pub record Moves (came before waits after : List (ℕ × V)) : Type 0 where
    pub moved : List (ℕ × V)
    pub none_lost : (test : ℕ × V → Bool) → count_by test came ≡ count_by test moved + count_by test waits
    pub bound : (q : ℕ) → value_at after q ≡ value_at (moved ++ before) q
