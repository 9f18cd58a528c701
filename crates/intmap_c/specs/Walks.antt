-- What a walk by a cursor returns to C, and what it leaves of a map, m before and n after.
use Rattle.std.specs.Prelude.{◌≡◌, ◌⊎◌, ℕ, ◌+◌, List, [], ◌∷◌, ◌++◌, cond, take, drop, length, None}
use Rattle.std.specs.List.{list_any}
use Rattle.intmap_table.specs.declared.table.walk.Cursor.{Cursor}
use Rattle.intmap.specs.Bindings.{Updates}
use Rattle.intmap.specs.Classes.{same_key}
use Rattle.intmap.specs.Copying.{AreCopied}
use Rattle.intmap.specs.Keeping.{dropped_by, kept_by, next_pairs}
use Rattle.intmap.specs.Map.{passed, with_walk}
use Rattle.intmap_c.specs.Statuses.{present_status, absent_status}
use Rattle.intmap_c.specs.declared.answer.FoundPair.{FoundPair}
use Rattle.intmap_c.specs.declared.answer.Pair.{Pair}
use Rattle.intmap_c.specs.Answers.{no_pair, pair_of}
use Rattle.intmap_c.specs.Calls.{State, bound_to, itself}

-- the first pair of the walk from the cursor on is returned, and the cursor is behind it; or none is left, and the cursor stays
pub record TakesStep (m : State) (at to : Cursor) (found : FoundPair) : Type 0 where
  pub told :
      ((found.status ≡ present_status) × (drop (passed itself m at) m.walk ≡ (found.pair.key, found.pair.value) ∷ drop (passed itself m to) m.walk)
      × (passed itself m to ≡ passed itself m at + 1))
      ⊎ ((found ≡ no_pair absent_status) × (drop (passed itself m at) m.walk ≡ []) × (to ≡ at))

-- the next n pairs of the walk from the cursor on were copied to the front of an array, all of them or as many as it has elements, and the cursor is behind them
pub record CopiesPairs (m : State) (at to : Cursor) (old new : List Pair) (n : ℕ) : Type 0 where
  pub copies : AreCopied (λ p made. made ≡ pair_of p) (drop (passed itself m at) m.walk) old new n
  pub moves : passed itself m to ≡ passed itself m at + n
  pub stays : n ≡ 0 → to ≡ at

-- the first pair of the walk from the cursor on was removed, and is returned; or none is left, and the cursor stays; either way the same pairs are before the cursor
pub record Cuts (m n : State) (at to : Cursor) (found : FoundPair) : Type 0 where
  pub told :
      ((found.status ≡ present_status) × (drop (passed itself m at) m.walk ≡ (found.pair.key, found.pair.value) ∷ drop (passed itself n to) n.walk)
      × Updates itself m.walk n.walk found.pair.key None × (length n.walk + 1 ≡ length m.walk))
      ⊎ ((found ≡ no_pair absent_status) × (drop (passed itself m at) m.walk ≡ []) × (n ≡ m) × (to ≡ at))
  pub before : take (passed itself n to) n.walk ≡ take (passed itself m at) m.walk
  pub same : passed itself n to ≡ passed itself m at
  pub state : n ≡ with_walk m n.walk

-- of the next 64 pairs of the walk from the cursor on, those whose bit is set stay, and the cursor is behind them. So many others were removed: their keys are absent, and each other key has its value. If no pair is left, the cursor stays
pub record Keeps (m n : State) (at to : Cursor) (marks removed : ℕ) : Type 0 where
  pub walk : n.walk ≡ take (passed itself m at) m.walk ++ (kept_by marks (next_pairs itself m.walk m.capacity at) ++ drop (passed itself m at + 64) m.walk)
  pub behind : passed itself n to ≡ passed itself m at + length (kept_by marks (next_pairs itself m.walk m.capacity at))
  pub stays : next_pairs itself m.walk m.capacity at ≡ [] → to ≡ at
  pub count : removed ≡ length (dropped_by marks (next_pairs itself m.walk m.capacity at))
  pub bindings : (q : ℕ) → bound_to n q ≡ cond (list_any (λ pair. same_key itself q pair.0) (dropped_by marks (next_pairs itself m.walk m.capacity at))) None (bound_to m q)
  pub len : length n.walk + removed ≡ length m.walk
  pub state : n ≡ with_walk m n.walk
