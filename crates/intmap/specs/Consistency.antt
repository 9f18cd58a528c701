-- How a map keeps its table, the number of its pairs and its load factor. No public clause cites this module.
use Rattle.std.specs.Prelude.{◌≡◌, ◌≤◌, ℕ, List, length}
use Rattle.intmap.specs.Growth.{IsThreshold}
use Rattle.intmap.specs.Map.{IsMapWalk}

module _ {K V : Type 0} where
  -- the parts of a map agree: its table's walk, the C slots, the load factor F, the number n of pairs and the greatest number that meets the load. No more pairs are
  -- reserved, R, than there is memory for, N
  pub record IsConsistent (number : K → ℕ) (is_valid : K → Type 0) (W : List (K × V)) (C F n most R N : ℕ) : Type 0 where
    pub map : IsMapWalk number is_valid W C F
    pub count : n ≡ length W
    pub threshold : IsThreshold C F most
    pub memory : R ≤ N
