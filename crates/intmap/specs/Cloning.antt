-- The clone of a map.
pub use Rattle.intmap_table.specs.Cloning.{BindsClones}
use Rattle.std.specs.Prelude.{◌≡◌}
use Rattle.std.specs.List.{AllZip}
use Rattle.intmap_table.specs.Cloning.{IsPairClone}
use Rattle.intmap.specs.Map.{MapState}

module _ {K V : Type 0} (clones : V → V → Type 0) where
  -- the same pairs in the same order, each with a clone of its value; capacity and load factor are the same, the counts are zero, and nothing is reserved
  pub record IsClone (m n : MapState K V) : Type 0 where
    pub walk : AllZip (IsPairClone clones) m.walk n.walk
    pub state : n ≡ record m { walk = n.walk; placed = 0; compared = 0; reserved = 0 }
