-- Two plain lists behind one map.
use Rattle.std.specs.Prelude.{◌≡◌, ℕ, List}
use Rattle.intmap.specs.Classes.{IsCapacity}
use Rattle.intmap.specs.Walk.{walk_of}

-- the two lists stand for one map of C slots
pub record StandForOne {K V : Type 0} (number : K → ℕ) (C : ℕ) (L M : List (K × V)) : Type 0 where
  pub capacity : IsCapacity C
  pub walk : walk_of number L C ≡ walk_of number M C
