-- How far pairs were taken from the front of a walk.
use Rattle.std.specs.Prelude.{◌≡◌, ℕ, ◌+◌, ◌<◌, List, [], length, map, slice_index_or}
use Rattle.std.specs.List.{range_with_len}
use Rattle.intmap_table.specs.Walk.{slot_of}
use Rattle.intmap_table.specs.Tables.Rows.{IsRowWord}
use Rattle.intmap_table.specs.declared.table.front.Front.{Front}

-- no row before the front's slot holds a pair, and the front has the marks of the rows behind it
pub record IsRowFront {P : Type 0} (R : List (List P)) (f : Front) : Type 0 where
  pub within : f.at < length R
  pub passed : (i : ℕ) → i < f.at → slice_index_or R i [] ≡ []
  pub left : IsRowWord R (f.at + 1) f.left.at f.left.word

-- the same of the slots of a table of C slots with walk W
abbrev pub IsFront : {K V : Type 0} → (K → ℕ) → List (K × V) → ℕ → Front → Type 0
IsFront number W C f = IsRowFront (map (slot_of number W C) (range_with_len 0 C)) f
