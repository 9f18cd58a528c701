use Rattle.std.proofs.Common.{◌≡◌, ◌-◌, ◌≤◌, length, vec_capacity}
use Rattle.intmap_table.specs.Tables.Bits.{marked, IsWordFrom}
use Rattle.intmap_table.specs.Tables.Nodes.{rows_in}
use Rattle.intmap_table.proofs.Nodes.CloneLemmas.{AreClonedBelow}
use Rattle.intmap_table.proofs.table.slots.clone.clone_rows.Given as goal

-- the slots before slot `from` are cloned, and all have room
abbrev pub invariant-loop-index : goal.invariant-loop-index
invariant-loop-index g l = record {
  below : AreClonedBelow g.X.Clone.is_clone g.K.IntKey.number_of (rows_in l.slots l.pool.nodes) (length l.slots) l.from l.made.items l.nodes;
  full : l.nodes.held ≡ length l.nodes.nodes;
  few : length l.made.items ≤ length l.slots;
  room : length l.slots ≤ vec_capacity l.made;
  word : IsWordFrom (marked l.bits) l.from l.left.at l.left.word;
}

abbrev pub decreases-loop-index : goal.decreases-loop-index
decreases-loop-index g l = length l.slots - l.from
