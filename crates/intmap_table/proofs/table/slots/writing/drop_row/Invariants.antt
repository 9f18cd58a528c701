use Rattle.std.proofs.Common.{◌≡◌, length}
use Rattle.intmap_table.specs.Tables.Nodes.{row_in}
use Rattle.intmap_table.proofs.Nodes.DroppedLemmas.{IsDropped}
use Rattle.intmap_table.proofs.table.slots.writing.drop_row.Given as goal

-- some of the pairs are left
abbrev pub invariant-loop-link : goal.invariant-loop-link
invariant-loop-link g l = record {
  left : IsDropped l.fn.pool l.fn.slot l.pool l.slot;
  total : l.pool.total ≡ l.fn.pool.total;
}

abbrev pub decreases-loop-link : goal.decreases-loop-link
decreases-loop-link g l = length (row_in l.pool.nodes l.slot)
