use Rattle.std.proofs.Common.{◌≡◌, length}
use Rattle.intmap_table.specs.Classes.{slot_number}
use Rattle.intmap_table.proofs.Nodes.DroppedLemmas.{AreDropped}
use Rattle.intmap_table.proofs.table.slots.writing.drop_rows.Given as goal

-- there are as many slots as before, and each slot whose index isn't left holds no pair
abbrev pub invariant-loop-index : goal.invariant-loop-index
invariant-loop-index g l = record {
  dropped : AreDropped (λ p. slot_number g.K.IntKey.number_of p.0 (length l.fn.slots.items)) l.slots.items l.pool l.index-iterator;
  len : length l.slots.items ≡ length l.fn.slots.items;
  total : l.pool.total ≡ l.fn.pool.total;
}
