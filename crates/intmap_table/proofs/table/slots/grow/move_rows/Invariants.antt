use Rattle.std.proofs.Common.{◌≡◌, ◌+◌, ◌-◌, ◌≤◌, length, take}
use Rattle.intmap_table.specs.Tables.Bits.{marked, IsWordFrom}
use Rattle.intmap_table.specs.Tables.Growing.{blank}
use Rattle.intmap_table.specs.Tables.Nodes.{further, rows_in}
use Rattle.intmap_table.specs.Tables.Rows.{AreRows, HasMoved}
use Rattle.intmap_table.specs.Tables.Slots.{joined}
use Rattle.intmap_table.proofs.Nodes.GrowingLemmas.{AreLeft}
use Rattle.intmap_table.proofs.table.slots.grow.move_rows.Given as goal

-- the pairs of the old slots before this one have their new slots, the other old slots are as they were, and the word that is left says which of them hold a pair
abbrev pub invariant-loop-index : goal.invariant-loop-index
invariant-loop-index g l = record {
  old : AreLeft (rows_in (take (l.old_mask + 1) l.fn.slots.items) l.fn.old_pool.nodes) l.from (l.old_mask + 1) l.slots.items l.old_pool;
  word : IsWordFrom (marked l.old_bits) l.from l.left.at l.left.word;
  len : length l.slots.items ≡ l.mask + 1;
  are : AreRows g.K.IntKey.number_of (blank l.from (l.old_mask + 1) l.slots.items) l.pool l.bits l.mask;
  placed : HasMoved g.K.IntKey.number_of (joined (take l.from (rows_in (take (l.old_mask + 1) l.fn.slots.items) l.fn.old_pool.nodes))) (l.mask + 1) (rows_in (blank l.from (l.old_mask + 1) l.slots.items) l.pool.nodes);
  held : l.pool.held ≤ l.fn.pool.held + further (take l.from (rows_in (take (l.old_mask + 1) l.fn.slots.items) l.fn.old_pool.nodes));
  total : l.fn.pool.total ≤ l.pool.total;
  counted : l.placed ≡ l.fn.placed + length (joined (take l.from (rows_in (take (l.old_mask + 1) l.fn.slots.items) l.fn.old_pool.nodes)));
}

abbrev pub decreases-loop-index : goal.decreases-loop-index
decreases-loop-index g l = l.old_mask + 1 - l.from
