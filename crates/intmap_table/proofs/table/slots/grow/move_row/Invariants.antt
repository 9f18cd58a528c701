use Rattle.std.proofs.Common.{ℕ, ◌≡◌, ◌+◌, ◌<◌, ◌≤◌, length}
use Rattle.std.specs.Prelude.{get_or}
use Rattle.intmap_table.specs.Classes.{slot_number}
use Rattle.intmap_table.specs.Tables.Growing.{blank}
use Rattle.intmap_table.specs.Tables.Nodes.{empty, chain_of, row_in, rows_in, AreHome}
use Rattle.intmap_table.specs.Tables.Rows.{AreRows}
use Rattle.intmap_table.proofs.Nodes.GrowingLemmas.{AreTaken, IsMoving}
use Rattle.intmap_table.proofs.table.slots.grow.move_row.Given as goal

-- some pairs behind the first one are left in the old nodes, the last one first, and there is room for them
abbrev pub invariant-loop-rest : goal.invariant-loop-rest
invariant-loop-rest g l = record {
  taken : AreTaken l.fn.old_pool (row_in l.fn.old_pool.nodes (get_or l.fn.slots.items l.index empty)) l.old_pool l.rest;
  own : AreHome (λ p. slot_number g.K.IntKey.number_of p.0 (l.old_mask + 1)) l.index (chain_of l.old_pool.nodes l.rest);
  are : AreRows g.K.IntKey.number_of (blank (l.index + 1) (l.old_mask + 1) l.slots.items) l.pool l.bits l.mask;
  moving : IsMoving g.K.IntKey.number_of (l.mask + 1) (row_in l.fn.old_pool.nodes (get_or l.fn.slots.items l.index empty)) l.first_target (chain_of l.old_pool.nodes l.rest) (rows_in (blank l.index (l.old_mask + 1) l.fn.slots.items) l.fn.pool.nodes) (rows_in (blank (l.index + 1) (l.old_mask + 1) l.slots.items) l.pool.nodes);
  len : length l.slots.items ≡ length l.fn.slots.items;
  left : (j : ℕ) → l.index + 1 ≤ j → j < l.old_mask + 1 → get_or l.slots.items j empty ≡ get_or l.fn.slots.items j empty;
  ready : l.pool.held + length (chain_of l.old_pool.nodes l.rest) ≤ l.pool.total;
  held : l.pool.held + 1 + length (chain_of l.old_pool.nodes l.rest) ≤ l.fn.pool.held + length (row_in l.fn.old_pool.nodes (get_or l.fn.slots.items l.index empty));
  total : l.fn.pool.total ≤ l.pool.total;
  counted : l.placed + length (chain_of l.old_pool.nodes l.rest) ≡ l.fn.placed + length (row_in l.fn.old_pool.nodes (get_or l.fn.slots.items l.index empty));
}

abbrev pub decreases-loop-rest : goal.decreases-loop-rest
decreases-loop-rest g l = length (chain_of l.old_pool.nodes l.rest)
