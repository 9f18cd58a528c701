use Rattle.std.proofs.Common.{◌≡◌, ◌++◌, List, []}
use Rattle.intmap_table.specs.Retaining.{Retains}
use Rattle.intmap_table.specs.Tables.Keeping.{Says}
use Rattle.intmap_table.specs.Tables.Nodes.{row_in, IsSlotSet}
use Rattle.intmap_table.proofs.linked.keep.drop_front.Given as goal

-- no pair stays so far
abbrev pub invariant-loop-bits : goal.invariant-loop-bits
invariant-loop-bits g l = record {
  gone : (gone : List g.row.P.Denot) × (row_in l.initial.pool.nodes l.initial.slot ≡ gone ++ row_in l.pool.nodes l.slot)
      × Retains Says l.initial.bits gone [] l.bits;
  slot : IsSlotSet l.initial.pool l.initial.slot (row_in l.pool.nodes l.slot) l.pool l.slot;
  total : l.pool.total ≡ l.initial.pool.total;
}

abbrev pub decreases-loop-bits : goal.decreases-loop-bits
decreases-loop-bits g l = l.bits.left
