use Rattle.std.proofs.Common.{◌≡◌, ◌-◌, ◌<◌, length}
use Rattle.intmap_table.specs.Tables.Keeping.{KeepsRows}
use Rattle.intmap_table.specs.Tables.Rows.{IsRowWord}
use Rattle.intmap_table.specs.Tables.Slots.{count_before}
use Rattle.intmap_table.proofs.table.keep.keep_slots.Given as goal

-- if a bit is left, the pairs that weren't gone over are in the slots from this one on
abbrev pub invariant-loop-bits : goal.invariant-loop-bits
invariant-loop-bits g l = record {
  rows : KeepsRows g.K.IntKey.number_of l.fn.bits l.fn.slots.rows l.fn.at l.bits l.slots.rows l.at;
  next : 0 < l.bits.left → count_before l.slots.rows l.from 0 ≡ count_before l.slots.rows l.at.slot l.at.place;
  word : IsRowWord l.slots.rows l.from l.left.at l.left.word;
  total : l.slots.total ≡ l.fn.slots.total;
}

abbrev pub decreases-loop-bits : goal.decreases-loop-bits
decreases-loop-bits g l = length l.slots.rows - l.from
