use Rattle.std.proofs.Common.{◌≡◌, ◌-◌, ◌^◌, ◌<◌, length, drop}
use Rattle.intmap_table.specs.Picking.{AsksAt, PicksAt}
use Rattle.intmap_table.specs.Writes.{TakesPairMut}
use Rattle.intmap_table.specs.Tables.Slots.{joined}
use Rattle.intmap_table.specs.Tables.Rows.{IsRowWord, IsTable}
use Rattle.intmap_table.specs.Taking.{TakesEach}
use Rattle.intmap_table.proofs.ExtractLemmas.{StepsFrom}
use Rattle.intmap_table.proofs.Tables.CursorLemmas.{IsInRows}
use Rattle.intmap_table.proofs.table.closures.extract_slots.Given as goal

-- a step from the place that was reached is one from the place at the call, and the rows are a table
abbrev pub invariant-loop-slot : goal.invariant-loop-slot
invariant-loop-slot g l = record {
  callable : TakesEach (AsksAt g.F.FnMut) (TakesPairMut g.F.FnMut) l.f (drop l.at.passed (joined l.slots.rows));
  table : IsTable g.K.IntKey.number_of l.slots.rows;
  len : length l.slots.rows ≡ length l.initial.slots.rows;
  total : l.slots.total ≡ l.initial.slots.total;
  few : length (joined l.slots.rows) < 2 ^ 64;
  word : IsRowWord l.slots.rows l.at.slot l.left.at l.left.word;
  at : IsInRows l.slots.rows l.at.slot l.at.place l.at.passed;
  steps : StepsFrom (PicksAt g.F.FnMut) l.initial.f (joined l.initial.slots.rows) l.initial.at.passed l.f (joined l.slots.rows) l.at.passed;
}

abbrev pub decreases-loop-slot : goal.decreases-loop-slot
decreases-loop-slot g l = length l.slots.rows - l.at.slot
