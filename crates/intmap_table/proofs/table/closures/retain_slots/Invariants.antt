use Rattle.std.proofs.Common.{◌≡◌, ◌-◌, ◌%◌, length, take, drop}
use Rattle.intmap_table.specs.Retaining.{Retains, KeepsAt, TakesPair}
use Rattle.intmap_table.specs.Taking.{TakesEach}
use Rattle.intmap_table.specs.Tables.Slots.{joined}
use Rattle.intmap_table.specs.Tables.Rows.{IsTable}
use Rattle.intmap_table.proofs.LeadsLemmas.{Leads}
use Rattle.intmap_table.proofs.table.closures.retain_slots.Given as goal

-- the pairs that stay so far are in the slots before this one, in their order, and the rows are a table
abbrev pub invariant-loop-from : goal.invariant-loop-from
invariant-loop-from g l = record {
  callable : TakesEach (KeepsAt g.F.FnMut) (TakesPair g.F.FnMut) l.f (joined (drop l.from l.slots.rows));
  table : IsTable g.K.IntKey.number_of l.slots.rows;
  len : length l.slots.rows ≡ length l.initial.slots.rows;
  total : l.slots.total ≡ l.initial.slots.total;
  start : l.from % 64 ≡ 0;
  leads : Leads (Retains (KeepsAt g.F.FnMut)) l.initial.f (joined l.initial.slots.rows) l.f (joined (take l.from l.slots.rows)) (joined (drop l.from l.slots.rows));
}

abbrev pub decreases-loop-from : goal.decreases-loop-from
decreases-loop-from g l = length l.slots.rows - l.from
