use Rattle.std.proofs.Common.{◌≡◌, List, [], ◌++◌, length}
use Rattle.intmap_table.specs.Retaining.{KeepsAt, Retains, TakesPair}
use Rattle.intmap_table.specs.Taking.{TakesEach}
use Rattle.intmap_table.specs.Tables.Nodes.{row_in, IsSlotSet}
use Rattle.intmap_table.proofs.LeadsLemmas.{Leads}
use Rattle.intmap_table.proofs.linked.closures.retain.Given as goal

-- no pair stays so far, and the closure may be called at each pair that is left
abbrev pub invariant-loop-link : goal.invariant-loop-link
invariant-loop-link g l = record {
  gone : (gone : List (g.row.K.Denot × g.row.V.Denot)) × (row_in l.initial.pool.nodes l.initial.slot ≡ gone ++ row_in l.pool.nodes l.slot);
  row : IsSlotSet l.initial.pool l.initial.slot (row_in l.pool.nodes l.slot) l.pool l.slot;
  callable : TakesEach (KeepsAt g.F.FnMut) (TakesPair g.F.FnMut) l.f (row_in l.pool.nodes l.slot);
  leads : Leads (Retains (KeepsAt g.F.FnMut)) l.initial.f (row_in l.initial.pool.nodes l.initial.slot) l.f [] (row_in l.pool.nodes l.slot);
  total : l.pool.total ≡ l.initial.pool.total;
}

abbrev pub decreases-loop-link : goal.decreases-loop-link
decreases-loop-link g l = length (row_in l.pool.nodes l.slot)
