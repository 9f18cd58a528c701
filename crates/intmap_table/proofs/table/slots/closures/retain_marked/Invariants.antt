use Rattle.std.proofs.Common.{◌≡◌, length}
use Rattle.intmap_table.specs.Retaining.{KeepsAt, TakesPair}
use Rattle.intmap_table.specs.Tables.Nodes.{rows_in}
use Rattle.intmap_table.proofs.Nodes.AskedLemmas.{AreRetained}
use Rattle.intmap_table.proofs.table.slots.closures.retain_marked.Given as goal

-- the word to be returned says which slots hold a pair, and the closure was asked about the pairs of those whose bits aren't left
abbrev pub invariant-loop-left : goal.invariant-loop-left
invariant-loop-left g l = record {
  retained : AreRetained g.K.IntKey.number_of (KeepsAt g.F.FnMut) (TakesPair g.F.FnMut) (rows_in l.fn.slots.items l.fn.pool.nodes) l.from l.fn.f l.slots.items l.pool l.f l.kept l.left;
  len : length l.slots.items ≡ length l.fn.slots.items;
  total : l.pool.total ≡ l.fn.pool.total;
}

abbrev pub decreases-loop-left : goal.decreases-loop-left
decreases-loop-left g l = l.left
