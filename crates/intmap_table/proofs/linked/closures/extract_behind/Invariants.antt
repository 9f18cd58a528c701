use Rattle.std.proofs.Common.{◌≡◌, length}
use Rattle.intmap_table.specs.Picking.{PicksAt}
use Rattle.intmap_table.specs.Writes.{TakesPairMut}
use Rattle.intmap_table.specs.Tables.Nodes.{Held, chain_of}
use Rattle.intmap_table.proofs.Nodes.PickedLemmas.{IsPicked}
use Rattle.intmap_table.proofs.linked.closures.extract_behind.Given as goal

-- the closure picked none of the pairs that were passed, and it may be called at each pair that is left
abbrev pub invariant-loop-next : goal.invariant-loop-next
invariant-loop-next g l = record {
  walked : (first : g.row.K.Denot × g.row.V.Denot) × (l.initial.slot ≡ Held l.link first)
      × IsPicked (PicksAt g.F.FnMut) (TakesPairMut g.F.FnMut) l.initial.pool l.link first l.initial.f l.initial.place l.f l.place l.pool l.slot l.before l.at;
  total : l.initial.pool.total ≡ l.pool.total;
}

abbrev pub decreases-loop-next : goal.decreases-loop-next
decreases-loop-next g l = length (chain_of l.pool.nodes l.at)
