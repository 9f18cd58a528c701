use Rattle.std.proofs.Common.{◌≡◌, [], length}
use Rattle.intmap_table.specs.Retaining.{KeepsAt, Retains, TakesPair}
use Rattle.intmap_table.specs.Tables.Nodes.{Held, chain_of}
use Rattle.intmap_table.proofs.Nodes.AlongLemmas.{IsAlong}
use Rattle.intmap_table.proofs.linked.closures.retain_behind.Given as goal

-- the pairs that stay so far are passed, and the closure may be called at each pair that is left
abbrev pub invariant-loop-next : goal.invariant-loop-next
invariant-loop-next g l = record {
  walked : (first : g.row.K.Denot × g.row.V.Denot) × (l.initial.slot ≡ Held l.link first)
      × IsAlong (KeepsAt g.F.FnMut) (TakesPair g.F.FnMut) (Retains (KeepsAt g.F.FnMut)) l.initial.pool l.link first l.initial.f [] (chain_of l.initial.pool.nodes l.link) l.f l.pool l.slot l.before l.at;
  total : l.pool.total ≡ l.initial.pool.total;
}

abbrev pub decreases-loop-next : goal.decreases-loop-next
decreases-loop-next g l = length (chain_of l.pool.nodes l.at)
