use Rattle.std.proofs.Common.{ℕ, ◌≡◌, [], length}
use Rattle.intmap_table.specs.Writes.{TakesPairMut, Writes, WritesAt}
use Rattle.intmap_table.specs.Tables.Nodes.{chain_of}
use Rattle.intmap_table.proofs.Nodes.AlongLemmas.{IsAlong}
use Rattle.intmap_table.proofs.linked.closures.write_each.Given as goal

-- the closure wrote the values that were passed, and it may be called at each pair that is left
abbrev pub invariant-loop-next : goal.invariant-loop-next
invariant-loop-next g l = record {
  walked : (first : g.row.K.Denot × g.row.V.Denot) × (before : ℕ)
      × IsAlong (WritesAt g.F.FnMut) (TakesPairMut g.F.FnMut) (Writes (WritesAt g.F.FnMut)) l.initial.pool l.link first l.initial.f [] (chain_of l.initial.pool.nodes l.link) l.f l.pool l.slot before l.at;
  total : l.pool.total ≡ l.initial.pool.total;
}

abbrev pub decreases-loop-next : goal.decreases-loop-next
decreases-loop-next g l = length (chain_of l.pool.nodes l.at)
