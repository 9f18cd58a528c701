use Rattle.std.proofs.Common.{◌≡◌}
use Rattle.intmap_table.specs.Tables.Nodes.{Held}
use Rattle.intmap_table.proofs.Nodes.KeepingLemmas.{IsKeeping}
use Rattle.intmap_table.proofs.linked.keep.keep_behind.Given as goal

-- the pairs before the node were gone over
abbrev pub invariant-loop-bits : goal.invariant-loop-bits
invariant-loop-bits g l = record {
  walked : (first : g.row.P.Denot) × (l.fn.slot ≡ Held l.link first)
      × IsKeeping l.fn.pool l.link first l.fn.bits l.fn.place l.bits l.place l.pool l.slot l.before l.at;
  total : l.pool.total ≡ l.fn.pool.total;
}

abbrev pub decreases-loop-bits : goal.decreases-loop-bits
decreases-loop-bits g l = l.bits.left
