use Rattle.std.proofs.Common.{length, ◌^◌, ◌<◌}
use Rattle.intmap_table.specs.Tables.Nodes.{chain_of}
use Rattle.intmap_table.proofs.Nodes.TurnLemmas.{IsTurned}
use Rattle.intmap_table.proofs.linked.turn.turn.Given as goal

-- the pairs before the link that is left are turned
abbrev pub invariant-loop-left : goal.invariant-loop-left
invariant-loop-left g l = record {
  turned : IsTurned l.fn.pool l.fn.link l.pool l.turned l.left;
  fits : l.turned < 2 ^ 48;
}

abbrev pub decreases-loop-left : goal.decreases-loop-left
decreases-loop-left g l = length (chain_of l.pool.nodes l.left)
