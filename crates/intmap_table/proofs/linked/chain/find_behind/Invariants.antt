use Rattle.std.proofs.Common.{length, ◌≤◌}
use Rattle.intmap_table.specs.Tables.Behind.{IsBehind}
use Rattle.intmap_table.specs.Tables.Nodes.{chain_of}
use Rattle.intmap_table.proofs.linked.chain.find_behind.Given as goal

-- the node is that of the place which was reached
abbrev pub invariant-loop-next : goal.invariant-loop-next
invariant-loop-next g l = record {
  behind : IsBehind l.pool.nodes l.from l.passed l.before l.at;
  within : l.passed ≤ l.place;
}

abbrev pub decreases-loop-next : goal.decreases-loop-next
decreases-loop-next g l = length (chain_of l.pool.nodes l.at)
