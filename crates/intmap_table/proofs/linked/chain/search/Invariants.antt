use Rattle.std.proofs.Common.{length, ◌≡◌, ◌+◌}
use Rattle.intmap_table.specs.Classes.{same_key}
use Rattle.intmap_table.specs.Tables.Behind.{IsBehind}
use Rattle.intmap_table.specs.Tables.Nodes.{chain_of}
use Rattle.intmap_table.proofs.Nodes.PassedLemmas.{Passed}
use Rattle.intmap_table.proofs.linked.chain.search.Given as goal

-- the node is the first of what is left, and none of those that were passed has the key
abbrev pub invariant-loop-next : goal.invariant-loop-next
invariant-loop-next g l = record {
  behind : IsBehind l.pool.nodes l.from l.place l.before l.at;
  passed : Passed (λ p. same_key g.K.IntKey.number_of l.key p.0) (chain_of l.pool.nodes l.from) l.place (chain_of l.pool.nodes l.at);
  counted : l.steps ≡ l.fn.steps + l.place;
}

abbrev pub decreases-loop-next : goal.decreases-loop-next
decreases-loop-next g l = length (chain_of l.pool.nodes l.at)
