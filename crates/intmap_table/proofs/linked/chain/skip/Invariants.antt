use Rattle.std.proofs.Common.{◌≡◌, drop}
use Rattle.intmap_table.specs.Tables.Nodes.{chain_of, IsChain}
use Rattle.intmap_table.proofs.linked.chain.skip.Given as goal

-- what is left to be skipped is skipped from the link on
abbrev pub invariant-loop-left : goal.invariant-loop-left
invariant-loop-left g l = record {
  chain : IsChain l.pool.nodes l.link;
  pairs : drop l.left (chain_of l.pool.nodes l.link) ≡ drop l.place (chain_of l.pool.nodes l.from);
}

abbrev pub decreases-loop-left : goal.decreases-loop-left
decreases-loop-left g l = l.left
