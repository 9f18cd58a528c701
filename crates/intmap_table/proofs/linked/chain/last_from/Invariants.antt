use Rattle.std.proofs.Common.{ℕ, ◌≡◌, ◌≤◌, length}
use Rattle.intmap_table.specs.Tables.Behind.{IsBehind}
use Rattle.intmap_table.specs.Tables.Nodes.{Held, chain_of, node_at, IsChain}
use Rattle.intmap_table.proofs.linked.chain.last_from.Given as goal

-- the node is behind the given one or is that one, and the link is its own
abbrev pub invariant-loop-next : goal.invariant-loop-next
invariant-loop-next g l = record {
  behind : (from i : ℕ) → IsBehind l.pool.nodes from i l.fn.before l.fn.at → (j : ℕ) × (i ≤ j) × IsBehind l.pool.nodes from j l.before l.last;
  leads : IsChain l.pool.nodes l.last;
  link : (p : g.row.P.Denot) × (node_at l.pool.nodes l.last ≡ Held l.next p);
}

abbrev pub decreases-loop-next : goal.decreases-loop-next
decreases-loop-next g l = length (chain_of l.pool.nodes l.next)
