use Rattle.intmap_table.specs.Tables.Nodes.{IsNodeAt}
use Rattle.intmap_table.proofs.linked.chain.seek.Given as goal

-- as many pairs are passed as turns were taken
abbrev pub invariant-loop-passed : goal.invariant-loop-passed
invariant-loop-passed g l = IsNodeAt l.pool.nodes l.from l.passed l.link
