use Rattle.std.proofs.Common.{length}
use Rattle.intmap_table.specs.Tables.Behind.{IsBehind}
use Rattle.intmap_table.specs.Tables.Nodes.{chain_of}
use Rattle.intmap_table.proofs.linked.chain.last_in.Given as goal

-- the link is that of the last node that was passed
abbrev pub invariant-loop-next : goal.invariant-loop-next
invariant-loop-next g l = IsBehind l.pool.nodes l.from l.count l.last l.next

abbrev pub decreases-loop-next : goal.decreases-loop-next
decreases-loop-next g l = length (chain_of l.pool.nodes l.next)
