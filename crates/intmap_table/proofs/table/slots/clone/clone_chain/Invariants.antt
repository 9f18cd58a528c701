use Rattle.std.proofs.Common.{length}
use Rattle.intmap_table.specs.Tables.Nodes.{chain_of}
use Rattle.intmap_table.proofs.Nodes.CloneLemmas.{AreCloned}
use Rattle.intmap_table.proofs.table.slots.clone.clone_chain.Given as goal

-- the pairs before the link are cloned
abbrev pub invariant-loop-next : goal.invariant-loop-next
invariant-loop-next g l = AreCloned g.X.Clone.is_clone l.pool.nodes l.from l.link l.fn.made l.first l.made

abbrev pub decreases-loop-next : goal.decreases-loop-next
decreases-loop-next g l = length (chain_of l.pool.nodes l.link)
