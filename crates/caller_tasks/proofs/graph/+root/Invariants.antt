use Rattle.caller_tasks.proofs.graph.+root.Given as goal

abbrev pub decreases-root : goal.decreases-root
decreases-root g l = l.node
