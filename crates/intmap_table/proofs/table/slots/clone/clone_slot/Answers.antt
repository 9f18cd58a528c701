use Rattle.std.proofs.Common.{rules, arith}
use Rattle.intmap_table.proofs.Nodes.CloneLemmas.{Cloned-none, Slot-cloned}
use Rattle.intmap_table.proofs.table.slots.clone.clone_slot.Goals as goal

pub returns-then-link-ge-NODE_LIMIT-clause-row : goal.returns-then-link-ge-NODE_LIMIT-clause-row
returns-then-link-ge-NODE_LIMIT-clause-row g c =
    rw (c.in-Some.ensures.some, c.held.ensures)
    (Slot-cloned g.X.Clone.is_clone c.args.pool.now.nodes c.in-Some.link c.in-Some.pair.now c.in_ok-copy.copy c.args.made.now c.args.made.now _ c.in_ok-copy.ensures
    (Cloned-none g.X.Clone.is_clone c.args.pool.now.nodes c.in-Some.link c.args.made.now (search rules) (omega (arith, c.if-link-ge-NODE_LIMIT.true))))

pub returns-clause-row : goal.returns-clause-row
returns-clause-row g c =
    rw (c.in-Some.ensures.some, c.held-2.ensures)
    (Slot-cloned g.X.Clone.is_clone c.args.pool.now.nodes c.in-Some.link c.in-Some.pair.now c.in_ok-copy.copy c.args.made.now c.clone_chain.new.made c.in_ok-link.link c.in_ok-copy.ensures c.in_ok-link.ensures.chain)
