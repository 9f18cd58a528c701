use Rattle.std.proofs.Common.{sym, subst, arith}
use Rattle.intmap_table.specs.Tables.Nodes.{Held, chain_of, IsSlotSet}
use Rattle.intmap_table.proofs.Nodes.SlotLemmas.{Front-only}
use Rattle.intmap_table.proofs.linked.row.removal.pop_front.Goals as goal

pub returns-then-link-ge-NODE_LIMIT-clause-row : goal.returns-then-link-ge-NODE_LIMIT-clause-row
returns-then-link-ge-NODE_LIMIT-clause-row g c first =
    let pool = c.args.pool.now in let link = c.args.link in
    subst (IsSlotSet pool (Held link first) (chain_of pool.nodes link) pool) (sym c.take.ensures.node)
    (Front-only pool link first c.requires.leads (omega (arith, c.if-link-ge-NODE_LIMIT.true)))
