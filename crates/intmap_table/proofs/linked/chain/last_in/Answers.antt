use Rattle.std.proofs.Common.{length, ap, arith}
use Rattle.intmap_table.proofs.Nodes.BehindLemmas.{Behind-start, Behind-next, Behind-end}
use Rattle.intmap_table.proofs.Nodes.PathLemmas.{Chain-first, Chain-some, Chain-next, Chain-beyond, NodeAt-len, NodeAt-limit}
use Rattle.intmap_table.proofs.linked.chain.last_in.Goals as goal

pub loop-next-init : goal.loop-next-init
loop-next-init g c = Behind-start c.args.pool.now.nodes c.args.from c.requires

pub link-next-requires : goal.link-next-requires
link-next-requires g c =
    let leads = c.loop-next.invariant.reached.is in
    Chain-first c.args.pool.now.nodes c.loop-next.next leads (Chain-some c.args.pool.now.nodes c.loop-next.next leads (omega (arith, c.loop-next-test.true)))

pub overflow_add-count : goal.overflow_add-count
overflow_add-count g c = let limit = NodeAt-limit c.args.pool.now.nodes c.args.from c.loop-next.count c.loop-next.next c.loop-next.invariant.reached in omega (arith, limit)

pub loop-next-preserved : goal.loop-next-preserved
loop-next-preserved g c =
    let link = c.link-next.ensures.link in
    Behind-next c.args.pool.now.nodes c.args.from c.loop-next.count c.loop-next.next c.link-next.result link.0 c.loop-next.invariant.reached link.1

pub loop-next-smaller : goal.loop-next-smaller
loop-next-smaller g c =
    let link = c.link-next.ensures.link in
    let n = ap length (Chain-next c.args.pool.now.nodes c.loop-next.next c.link-next.result link.0 c.loop-next.invariant.reached.is link.1).pairs in
    omega (arith, n)

pub returns-clause-last : goal.returns-clause-last
returns-clause-last g c =
    Behind-end c.args.pool.now.nodes c.args.from c.loop-next.count c.loop-next.last c.loop-next.next c.loop-next.invariant
    (Chain-beyond c.args.pool.now.nodes c.loop-next.next c.loop-next.invariant.reached.is (omega (arith, c.loop-next-test.false)))

pub returns-clause-len : goal.returns-clause-len
returns-clause-len g c =
    let len = NodeAt-len c.args.pool.now.nodes c.args.from c.loop-next.count c.loop-next.next c.loop-next.invariant.reached in
    let none = ap length (Chain-beyond c.args.pool.now.nodes c.loop-next.next c.loop-next.invariant.reached.is (omega (arith, c.loop-next-test.false))) in
    omega (arith, len, none)

pub returns-clause-limit : goal.returns-clause-limit
returns-clause-limit g c = NodeAt-limit c.args.pool.now.nodes c.args.from c.loop-next.count c.loop-next.next c.loop-next.invariant.reached
