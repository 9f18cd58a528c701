use Rattle.std.proofs.Common.{length, ap, subst, arith}
use Rattle.intmap_table.specs.Tables.Behind.{IsBehind}
use Rattle.intmap_table.proofs.Nodes.BehindLemmas.{Behind-start, Behind-next}
use Rattle.intmap_table.proofs.Nodes.PathLemmas.{IsNext, Chain-next, Chain-end, NodeAt-len, NodeAt-limit}
use Rattle.intmap_table.proofs.linked.chain.find_behind.Goals as goal
use Rattle.intmap_table.proofs.linked.chain.find_behind.Goals.{In-Some}

-- the node's pair is the first of those that are left
next : (g : _) (c : In-Some g) → IsNext c.args.pool.now.nodes c.loop-next.at c.in-Some.next c.in-Some.field-0-1.now
next g c = Chain-next c.args.pool.now.nodes c.loop-next.at c.in-Some.next c.in-Some.field-0-1.now c.loop-next.invariant.behind.reached.is c.in-Some.ensures.some

pub loop-next-init : goal.loop-next-init
loop-next-init g c = record { behind = Behind-start c.args.pool.now.nodes c.args.from c.requires; within = omega arith }

pub loop-next-preserved : goal.loop-next-preserved
loop-next-preserved g c = record {
  behind = Behind-next c.args.pool.now.nodes c.args.from c.loop-next.passed c.loop-next.at c.in-Some.next c.in-Some.field-0-1.now c.loop-next.invariant.behind.reached c.in-Some.ensures.some;
  within = omega (arith, c.loop-next.invariant.within, c.if-passed-place.false);
}

pub loop-next-smaller : goal.loop-next-smaller
loop-next-smaller g c = let n = ap length (next g (goal.at.loop-next-smaller g c).In-Some).pairs in omega (arith, n)

pub overflow_add-passed : goal.overflow_add-passed
overflow_add-passed g c = let limit = NodeAt-limit c.args.pool.now.nodes c.args.from c.loop-next.passed c.loop-next.at c.loop-next.invariant.behind.reached in omega (arith, limit)

pub returns-then-passed-place-clause-some : goal.returns-then-passed-place-clause-some
returns-then-passed-place-clause-some g c =
    let n = ap length (next g (goal.at.returns-then-passed-place-clause-some g c).In-Some).pairs in
    let all = NodeAt-len c.args.pool.now.nodes c.args.from c.loop-next.passed c.loop-next.at c.loop-next.invariant.behind.reached in
    let is = c.if-passed-place.true in
    (omega (arith, n, all, is), subst (λ i. IsBehind c.args.pool.now.nodes c.args.from i c.loop-next.before c.loop-next.at) is c.loop-next.invariant.behind)

pub returns-clause-none : goal.returns-clause-none
returns-clause-none g c =
    let none = ap length (Chain-end c.args.pool.now.nodes c.loop-next.at c.loop-next.invariant.behind.reached.is c.in_default.ensures.none) in
    let all = NodeAt-len c.args.pool.now.nodes c.args.from c.loop-next.passed c.loop-next.at c.loop-next.invariant.behind.reached in
    omega (arith, none, all, c.loop-next.invariant.within)
