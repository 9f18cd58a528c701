use Rattle.std.proofs.Common.{length, ap, sym, ◌∙◌, arith}
use Rattle.intmap_table.proofs.Nodes.BehindLemmas.{Behind-start, Behind-next, Behind-end}
use Rattle.intmap_table.proofs.Nodes.PathLemmas.{IsNext, Chain-next, Chain-end, NodeAt-limit}
use Rattle.intmap_table.proofs.Nodes.PassedLemmas.{Passed-start, Passed-next, position-found, reached-found, position-none, reached-none}
use Rattle.intmap_table.proofs.linked.chain.search.Goals as goal
use Rattle.intmap_table.proofs.linked.chain.search.Goals.{After-matches}

-- the node's pair is the first of those that are left
next : (g : _) (c : After-matches g) → IsNext c.args.pool.now.nodes c.loop-next.at c.in-Some.next c.in-Some.pair.now
next g c = Chain-next c.args.pool.now.nodes c.loop-next.at c.in-Some.next c.in-Some.pair.now c.loop-next.invariant.behind.reached.is c.in-Some.ensures.some

pub loop-next-init : goal.loop-next-init
loop-next-init g c = record { behind = Behind-start c.args.pool.now.nodes c.args.from c.requires; passed = Passed-start _ _; counted = omega arith }

pub loop-next-preserved : goal.loop-next-preserved
loop-next-preserved g c =
    let loop = c.loop-next.invariant in
    record {
      behind = Behind-next c.args.pool.now.nodes c.args.from c.loop-next.place c.loop-next.at c.in-Some.next c.in-Some.pair.now loop.behind.reached c.in-Some.ensures.some;
      passed = Passed-next _ _ _ _ _ _ loop.passed (next g (goal.at.loop-next-preserved g c).After-matches).pairs (sym c.matches.ensures.same ∙ c.if-matches.false);
      counted = omega (arith, c.matches.ensures.counted, loop.counted);
    }

pub loop-next-smaller : goal.loop-next-smaller
loop-next-smaller g c = let n = ap length (next g (goal.at.loop-next-smaller g c).After-matches).pairs in omega (arith, n)

pub overflow_add-place : goal.overflow_add-place
overflow_add-place g c = let limit = NodeAt-limit c.args.pool.now.nodes c.args.from c.loop-next.place c.loop-next.at c.loop-next.invariant.behind.reached in omega (arith, limit)

pub returns-then-matches-clause-place : goal.returns-then-matches-clause-place
returns-then-matches-clause-place g c =
    position-found _ _ _ _ _ _ c.loop-next.invariant.passed (next g (goal.at.returns-then-matches-clause-place g c).After-matches).pairs (sym c.matches.ensures.same ∙ c.if-matches.true)

pub returns-then-matches-clause-counted : goal.returns-then-matches-clause-counted
returns-then-matches-clause-counted g c =
    let n = reached-found _ _ _ _ _ _ c.loop-next.invariant.passed (next g (goal.at.returns-then-matches-clause-counted g c).After-matches).pairs (sym c.matches.ensures.same ∙ c.if-matches.true) in
    omega (arith, n, c.matches.ensures.counted, c.loop-next.invariant.counted)

pub returns-clause-missing : goal.returns-clause-missing
returns-clause-missing g c = position-none _ _ _ _ c.loop-next.invariant.passed (Chain-end _ _ c.loop-next.invariant.behind.reached.is c.in_default.ensures.none)

pub returns-clause-last : goal.returns-clause-last
returns-clause-last g c =
    Behind-end c.args.pool.now.nodes c.args.from c.loop-next.place c.loop-next.before c.loop-next.at c.loop-next.invariant.behind (Chain-end _ _ c.loop-next.invariant.behind.reached.is c.in_default.ensures.none)

pub returns-clause-counted : goal.returns-clause-counted
returns-clause-counted g c =
    let n = reached-none _ _ _ _ c.loop-next.invariant.passed (Chain-end _ _ c.loop-next.invariant.behind.reached.is c.in_default.ensures.none) in
    omega (arith, n, c.loop-next.invariant.counted)
