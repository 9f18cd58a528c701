use Rattle.std.proofs.Common.{◌+◌, length, ap, arith}
use Rattle.intmap_table.proofs.Nodes.BehindLemmas.{Behind-next}
use Rattle.intmap_table.proofs.Nodes.PathLemmas.{IsNext, Chain-next, Chain-first, Chain-some, NodeAt-ends}
use Rattle.intmap_table.proofs.linked.chain.last_from.Goals as goal
use Rattle.intmap_table.proofs.linked.chain.last_from.Goals.{At-loop-next}

-- the node's pair is the first of those that are left
next : (g : _) (c : At-loop-next g) → IsNext c.args.pool.now.nodes c.loop-next.last c.loop-next.next c.loop-next.invariant.link.0
next g c = Chain-next c.args.pool.now.nodes c.loop-next.last c.loop-next.next c.loop-next.invariant.link.0 c.loop-next.invariant.leads c.loop-next.invariant.link.1

pub link-next-requires : goal.link-next-requires
link-next-requires g c = Chain-first c.args.pool.now.nodes c.args.at c.requires.leads c.requires.some

pub loop-next-init : goal.loop-next-init
loop-next-init g c = record { behind = λ from i h. (i, omega arith, h); leads = c.requires.leads; link = c.link-next.ensures.link }

pub link-next-requires-in-loop-next : goal.link-next-requires-in-loop-next
link-next-requires-in-loop-next g c =
    let n = next g (goal.at.link-next-requires-in-loop-next g c).At-loop-next in
    Chain-first c.args.pool.now.nodes c.loop-next.next n.is (Chain-some c.args.pool.now.nodes c.loop-next.next n.is (omega (arith, c.loop-next-test.true)))

pub loop-next-smaller : goal.loop-next-smaller
loop-next-smaller g c =
    let n = next g (goal.at.loop-next-smaller g c).At-loop-next in
    let more = ap length (Chain-next c.args.pool.now.nodes c.loop-next.next c.link-next-in-loop-next.result c.link-next-in-loop-next.ensures.link.0 n.is c.link-next-in-loop-next.ensures.link.1).pairs in
    omega (arith, more)

pub loop-next-preserved : goal.loop-next-preserved
loop-next-preserved g c =
    let n = next g (goal.at.loop-next-preserved g c).At-loop-next in
    let loop = c.loop-next.invariant in
    record {
      behind = λ from i h.
          let was = loop.behind from i h in
          let le = was.1 in
          (was.0 + 1, omega (arith, le), Behind-next c.args.pool.now.nodes from was.0 c.loop-next.last c.loop-next.next loop.link.0 was.2.reached loop.link.1);
      leads = n.is;
      link = c.link-next-in-loop-next.ensures.link;
    }

pub returns : goal.returns
returns g c from i h =
    let loop = c.loop-next.invariant in let end = loop.behind from i h in
    (end.0, end.1, NodeAt-ends c.args.pool.now.nodes from end.0 c.loop-next.last c.loop-next.next loop.link.0 end.2.reached loop.link.1 (omega (arith, c.loop-next-test.false)), end.2)
