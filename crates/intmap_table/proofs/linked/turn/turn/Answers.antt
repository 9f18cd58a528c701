use Rattle.std.proofs.Common.{arith}
use Rattle.intmap_table.proofs.Nodes.TurnLemmas.{Turned-start, Turned-some, Turned-next, Turned-smaller, Turned-end}
use Rattle.intmap_table.proofs.linked.turn.turn.Goals as goal

pub loop-left-init : goal.loop-left-init
loop-left-init g c = record { turned = Turned-start c.args.pool.now c.args.link c.requires; fits = omega arith }

pub link-next-requires : goal.link-next-requires
link-next-requires g c =
    let loop = c.loop-left in
    Turned-some c.args.pool.now c.args.link loop.pool loop.turned loop.left loop.invariant.turned (omega (arith, c.loop-left-test.true))

pub loop-left-smaller : goal.loop-left-smaller
loop-left-smaller g c =
    let loop = c.loop-left in
    let read = c.link-next.ensures.link in
    let set = c.set_link.ensures in
    Turned-smaller c.args.pool.now c.args.link loop.pool loop.turned loop.left c.link-next.result read.0 set.0 set.1 c.set_link.new.self loop.invariant.turned read.1 set.2 set.3

pub loop-left-preserved : goal.loop-left-preserved
loop-left-preserved g c =
    let loop = c.loop-left in
    let read = c.link-next.ensures.link in
    let set = c.set_link.ensures in
    record {
      turned = Turned-next c.args.pool.now c.args.link loop.pool loop.turned loop.left c.link-next.result read.0 set.0 set.1 c.set_link.new.self loop.invariant.turned read.1 set.2 set.3;
      fits = omega (arith, c.loop-left-test.true);
    }

pub returns-clause-chain : goal.returns-clause-chain
returns-clause-chain g c =
    let loop = c.loop-left in
    Turned-end c.args.pool.now c.args.link loop.pool loop.turned loop.left loop.invariant.turned (omega (arith, c.loop-left-test.false))
