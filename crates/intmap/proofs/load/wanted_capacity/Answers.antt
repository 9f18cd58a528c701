use Rattle.std.proofs.Common.{arith}
use Rattle.intmap.proofs.LoadFactorLemmas.{IsNear-more, IsNear-none}
use Rattle.intmap.proofs.load.wanted_capacity.Goals as goal

pub returns-then-slots-clause-none : goal.returns-then-slots-clause-none
returns-then-slots-clause-none c =
    let over = c.loop-slots-test.true in
    IsNear-none c.args.capacity c.args.len c.args.factor c.loop-slots.slots c.requires c.ranges.len.fits c.loop-slots.invariant (omega (arith, over)) c.if-slots.true

pub loop-slots-preserved : goal.loop-slots-preserved
loop-slots-preserved c =
    let over = c.loop-slots-test.true in
    IsNear-more c.args.capacity c.args.len c.args.factor c.loop-slots.slots c.requires c.loop-slots.invariant (omega (arith, over)) c.if-slots.false
