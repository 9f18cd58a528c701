use Rattle.std.proofs.Common.{◌≡◌, ◌++◌, min, length, refl, sym, ap, ◌∙◌, append_assoc, length-append, arith, rules}
use Rattle.intmap.specs.Draining.{drain_rest}
use Rattle.intmap.specs.Map.{with_walk}
use Rattle.intmap_run.proofs.FrontLemmas.{take-joined, drop-joined}
use Rattle.intmap_run.proofs.runner.lists.take_front.Goals as goal

pub loop-init : goal.loop-init
loop-init g c =
    let state = c.drain-drain.ensures.state in
    let made = c.in_ok-pairs.ensures in
    record {
      front = rw made.items (ap (λ m. m.walk) state);
      map = state ∙ ap (λ m. with_walk c.args.map.now m.walk) (sym state);
      lender = refl;
      count = made.len;
      room = omega (arith, made.len, made.capacity, made.exact);
      few = omega (arith, c.min-taken.ensures, c.len.ensures.value);
    }

pub loop-smaller : goal.loop-smaller
loop-smaller g c = omega (arith, ap length c.in-Some.ensures.steps.0)

pub loop-preserved : goal.loop-preserved
loop-preserved g c =
    let before = c.loop.invariant in
    let took = c.in-Some.ensures.steps in
    let pushed = c.push_reserved.ensures in
    record {
      front = rw (pushed.items, append_assoc) (ap (λ rest. c.loop.pairs.items ++ rest) (sym took.0) ∙ before.front);
      map = took.2 ∙ ap (λ m. with_walk m (drain_rest c.next.new.self)) before.map;
      lender = took.1 ∙ before.lender;
      count = omega (arith, pushed.len, before.count);
      room = omega (arith, pushed.capacity, before.room);
      few = before.few;
    }

pub returns-clause-pairs : goal.returns-clause-pairs
returns-clause-pairs g c =
    let all : length c.loop.pairs.items ≡ min c.args.count (length c.args.map.now.walk) = omega (arith, c.min-taken.ensures, c.len.ensures.value, c.loop.invariant.count, c.loop-test.false, c.loop.auto.counter-end) in
    sym (take-joined c.loop.pairs.items (drain_rest c.loop.drain) c.args.map.now.walk c.args.count c.loop.invariant.front all)

pub returns-clause-state : goal.returns-clause-state
returns-clause-state g c =
    let all : length c.loop.pairs.items ≡ min c.args.count (length c.args.map.now.walk) = omega (arith, c.min-taken.ensures, c.len.ensures.value, c.loop.invariant.count, c.loop-test.false, c.loop.auto.counter-end) in
    let left = drop-joined c.loop.pairs.items (drain_rest c.loop.drain) c.args.map.now.walk c.args.count c.loop.invariant.front all in
    rw left (search rules)

pub unreachable-requires : goal.unreachable-requires
unreachable-requires g c = omega (arith, ap length c.loop.invariant.front, length-append c.loop.pairs.items (drain_rest c.loop.drain), ap length c.in_default.ensures.steps.0.0, c.loop.invariant.count, c.loop.invariant.few, c.loop-test.true)

pub push_reserved-requires : goal.push_reserved-requires
push_reserved-requires g c = omega (arith, c.loop.invariant.count, c.loop.invariant.room, c.loop-test.true)

pub returns-clause-valid_after : goal.returns-clause-valid_after
returns-clause-valid_after g c = let h = c.drop-drain.ensures.valid_after in search rules
