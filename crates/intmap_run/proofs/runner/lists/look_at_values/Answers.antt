use Rattle.std.proofs.Common.{◌∙◌, arith, ap, length}
use Rattle.std.proofs.lemmas.List.{length-map}
use Rattle.intmap_run.proofs.ZipLemmas.{Completes-start, Completes-step, Completes-end}
use Rattle.intmap_run.proofs.runner.lists.look_at_values.Goals as goal

pub loop-value-init : goal.loop-value-init
loop-value-init g c =
    let whole = c.into_iter-value-iterator.ensures.into_iter_gives ∙ c.values-value-items.ensures.walk in
    record {
      completes = Completes-start (g.J.Judge.sees c.args.judge.now) _ _ _ whole c.in_ok-seen.ensures.items;
      room = omega (arith, c.in_ok-seen.ensures.len, c.in_ok-seen.ensures.exact, c.len.ensures.value, ap length whole, length-map c.args.map.now.walk (λ p. p.1));
    }

pub loop-value-preserved : goal.loop-value-preserved
loop-value-preserved g c = record {
  completes =
      Completes-step (g.J.Judge.sees c.args.judge.now) _ _ _ _ _ c.in-Some.value.now c.look.result
      c.in-Some.ensures.steps c.push_reserved.ensures.items c.look.ensures c.loop-value.invariant.completes;
  room = omega (arith, c.push_reserved.ensures.len, c.push_reserved.ensures.capacity, c.loop-value.invariant.room, ap length c.in-Some.ensures.steps);
}

pub returns-clause-ok : goal.returns-clause-ok
returns-clause-ok g c = Completes-end (g.J.Judge.sees c.args.judge.now) _ _ _ c.in-None.ensures.steps.0 c.loop-value.invariant.completes
