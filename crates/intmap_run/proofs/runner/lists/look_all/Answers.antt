use Rattle.std.proofs.Common.{◌∙◌, arith, refl, ap, length}
use Rattle.intmap_run.specs.Runs.{SeesPair}
use Rattle.intmap_run.proofs.ZipLemmas.{Completes-start, Completes-step, Completes-end}
use Rattle.intmap_run.proofs.runner.lists.look_all.Goals as goal

pub loop-key-init : goal.loop-key-init
loop-key-init g c =
    let whole = c.into_iter-key-iterator.ensures.into_iter_gives ∙ c.iter-key-items.ensures.walk in
    record {
      completes = Completes-start (SeesPair (g.J.Judge.sees c.args.judge.now)) _ _ _ whole c.in_ok-seen.ensures.items;
      room = omega (arith, c.in_ok-seen.ensures.len, c.in_ok-seen.ensures.exact, c.len.ensures.value, ap length whole);
    }

pub loop-key-preserved : goal.loop-key-preserved
loop-key-preserved g c = record {
  completes =
      Completes-step (SeesPair (g.J.Judge.sees c.args.judge.now)) _ _ _ _ _ (c.in-Some.key.now, c.in-Some.value.now) (c.in-Some.key.now, c.look.result)
      c.in-Some.ensures.steps c.push_reserved.ensures.items (refl, c.look.ensures) c.loop-key.invariant.completes;
  room = omega (arith, c.push_reserved.ensures.len, c.push_reserved.ensures.capacity, c.loop-key.invariant.room, ap length c.in-Some.ensures.steps);
}

pub returns-clause-ok : goal.returns-clause-ok
returns-clause-ok g c = Completes-end (SeesPair (g.J.Judge.sees c.args.judge.now)) _ _ _ c.in-None.ensures.steps.0 c.loop-key.invariant.completes
