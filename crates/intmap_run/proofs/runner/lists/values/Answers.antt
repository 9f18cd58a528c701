use Rattle.intmap_run.proofs.StepLemmas.{StepsFrom-values}
use Rattle.intmap_run.proofs.runner.lists.values.Goals as goal

pub returns-in-Ok-clause-step : goal.returns-in-Ok-clause-step
returns-in-Ok-clause-step g c =
    StepsFrom-values g.K.IntKey.number_of (g.J.Judge.sees c.args.judge.now) (g.J.Judge.keeps c.args.judge.now) c.args.map.now c.in-Ok.seen c.in-Ok.ensures.ok
