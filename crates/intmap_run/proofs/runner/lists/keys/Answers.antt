use Rattle.intmap_run.proofs.StepLemmas.{StepsFrom-keys}
use Rattle.intmap_run.proofs.runner.lists.keys.Goals as goal

pub returns-in-Ok-clause-step : goal.returns-in-Ok-clause-step
returns-in-Ok-clause-step g c judge =
    StepsFrom-keys g.K.IntKey.number_of (g.J.Judge.sees judge) (g.J.Judge.keeps judge) c.args.map.now c.in-Ok.keys c.in-Ok.ensures.ok
