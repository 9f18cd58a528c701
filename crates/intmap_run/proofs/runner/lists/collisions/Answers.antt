use Rattle.intmap_run.proofs.CollisionStepLemmas.{StepsFrom-collisions}
use Rattle.intmap_run.proofs.runner.lists.collisions.Goals as goal

pub returns-in-Ok-clause-step : goal.returns-in-Ok-clause-step
returns-in-Ok-clause-step g c judge =
    let made = c.in-Ok.ensures.ok in
    StepsFrom-collisions g.K.IntKey.number_of g.K.IntKey.is_valid c.args.map.now c.all_sizes.ensures.valid (g.J.Judge.sees judge) (g.J.Judge.keeps judge) c.in-Ok.sizes made.0 made.1 made.2
