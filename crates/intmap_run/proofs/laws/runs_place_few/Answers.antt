use Rattle.intmap_run.proofs.PlacementLemmas.{RunPlacesFew-run}
use Rattle.intmap_run.proofs.laws.runs_place_few.Goals as goal

pub returns : goal.returns
returns g c = λ judge s t cs as' run. RunPlacesFew-run g.K.IntKey.number_of (g.J.Judge.sees judge) (g.J.Judge.keeps judge) s cs as' t run
