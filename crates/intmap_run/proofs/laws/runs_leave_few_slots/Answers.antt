use Rattle.intmap_run.proofs.PlacementLemmas.{RunLeavesFewSlots-run}
use Rattle.intmap_run.proofs.laws.runs_leave_few_slots.Goals as goal

pub returns : goal.returns
returns g c = λ judge s t cs as' run. RunLeavesFewSlots-run g.K.IntKey.number_of (g.J.Judge.sees judge) (g.J.Judge.keeps judge) s cs as' t run
