use Rattle.intmap_run.proofs.JoinLemmas.{RunsFrom-join}
use Rattle.intmap_run.proofs.laws.runs_join.Goals as goal

pub returns : goal.returns
returns g c = λ judge m n o cs ds as' bs one other.
    RunsFrom-join g.K.IntKey.number_of (g.J.Judge.sees judge) (g.J.Judge.keeps judge) m n o cs ds as' bs one other
