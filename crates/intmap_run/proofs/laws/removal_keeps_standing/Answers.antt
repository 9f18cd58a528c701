use Rattle.intmap_run.proofs.StandLemmas.{StandForOne-take_key}
use Rattle.intmap_run.proofs.laws.removal_keeps_standing.Goals as goal

pub returns : goal.returns
returns g c = λ C L M k one. StandForOne-take_key one k
