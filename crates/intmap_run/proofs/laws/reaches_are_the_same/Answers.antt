use Rattle.intmap_run.proofs.StandLemmas.{reach-one}
use Rattle.intmap_run.proofs.laws.reaches_are_the_same.Goals as goal

pub returns : goal.returns
returns g c = λ C L M k one. reach-one one k
