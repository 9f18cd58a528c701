use Rattle.intmap_run.proofs.StandLemmas.{value_of-one}
use Rattle.intmap_run.proofs.laws.values_are_the_same.Goals as goal

pub returns : goal.returns
returns g c = λ C L M k one. value_of-one one k
