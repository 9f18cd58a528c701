use Rattle.intmap_run.proofs.StandLemmas.{class_size-one}
use Rattle.intmap_run.proofs.laws.class_sizes_are_the_same.Goals as goal

pub returns : goal.returns
returns g c = λ C L M k one. class_size-one one k
