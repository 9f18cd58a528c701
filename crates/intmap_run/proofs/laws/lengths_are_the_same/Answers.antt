use Rattle.intmap_run.proofs.StandLemmas.{length-one}
use Rattle.intmap_run.proofs.laws.lengths_are_the_same.Goals as goal

pub returns : goal.returns
returns g c = λ C L M one. length-one one
