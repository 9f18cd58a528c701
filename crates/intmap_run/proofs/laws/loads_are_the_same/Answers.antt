use Rattle.intmap_run.proofs.StandLemmas.{load_of-one}
use Rattle.intmap_run.proofs.laws.loads_are_the_same.Goals as goal

pub returns : goal.returns
returns g c = λ C L M one. load_of-one one
