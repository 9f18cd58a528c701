use Rattle.intmap.proofs.CostLemmas.{reach-within_class}
use Rattle.intmap.proofs.laws.reach_is_within_class.Goals as goal

pub returns : goal.returns
returns g c = λ L C k. reach-within_class g.K.IntKey.number_of L C k
