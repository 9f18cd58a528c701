use Rattle.intmap.proofs.CostLemmas.{class_size-below}
use Rattle.intmap.proofs.laws.small_keys_are_alone.Goals as goal

pub returns : goal.returns
returns g c = λ L C k once below. class_size-below g.K.IntKey.number_of L C k once below
