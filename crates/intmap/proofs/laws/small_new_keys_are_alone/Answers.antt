use Rattle.intmap.proofs.CostLemmas.{class_size-absent}
use Rattle.intmap.proofs.laws.small_new_keys_are_alone.Goals as goal

pub returns : goal.returns
returns g c L C k below small missing = class_size-absent g.K.IntKey.number_of L C k below small missing
