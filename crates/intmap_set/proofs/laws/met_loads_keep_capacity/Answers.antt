use Rattle.intmap_set.proofs.RoomLemmas.{IsCapacityAfter-met}
use Rattle.intmap_set.proofs.laws.met_loads_keep_capacity.Goals as goal

pub returns : goal.returns
returns g c = λ W C n k D capacity meets few after. IsCapacityAfter-met g.K.IntKey.number_of W C n k capacity meets few D after
