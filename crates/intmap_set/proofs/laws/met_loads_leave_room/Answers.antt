use Rattle.intmap_set.proofs.RoomLemmas.{NeedsNoMemory-met}
use Rattle.intmap_set.proofs.laws.met_loads_leave_room.Goals as goal

pub returns : goal.returns
returns g c = λ W C n k capacity meets few alone. NeedsNoMemory-met g.K.IntKey.number_of W C n k capacity meets few alone
