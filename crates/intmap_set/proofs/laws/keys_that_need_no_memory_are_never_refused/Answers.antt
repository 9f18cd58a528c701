use Rattle.intmap_set.proofs.RoomLemmas.{NeedsNoMemory-never_due}
use Rattle.intmap_set.proofs.laws.keys_that_need_no_memory_are_never_refused.Goals as goal

pub returns : goal.returns
returns g c = NeedsNoMemory-never_due g.K.IntKey.number_of
