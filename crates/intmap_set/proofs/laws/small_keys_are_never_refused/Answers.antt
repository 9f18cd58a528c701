use Rattle.intmap_set.proofs.RoomLemmas.{small-never_due}
use Rattle.intmap_set.proofs.laws.small_keys_are_never_refused.Goals as goal

pub returns : goal.returns
returns g c = small-never_due g.K.IntKey.number_of
