use Rattle.intmap_set.proofs.RoomLemmas.{IsAlone-below}
use Rattle.intmap_set.proofs.laws.small_new_keys_are_alone.Goals as goal

pub returns : goal.returns
returns g c = IsAlone-below g.K.IntKey.number_of
