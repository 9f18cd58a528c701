use Rattle.intmap_set.proofs.RoomLemmas.{reach-below}
use Rattle.intmap_set.proofs.laws.small_members_are_found_at_once.Goals as goal

pub returns : goal.returns
returns g c = reach-below g.K.IntKey.number_of
