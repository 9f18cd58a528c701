use Rattle.intmap.proofs.RoomLemmas.{NeedsNoMemory-room}
use Rattle.intmap.proofs.laws.pairs_with_room_need_no_memory.Goals as goal

pub returns : goal.returns
returns g c L C F p ps capacity room = NeedsNoMemory-room g.K.IntKey.number_of L C F p ps capacity room
