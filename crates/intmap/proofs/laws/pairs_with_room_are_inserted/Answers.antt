use Rattle.intmap.proofs.RoomLemmas.{IsRoomLeft-from, never_refused-room}
use Rattle.intmap.proofs.laws.pairs_with_room_are_inserted.Goals as goal

pub returns-clause-never_refused : goal.returns-clause-never_refused
returns-clause-never_refused g c m n ps qs p cause capacity room extended may =
    never_refused-room g.K.IntKey.number_of g.K.IntKey.is_valid m n ps qs p cause capacity room extended.inserted may

pub returns-clause-capacity : goal.returns-clause-capacity
returns-clause-capacity g c m n ps qs capacity room extended =
    (IsRoomLeft-from g.K.IntKey.number_of g.K.IntKey.is_valid m n ps qs capacity room extended.inserted).capacity

pub returns-clause-room : goal.returns-clause-room
returns-clause-room g c m n ps qs capacity room extended =
    (IsRoomLeft-from g.K.IntKey.number_of g.K.IntKey.is_valid m n ps qs capacity room extended.inserted).room
