use Rattle.std.proofs.Common.{refl, ap}
use Rattle.intmap_set.proofs.CallLemmas.{HasRoomInRow-seen}
use Rattle.intmap_set.proofs.set.IntSet.with_room_for.Goals as goal

pub returns-clause-room : goal.returns-clause-room
returns-clause-room g c =
    let made = c.in_ok-with_room_for in
    HasRoomInRow-seen g.K.IntKey.number_of made.field-0 made.field-0 _ refl (ap (λ m. m.factor) made.ensures.state) _ made.ensures.room
