use Rattle.std.proofs.Common.{refl, sym, subst, arith, zero-add, lit<}
use Rattle.std.proofs.lemmas.Result.{IfOk-weaker}
use Rattle.intmap.specs.Growth.{MeetsLoad}
use Rattle.intmap.specs.Map.{empty_map}
use Rattle.intmap.proofs.MapLemmas.{IsMapWalk-empty}
use Rattle.intmap.proofs.RoomLemmas.{HasRoomInRow-met}
use Rattle.intmap.proofs.map.IntMap.with_room_for.Goals as goal

pub returns-clause-room : goal.returns-clause-room
returns-clause-room g c =
    let wanted = c.in-Some.ensures in
    let valid = IsMapWalk-empty g.K.IntKey.number_of g.K.IntKey.is_valid _ c.in-Some.slots 909 refl wanted.capacity (lit< tt) in
    let meets = subst (λ n. MeetsLoad c.in-Some.slots n 909) (sym (zero-add c.args.pairs)) wanted.wanted.meets in
    let fits = c.ranges.pairs.fits in
    IfOk-weaker c.of_slots.result _ _
    (λ made e. rw e (HasRoomInRow-met g.K.IntKey.number_of g.K.IntKey.is_valid (empty_map c.in-Some.slots) c.args.pairs valid (omega (arith, fits)) meets)) c.of_slots.ensures.state
