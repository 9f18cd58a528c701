use Rattle.std.proofs.Common.{◌+◌, arith}
use Rattle.callers.proofs.reserved.set_next.Goals as goal

-- room for more is room for one
pub unreachable-requires : goal.unreachable-requires
unreachable-requires g c =
    let law = c.insertions_leave_room.ensures in
    let no = c.in-Err.ensures.has_room (law.fewer c.args.map.now (c.args.left + 1) 1 c.in-Err.ensures.valid c.requires (omega arith)) in cc

pub returns-clause-room : goal.returns-clause-room
returns-clause-room g c =
    let did = c.in-Ok.ensures in
    c.insertions_leave_room.ensures.inserted c.args.map.now c.insert.new.self c.args.key c.args.value c.args.left did.valid c.requires did.inserted did.state
