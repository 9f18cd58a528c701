use Rattle.std.proofs.Common.{◌+◌, arith}
use Rattle.callers_above.proofs.vectors.set_reserved.Goals as goal

-- room for more is room for one
pub unreachable-requires : goal.unreachable-requires
unreachable-requires g c =
    let law = c.insertions_leave_room.ensures in let e = c.in-Err.ensures in
    let no = e.has_room (law.fewer c.args.vector.now (c.args.left + 1) 1 e.valid c.requires (omega arith)) in cc

pub returns-clause-room : goal.returns-clause-room
returns-clause-room g c =
    let did = c.in-Ok.ensures in
    c.insertions_leave_room.ensures.assigned c.args.vector.now c.set.new.self c.args.place _ c.args.left did.valid c.requires did.assigned
