use Rattle.std.proofs.Common.{◌+◌, arith}
use Rattle.callers_above.proofs.sets.note_reserved.Goals as goal

-- room for more is room for one
pub unreachable-requires : goal.unreachable-requires
unreachable-requires g c =
    let law = c.insertions_leave_room.ensures in let e = c.in-Err.ensures in
    let no = e.has_room (law.fewer c.args.set.now (c.args.left + 1) 1 c.insert.ensures.valid c.requires (omega arith)) in cc

pub returns-clause-room : goal.returns-clause-room
returns-clause-room g c = c.insertions_leave_room.ensures.inserted c.args.set.now c.insert.new.self c.args.key c.args.left c.insert.ensures.valid c.requires c.in-Ok.ensures.inserted
