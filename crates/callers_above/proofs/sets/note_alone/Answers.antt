-- The search takes no law whose premise says something of every member.
use Rattle.std.proofs.Common.{arith, length, ◌+◌}
use Rattle.std.proofs.lemmas.Bool.{false≢true}
use Rattle.callers_above.proofs.sets.note_alone.Goals as goal

pub unreachable-requires : goal.unreachable-requires
unreachable-requires g c =
    let s = c.args.set.now in
    absurd (false≢true (c.in-Err.ensures.succeeds
    (c.met_loads_leave_room.ensures s.walk s.capacity (length s.walk + 1) c.args.key c.insert.ensures.valid.capacity c.requires.room (omega arith) c.requires.alone)))
