-- The search takes no law whose premise says something of every member.
use Rattle.std.proofs.Common.{arith}
use Rattle.callers_above.proofs.sets.note.Goals as goal

pub unreachable-requires : goal.unreachable-requires
unreachable-requires g c =
    c.small_keys_are_never_refused.ensures c.args.set.now c.args.key c.in-Err.field-0 c.insert.ensures.valid.capacity
    c.requires.members c.requires.small c.requires.room c.in-Err.ensures.refused

pub returns-clause-compared : goal.returns-clause-compared
returns-clause-compared g c =
    let more = c.in-Ok.ensures.inserted.compared in let s = c.args.set.now in
    let one = c.small_members_are_found_at_once.ensures s.walk s.capacity c.args.key c.insert.ensures.valid.distinct c.requires.members in
    omega (arith, more, one)
