use Rattle.std.proofs.Common.{◌≡◌, ◌+◌, length, ap, arith}
use Rattle.std.proofs.lemmas.Result.{on_ok_weaker}
use Rattle.intmap_table.proofs.Tables.MemoryLemmas.{OnOk-both}
use Rattle.intmap.proofs.RoomLemmas.{HasRoomInRow-met}
use Rattle.intmap.proofs.map.IntMap.make_room.Goals as goal

-- the slots and the memory that were made are room for any keys
pub returns-clause-any : goal.returns-clause-any
returns-clause-any g c =
    let m = c.fit-2.new.self in
    let seen = ap (λ n. length n.walk) c.self.view_is in
    let count = c.self.invariant.count in
    let sum = c.in-Some.ensures in
    let kept = c.fit-2.ensures.len in
    let len : length m.walk + c.args.additional ≡ c.in-Some.pairs = omega (arith, seen, count, sum, kept) in
    on_ok_weaker c.fit-2.result (λ both. λ same.
    let factor : m.factor ≡ c.fit.inside.factor = ap (λ n. n.factor) both.1.0 in let memory = both.1.1 in
    record { memory = omega (arith, memory, same); count = omega (arith, len, sum); load = rw (len, factor) both.0.wanted.meets })
    (OnOk-both c.fit-2.result _ _ c.fit-2.ensures.meets (OnOk-both c.fit-2.result _ _ c.fit-2.ensures.state c.fit-2.ensures.memory))

pub returns-clause-room : goal.returns-clause-room
returns-clause-room g c =
    let m = c.fit-2.new.self in
    let seen = ap (λ n. length n.walk) c.self.view_is in
    let count = c.self.invariant.count in
    let sum = c.in-Some.ensures in
    let kept = c.fit-2.ensures.len in
    let len : length m.walk + c.args.additional ≡ c.in-Some.pairs = omega (arith, seen, count, sum, kept) in
    on_ok_weaker c.fit-2.result (λ both.
    let factor : m.factor ≡ c.fit.inside.factor = ap (λ n. n.factor) both.1 in
    HasRoomInRow-met g.K.IntKey.number_of g.K.IntKey.is_valid m c.args.additional c.fit-2.ensures.valid_after (omega (arith, len, sum)) (rw (len, factor) both.0.wanted.meets))
    (OnOk-both c.fit-2.result _ _ c.fit-2.ensures.meets c.fit-2.ensures.state)
