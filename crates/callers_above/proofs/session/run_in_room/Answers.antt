use Rattle.std.proofs.Common.{arith}
use Rattle.std.proofs.lemmas.Result.{IfOk-weaker}
use Rattle.intmap.proofs.ReservedLemmas.{HasRoom-fewer}
use Rattle.callers_above.proofs.session.run_in_room.Goals as goal

-- room for `count` pairs is room for those that the commands insert
pub returns-in-Ok-clause-inserted : goal.returns-in-Ok-clause-inserted
returns-in-Ok-clause-inserted g c =
    IfOk-weaker c.run.result _ _ (λ answers kept. (kept 0 c.requires.slots
    (HasRoom-fewer g.K.IntKey.number_of c.reserve_insertions.new.self _ _ c.run.ensures.valid.capacity c.in-Ok.ensures.any (let few = c.requires.few in omega (arith, few)))).0)
    c.run.ensures.keeps_room
