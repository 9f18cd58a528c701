use Rattle.std.proofs.Common.{◌+◌, length, arith}
use Rattle.intmap.proofs.MapLemmas.{MapState-same, placed-same, reserved-same, IsConsistent-replaced}
use Rattle.intmap.proofs.map.IntMap.replace_first.Goals as goal

pub invariant_of-self : goal.invariant_of-self
invariant_of-self g c =
    let told = c.replace_first.ensures in
    IsConsistent-replaced _ _ _ _ _ _ _ _ _ _ c.self.invariant _ _ (omega (arith, c.self.invariant.memory, told.nodes)) c.replace_first.new.self.capacity c.args.key c.new.result c.replace_first.result told.capacity told.known told.value told.walk

pub returns-clause-state : goal.returns-clause-state
returns-clause-state g c =
    rw (← c.self.view_is) (MapState-same (rw c.new.ensures at c.replace_first.ensures.walk) c.replace_first.ensures.capacity (placed-same c.self.inside.table.capacity c.self.inside.placed (length c.self.inside.table.walk + 1)) (reserved-same c.self.inside.table.capacity c.self.inside.reserved))

pub returns-clause-valid_after : goal.returns-clause-valid_after
returns-clause-valid_after g c = (invariant_of-self g c).map
