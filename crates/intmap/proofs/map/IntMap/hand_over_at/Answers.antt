use Rattle.std.proofs.Common.{◌+◌, ◌-◌, length, refl, arith}
use Rattle.intmap.proofs.MapLemmas.{MapState-same, placed-same, reserved-same, IsConsistent-taken, IsConsistent-replaced}
use Rattle.intmap.proofs.map.IntMap.hand_over_at.Goals as goal

pub invariant_of-self : goal.invariant_of-self
invariant_of-self g c =
    let told = c.in-Some.ensures.handed in
    IsConsistent-taken _ _ _ _ _ _ _ _ _ _ c.self.invariant _ _ (let kept = c.self.invariant.memory in let same = c.in-Some.ensures.nodes in omega (arith, kept, same)) c.hand_over.new.self.capacity c.args.at.key (c.self.inside.len - 1) c.in-Some.ensures.capacity told.2.1 (rw told.1 refl)

pub returns-in-Some-clause-state : goal.returns-in-Some-clause-state
returns-in-Some-clause-state g c =
    let told = c.in-Some.ensures.handed in
    rw (← c.self.view_is) (told.0, told.1, (told.2.0, MapState-same told.2.1 c.in-Some.ensures.capacity refl refl))

pub returns-in-Some-clause-valid_after : goal.returns-in-Some-clause-valid_after
returns-in-Some-clause-valid_after g c = (invariant_of-self g c).map

pub invariant_of-self-in-None : goal.invariant_of-self-in-None
invariant_of-self-in-None g c =
    let told = c.in-None.ensures.handed in
    IsConsistent-replaced _ _ _ _ _ _ _ _ _ _ c.self.invariant _ _ (let kept = c.self.invariant.memory in let same = c.in-None.ensures.nodes in omega (arith, kept, same)) c.hand_over.new.self.capacity c.args.at.key told.2.0 told.0 c.in-None.ensures.capacity c.in-None.ensures.key told.1 told.2.2

pub returns-in-None-clause-state : goal.returns-in-None-clause-state
returns-in-None-clause-state g c =
    let told = c.in-None.ensures.handed in
    rw (← c.self.view_is) (
      told.0,
      told.1,
      (told.2.0, told.2.1, MapState-same told.2.2 c.in-None.ensures.capacity (placed-same c.self.inside.table.capacity c.self.inside.placed (length c.self.inside.table.walk + 1)) (reserved-same c.self.inside.table.capacity c.self.inside.reserved)),
    )

pub returns-in-None-clause-valid_after : goal.returns-in-None-clause-valid_after
returns-in-None-clause-valid_after g c = (invariant_of-self-in-None g c).map
