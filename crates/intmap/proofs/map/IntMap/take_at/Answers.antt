use Rattle.std.proofs.Common.{◌-◌, refl, arith}
use Rattle.intmap.proofs.MapLemmas.{MapState-same, IsConsistent-taken}
use Rattle.intmap.proofs.map.IntMap.take_at.Goals as goal

pub invariant_of-self : goal.invariant_of-self
invariant_of-self g c =
    let told = c.take_at-kept.ensures in
    IsConsistent-taken _ _ _ _ _ _ _ _ _ _ c.self.invariant _ _ (let kept = c.self.invariant.memory in let told = c.take_at-kept.ensures.nodes in omega (arith, kept, told)) c.take_at-kept.new.self.capacity c.args.at.key (c.self.inside.len - 1) told.capacity told.walk (rw told.value refl)

pub returns-clause-valid_after : goal.returns-clause-valid_after
returns-clause-valid_after g c = (invariant_of-self g c).map

pub returns-clause-state : goal.returns-clause-state
returns-clause-state g c =
    rw (← c.self.view_is) (MapState-same c.take_at-kept.ensures.walk c.take_at-kept.ensures.capacity refl refl)
