use Rattle.std.proofs.Common.{◌+◌, length, refl, arith}
use Rattle.intmap.specs.Spots.{TakesOneMore}
use Rattle.intmap.proofs.InsertionLemmas.{IsInsertion-added}
use Rattle.intmap.proofs.MapLemmas.{MapState-same, placed-same, reserved-same}
use Rattle.intmap.proofs.SpotLemmas.{IsConsistent-one_more}
use Rattle.intmap.proofs.map.IntMap.add_first.Goals as goal
use Rattle.intmap.proofs.map.IntMap.add_first.Goals.{After-fill}

takes : (g : _) (c : After-fill g) → TakesOneMore c.self.inside.table.walk c.self.inside.table.capacity c.self.inside.factor
takes g c = rw (← c.self.view_is) at c.requires.free.more

pub invariant_of-self : goal.invariant_of-self
invariant_of-self g c =
    let told = c.fill.ensures in
    IsConsistent-one_more _ _ _ _ _ _ _ _ _ _ c.self.invariant _ _ (omega (arith, c.self.invariant.memory, told.nodes)) c.fill.new.self.capacity c.args.key c.new.result told.capacity told.known told.missing (takes g (goal.at.invariant_of-self g c).After-fill) told.walk

pub returns-clause-inserted : goal.returns-clause-inserted
returns-clause-inserted g c =
    let told = c.fill.ensures in let more = takes g (goal.at.returns-clause-inserted g c).After-fill in
    rw (← c.self.view_is) (IsInsertion-added g.K.IntKey.number_of g.K.IntKey.is_valid _ _ c.args.key c.args.value told.missing c.self.invariant.map (invariant_of-self g c).map (rw told.capacity (rw c.new.ensures at told.walk)) more.count (rw told.capacity more.stays))

pub returns-clause-state : goal.returns-clause-state
returns-clause-state g c =
    let told = c.fill.ensures in
    rw (← c.self.view_is, told.capacity) (MapState-same (rw c.new.ensures at told.walk) refl (placed-same c.self.inside.table.capacity c.self.inside.placed (length c.self.inside.table.walk + 1)) (reserved-same c.self.inside.table.capacity c.self.inside.reserved))

pub returns-clause-valid_after : goal.returns-clause-valid_after
returns-clause-valid_after g c = (invariant_of-self g c).map
