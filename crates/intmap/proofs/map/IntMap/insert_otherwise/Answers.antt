use Rattle.std.proofs.Common.{◌≡◌, ◌+◌, length, None, Some, refl, sym, arith}
use Rattle.intmap_table.specs.Bindings.{value_of}
use Rattle.intmap.specs.Spots.{TakesOneMore}
use Rattle.intmap.proofs.InsertionLemmas.{IsInsertion-replaced}
use Rattle.intmap.proofs.MapLemmas.{placed-same, reserved-same, IsConsistent-replaced}
use Rattle.intmap.proofs.SpotLemmas.{IsConsistent-one_more, IsInsertion-one_more, MapState-counted, RefusalIsDue-counted}
use Rattle.intmap.proofs.map.IntMap.insert_otherwise.Goals as goal
use Rattle.intmap.proofs.map.IntMap.insert_otherwise.Goals.{In-Ok-Some, In-Ok-None}

-- an absent key was added, so the slots took one more
takes : (g : _) (c : In-Ok-None g) → TakesOneMore c.self.inside.table.walk c.self.inside.table.capacity c.self.inside.factor
takes g c = rw (c.in-Ok-None.ensures.adds c.in-Ok-None.field-0-is, ← c.self.view_is) at c.takes_one_more-adds.ensures

-- the key is present
bound : (g : _) (c : In-Ok-Some g) → value_of g.K.IntKey.number_of c.self.inside.table.walk c.args.key ≡ Some c.in-Ok-Some.old
bound g c = sym (rw c.in-Ok-Some.field-0-is at c.in-Ok-Some.ensures.value)

-- it is absent
missing : (g : _) (c : In-Ok-None g) → value_of g.K.IntKey.number_of c.self.inside.table.walk c.args.key ≡ None
missing g c = sym (rw c.in-Ok-None.field-0-is at c.in-Ok-None.ensures.value)

pub invariant_of-self : goal.invariant_of-self
invariant_of-self g c =
    let told = c.in-Ok-Some.ensures in
    IsConsistent-replaced _ _ _ _ _ _ _ _ _ _ c.self.invariant _ _ (omega (arith, c.self.invariant.memory, told.nodes)) c.put.new.self.capacity c.args.key c.new.result c.in-Ok-Some.old told.capacity told.known (bound g (goal.at.invariant_of-self g c).In-Ok-Some) told.walk

pub returns-in-Ok-Some-clause-inserted : goal.returns-in-Ok-Some-clause-inserted
returns-in-Ok-Some-clause-inserted g c =
    let told = c.in-Ok-Some.ensures in
    rw (← c.self.view_is) (IsInsertion-replaced g.K.IntKey.number_of g.K.IntKey.is_valid _ _ c.args.key c.args.value c.in-Ok-Some.old (bound g (goal.at.returns-in-Ok-Some-clause-inserted g c).In-Ok-Some) c.self.invariant.map (invariant_of-self g c).map
    (rw told.capacity (rw c.new.ensures at told.walk)) told.capacity)

pub returns-in-Ok-Some-clause-state : goal.returns-in-Ok-Some-clause-state
returns-in-Ok-Some-clause-state g c =
    let told = c.in-Ok-Some.ensures in
    rw (← c.self.view_is, told.capacity) (MapState-counted (rw c.new.ensures at told.walk) refl (placed-same c.self.inside.table.capacity c.self.inside.placed (length c.self.inside.table.walk + 1)) told.counted (reserved-same c.self.inside.table.capacity c.self.inside.reserved))

pub returns-in-Ok-Some-clause-valid_after : goal.returns-in-Ok-Some-clause-valid_after
returns-in-Ok-Some-clause-valid_after g c = (invariant_of-self g c).map

pub invariant_of-self-in-Ok-None : goal.invariant_of-self-in-Ok-None
invariant_of-self-in-Ok-None g c =
    let at = goal.at.invariant_of-self-in-Ok-None g c in let told = c.in-Ok-None.ensures in
    IsConsistent-one_more _ _ _ _ _ _ _ _ _ _ c.self.invariant _ _ (omega (arith, c.self.invariant.memory, told.nodes)) c.put.new.self.capacity c.args.key c.new.result told.capacity told.known (missing g at.In-Ok-None) (takes g at.In-Ok-None) told.walk

pub returns-in-Ok-None-clause-inserted : goal.returns-in-Ok-None-clause-inserted
returns-in-Ok-None-clause-inserted g c =
    let at = (goal.at.returns-in-Ok-None-clause-inserted g c).In-Ok-None in let told = c.in-Ok-None.ensures in
    rw (← c.self.view_is) (IsInsertion-one_more g.K.IntKey.number_of g.K.IntKey.is_valid _ _ c.args.key c.args.value told.capacity (missing g at) (takes g at) c.self.invariant.map (invariant_of-self-in-Ok-None g c).map (rw c.new.ensures at told.walk))

pub returns-in-Ok-None-clause-state : goal.returns-in-Ok-None-clause-state
returns-in-Ok-None-clause-state g c =
    let told = c.in-Ok-None.ensures in
    rw (← c.self.view_is, told.capacity) (MapState-counted (rw c.new.ensures at told.walk) refl (placed-same c.self.inside.table.capacity c.self.inside.placed (length c.self.inside.table.walk + 1)) told.counted (reserved-same c.self.inside.table.capacity c.self.inside.reserved))

pub returns-in-Ok-None-clause-valid_after : goal.returns-in-Ok-None-clause-valid_after
returns-in-Ok-None-clause-valid_after g c = (invariant_of-self-in-Ok-None g c).map

pub returns-in-Ok-clause-state : goal.returns-in-Ok-clause-state
returns-in-Ok-clause-state g c =
    let told = c.in-Err.ensures in
    rw (← c.self.view_is) (rw (c.copied-again.ensures, told.value_returned, c.new.ensures, told.err, told.counted) at c.in-Ok.ensures.state)

pub returns-in-Err-grow_or_fail-clause-refused : goal.returns-in-Err-grow_or_fail-clause-refused
returns-in-Err-grow_or_fail-clause-refused g c =
    rw (← c.self.view_is) (RefusalIsDue-counted g.K.IntKey.number_of (record { walk = c.self.inside.table.walk; capacity = c.self.inside.table.capacity; factor = c.self.inside.factor; placed = c.self.inside.placed; compared = c.self.inside.compared; reserved = c.self.inside.reserved }) c.put.new.steps c.args.key c.in-Err-grow_or_fail.refused.cause (rw (c.copied-again.ensures, c.in-Err.ensures.err) at c.in-Err-grow_or_fail.ensures.refused))
