use Rattle.std.proofs.Common.{◌≡◌, ◌+◌, length, None, refl, sym, ◌∙◌, arith}
use Rattle.intmap_table.specs.Bindings.{value_of}
use Rattle.intmap.specs.Spots.{TakesOneMore}
use Rattle.intmap.proofs.MapLemmas.{placed-same, reserved-same}
use Rattle.intmap.proofs.SpotLemmas.{IsConsistent-one_more, IsInsertion-one_more, MapState-counted, RefusalIsDue-counted}
use Rattle.intmap.proofs.WriteLemmas.{none_from}
use Rattle.intmap.proofs.map.IntMap.insert_checked_otherwise.Goals as goal
use Rattle.intmap.proofs.map.IntMap.insert_checked_otherwise.Goals.{In-Ok-true}

-- the key was added, so the slots took one more
takes : (g : _) (c : In-Ok-true g) → TakesOneMore c.self.inside.table.walk c.self.inside.table.capacity c.self.inside.factor
takes g c = rw (c.in-Ok-true.ensures.adds c.in-Ok-true.field-0-test, ← c.self.view_is) at c.takes_one_more-adds.ensures

-- it was absent
missing : (g : _) (c : In-Ok-true g) → value_of g.K.IntKey.number_of c.self.inside.table.walk c.args.key ≡ None
missing g c = none_from (value_of g.K.IntKey.number_of c.self.inside.table.walk c.args.key) (sym c.in-Ok-true.ensures.new ∙ c.in-Ok-true.field-0-test)

pub invariant_of-self : goal.invariant_of-self
invariant_of-self g c =
    let at = (goal.at.invariant_of-self g c).In-Ok-true in let told = c.in-Ok-true.ensures in
    IsConsistent-one_more _ _ _ _ _ _ _ _ _ _ c.self.invariant _ _ (omega (arith, c.self.invariant.memory, told.nodes)) c.add_checked.new.self.capacity c.args.key c.new.result told.capacity (told.known c.in-Ok-true.field-0-test) (missing g at) (takes g at) (told.walk c.in-Ok-true.field-0-test)

pub returns-in-Ok-true-clause-inserted : goal.returns-in-Ok-true-clause-inserted
returns-in-Ok-true-clause-inserted g c =
    let at = (goal.at.returns-in-Ok-true-clause-inserted g c).In-Ok-true in let told = c.in-Ok-true.ensures in
    rw (← c.self.view_is) (rw (missing g at) (IsInsertion-one_more g.K.IntKey.number_of g.K.IntKey.is_valid _ _ c.args.key c.args.value told.capacity (missing g at) (takes g at) c.self.invariant.map (invariant_of-self g c).map (rw c.new.ensures at (told.walk c.in-Ok-true.field-0-test))))

pub returns-in-Ok-true-clause-state : goal.returns-in-Ok-true-clause-state
returns-in-Ok-true-clause-state g c =
    let told = c.in-Ok-true.ensures in
    rw (← c.self.view_is, told.capacity) (MapState-counted (rw c.new.ensures at (told.walk c.in-Ok-true.field-0-test)) refl (placed-same c.self.inside.table.capacity c.self.inside.placed (length c.self.inside.table.walk + 1)) told.counted (reserved-same c.self.inside.table.capacity c.self.inside.reserved))

pub returns-in-Ok-true-clause-valid_after : goal.returns-in-Ok-true-clause-valid_after
returns-in-Ok-true-clause-valid_after g c = (invariant_of-self g c).map

pub returns-in-Ok-clause-state : goal.returns-in-Ok-clause-state
returns-in-Ok-clause-state g c =
    let told = c.in-Err.ensures in
    rw (← c.self.view_is) (rw (c.copied-again.ensures, told.value_returned, c.new.ensures, told.err, told.counted) at c.in-Ok.ensures.state)

pub returns-in-Err-grow_or_fail-clause-refused : goal.returns-in-Err-grow_or_fail-clause-refused
returns-in-Err-grow_or_fail-clause-refused g c =
    rw (← c.self.view_is) (RefusalIsDue-counted g.K.IntKey.number_of (record { walk = c.self.inside.table.walk; capacity = c.self.inside.table.capacity; factor = c.self.inside.factor; placed = c.self.inside.placed; compared = c.self.inside.compared; reserved = c.self.inside.reserved }) c.add_checked.new.steps c.args.key c.in-Err-grow_or_fail.refused.cause (rw (c.copied-again.ensures, c.in-Err.ensures.err) at c.in-Err-grow_or_fail.ensures.refused))
