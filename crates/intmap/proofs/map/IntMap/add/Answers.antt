use Rattle.std.proofs.Common.{◌≡◌, ◌+◌, length, None, refl, arith}
use Rattle.intmap_table.specs.Bindings.{value_of}
use Rattle.intmap.specs.Spots.{TakesOneMore}
use Rattle.intmap.proofs.RefusalLemmas.{RefusalIsDue-memory}
use Rattle.intmap.proofs.MapLemmas.{MapState-same, placed-same, reserved-same}
use Rattle.intmap.proofs.SpotLemmas.{IsConsistent-one_more, IsInsertion-one_more}
use Rattle.intmap.proofs.ReservedLemmas.{HasRoom-takes}
use Rattle.intmap.proofs.map.IntMap.add.Goals as goal
use Rattle.intmap.proofs.map.IntMap.add.Goals.{After-add}

module _ (g : _) (c : After-add g) where
  missing : value_of g.K.IntKey.number_of c.self.inside.table.walk c.args.key ≡ None
  missing = rw (← c.self.view_is) at c.requires.missing

  takes : TakesOneMore c.self.inside.table.walk c.self.inside.table.capacity c.self.inside.factor
  takes = rw (← c.self.view_is) at c.if-not-takes_one_more.ensures

pub returns-in-Err-add-clause-refused : goal.returns-in-Err-add-clause-refused
returns-in-Err-add-clause-refused g c =
    let at = (goal.at.returns-in-Err-add-clause-refused g c).After-add in
    rw (← c.self.view_is) (RefusalIsDue-memory g.K.IntKey.number_of _ c.args.key (missing g at) c.self.inside.table.capacity (takes g at).count c.self.invariant.map.capacity (takes g at).stays (λ _. c.in-Err-add.ensures.memory))

pub invariant_of-self : goal.invariant_of-self
invariant_of-self g c =
    let at = (goal.at.invariant_of-self g c).After-add in let told = c.in-Ok-add.ensures in
    IsConsistent-one_more _ _ _ _ _ _ _ _ _ _ c.self.invariant _ _ (omega (arith, c.self.invariant.memory, told.nodes)) c.add.new.self.capacity c.args.key c.new.result told.capacity told.known (missing g at) (takes g at) told.walk

pub returns-in-Ok-add-clause-inserted : goal.returns-in-Ok-add-clause-inserted
returns-in-Ok-add-clause-inserted g c =
    let at = (goal.at.returns-in-Ok-add-clause-inserted g c).After-add in let told = c.in-Ok-add.ensures in
    rw (← c.self.view_is) (IsInsertion-one_more g.K.IntKey.number_of g.K.IntKey.is_valid _ _ c.args.key c.args.value told.capacity (missing g at) (takes g at) c.self.invariant.map (invariant_of-self g c).map (rw c.new.ensures at told.walk))

pub returns-in-Ok-add-clause-state : goal.returns-in-Ok-add-clause-state
returns-in-Ok-add-clause-state g c =
    let told = c.in-Ok-add.ensures in
    rw (← c.self.view_is, told.capacity) (MapState-same (rw c.new.ensures at told.walk) refl (placed-same c.self.inside.table.capacity c.self.inside.placed (length c.self.inside.table.walk + 1)) (reserved-same c.self.inside.table.capacity c.self.inside.reserved))

pub returns-in-Ok-add-clause-valid_after : goal.returns-in-Ok-add-clause-valid_after
returns-in-Ok-add-clause-valid_after g c = (invariant_of-self g c).map

pub returns-in-Err-clause-has_room : goal.returns-in-Err-clause-has_room
returns-in-Err-clause-has_room g c room =
    let full = rw (← c.self.view_is) at c.if-not-takes_one_more.ensures in
    absurd (full (HasRoom-takes g.K.IntKey.number_of _ _ _ _ c.self.invariant.map.capacity (rw (← c.self.view_is) at room)))

pub returns-in-Err-add-clause-has_room : goal.returns-in-Err-add-clause-has_room
returns-in-Err-add-clause-has_room g c room =
    let enough = (rw (← c.self.view_is) at room).memory in
    c.in-Err-add.ensures.succeeds (omega (arith, c.self.invariant.memory, enough))
