use Rattle.std.proofs.Common.{◌-◌, sym, ap, refl, ◌∙◌, arith}
use Rattle.intmap.specs.Map.{MapState}
use Rattle.intmap.proofs.AfterLemmas.{Updates-taken, length-taken, without_missing}
use Rattle.intmap.proofs.MapLemmas.{IsConsistent-taken}
use Rattle.intmap.proofs.map.IntMap.remove.Goals as goal
use Rattle.intmap.proofs.map.IntMap.remove.Goals.{After-remove}

-- the map before
abbrev old : (g : _) (c : After-remove g) → MapState g.row.K.Denot g.row.V.Denot
old g c = record {
  walk = c.self.inside.table.walk;
  capacity = c.self.inside.table.capacity;
  factor = c.self.inside.factor;
  placed = c.self.inside.placed;
  compared = c.self.inside.compared;
  reserved = c.self.inside.reserved;
}

pub invariant_of-self : goal.invariant_of-self
invariant_of-self g c =
    let told = c.in_default.ensures in
    IsConsistent-taken _ _ _ _ _ _ _ _ _ _ c.self.invariant _ _ (omega (arith, c.self.invariant.memory, told.nodes)) c.remove.new.self.capacity c.args.key c.self.inside.len told.capacity told.walk (rw (← told.value) (omega arith))

pub returns-in_default-clause-state : goal.returns-in_default-clause-state
returns-in_default-clause-state g c = let told = c.in_default.ensures in rw (← c.self.view_is) (rw (told.walk, told.capacity, told.counted) refl)

pub returns-in_default-clause-absent : goal.returns-in_default-clause-absent
returns-in_default-clause-absent g c _ =
    let told = c.in_default.ensures in
    rw (← c.self.view_is) (told.walk ∙ ap (λ m. m.walk) (without_missing g.K.IntKey.number_of g.K.IntKey.is_valid (old g (goal.at.returns-in_default-clause-absent g c).After-remove) c.args.key c.self.invariant.map (sym told.value)))

pub returns-in_default-clause-updates : goal.returns-in_default-clause-updates
returns-in_default-clause-updates g c =
    rw (← c.self.view_is) (Updates-taken g.K.IntKey.number_of g.K.IntKey.is_valid (old g (goal.at.returns-in_default-clause-updates g c).After-remove) _ c.args.key c.self.invariant.map c.in_default.ensures.walk)

pub returns-in_default-clause-len : goal.returns-in_default-clause-len
returns-in_default-clause-len g c =
    let told = c.in_default.ensures in
    rw (← c.self.view_is) (rw (← told.value) at (length-taken g.K.IntKey.number_of g.K.IntKey.is_valid (old g (goal.at.returns-in_default-clause-len g c).After-remove) _ c.args.key c.self.invariant.map told.walk))

pub returns-in_default-clause-valid_after : goal.returns-in_default-clause-valid_after
returns-in_default-clause-valid_after g c = (invariant_of-self g c).map

pub invariant_of-self-2 : goal.invariant_of-self-2
invariant_of-self-2 g c =
    let told = c.in-Some.ensures in
    IsConsistent-taken _ _ _ _ _ _ _ _ _ _ c.self.invariant _ _ (omega (arith, c.self.invariant.memory, told.nodes)) c.remove.new.self.capacity c.args.key (c.self.inside.len - 1) told.capacity told.walk (rw (← told.value) refl)

pub returns-clause-state : goal.returns-clause-state
returns-clause-state g c = let told = c.in-Some.ensures in rw (← c.self.view_is) (rw (told.walk, told.capacity, told.counted) refl)

pub returns-clause-updates : goal.returns-clause-updates
returns-clause-updates g c =
    rw (← c.self.view_is) (Updates-taken g.K.IntKey.number_of g.K.IntKey.is_valid (old g (goal.at.returns-clause-updates g c).After-remove) _ c.args.key c.self.invariant.map c.in-Some.ensures.walk)

pub returns-clause-len : goal.returns-clause-len
returns-clause-len g c =
    let told = c.in-Some.ensures in
    rw (← c.self.view_is) (rw (← told.value) at (length-taken g.K.IntKey.number_of g.K.IntKey.is_valid (old g (goal.at.returns-clause-len g c).After-remove) _ c.args.key c.self.invariant.map told.walk))

pub returns-clause-valid_after : goal.returns-clause-valid_after
returns-clause-valid_after g c = (invariant_of-self-2 g c).map
