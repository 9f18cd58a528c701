use Rattle.std.proofs.Common.{◌≡◌, ◌∙◌, [], ◌∷◌, ◌++◌, length, set, ap}
use Rattle.intmap_table.specs.Locations.{IsAt}
use Rattle.intmap_table.specs.Tables.Slots.{joined}
use Rattle.intmap_table.specs.declared.table.locate.Location.{Location}
use Rattle.intmap_table.proofs.Tables.LocationLemmas.{slot-at, place-within, value_of-pair, swap_out-at}
use Rattle.intmap_table.proofs.Tables.TableLemmas.{IsSlot, row_without, walk-put, IsTable-put}
use Rattle.intmap_table.proofs.table.Table.replace_first.Goals as goal
use Rattle.intmap_table.proofs.table.Table.replace_first.Goals.{After-replace_first-old}

module _ (g : _) (c : After-replace_first-old g) where
  abbrev first : Location g.row.K.Denot
  first = record { key = c.args.key; slot = c.args.slot; place = 0 }

  located : IsAt g.K.IntKey.number_of (joined c.self.inside.slots.rows) (length c.self.inside.slots.rows) first
  located = rw (← c.self.view_is) at c.requires

  slot : IsSlot g.K.IntKey.number_of c.self.inside.slots.rows c.args.slot c.args.key
  slot = slot-at g.K.IntKey.number_of c.self.inside.slots.rows first c.self.invariant located

  -- the row of the slot is that without the key, with the new pair at its end
  put : c.replace_first-old.new.self.rows ≡ set c.self.inside.slots.rows c.args.slot (row_without g.K.IntKey.number_of c.self.inside.slots.rows c.args.slot c.args.key slot ++ (c.args.key, c.args.value) ∷ [])
  put =
      let taken = swap_out-at g.K.IntKey.number_of c.self.inside.slots.rows first c.self.invariant located c.replace_first-old.result c.replace_first-old.ensures.value in
      c.replace_first-old.ensures.rows ∙ (λ i. set c.self.inside.slots.rows c.args.slot (taken i ++ (c.new.ensures.value i, c.args.value) ∷ []))

pub replace_first-old-requires-clause-some : goal.replace_first-old-requires-clause-some
replace_first-old-requires-clause-some g c =
    place-within g.K.IntKey.number_of c.self.inside.slots.rows (record { key = c.args.key; slot = c.args.slot; place = 0 }) c.self.invariant (rw (← c.self.view_is) at c.requires)

pub invariant_of-self : goal.invariant_of-self
invariant_of-self g c =
    let after = (goal.at.invariant_of-self g c).After-replace_first-old in
    rw (put g after) (IsTable-put _ _ _ _ (slot g after) c.args.value)

pub returns-clause-value : goal.returns-clause-value
returns-clause-value g c =
    let after = (goal.at.returns-clause-value g c).After-replace_first-old in
    rw (← c.self.view_is) (value_of-pair _ c.self.inside.slots.rows (first g after) c.self.invariant (located g after) c.replace_first-old.result c.replace_first-old.ensures.value)

pub returns-clause-walk : goal.returns-clause-walk
returns-clause-walk g c =
    let after = (goal.at.returns-clause-walk g c).After-replace_first-old in
    rw (← c.self.view_is) (ap joined (put g after) ∙ walk-put _ _ _ _ (slot g after) c.args.value)
