use Rattle.std.proofs.Common.{◌≡◌, ◌∙◌, length, length-set, set, ap}
use Rattle.intmap_table.specs.Locations.{IsAt}
use Rattle.intmap_table.specs.Tables.Slots.{joined}
use Rattle.intmap_table.proofs.Tables.LocationLemmas.{slot-at, place-within, value_of-pair, swap_out-at}
use Rattle.intmap_table.proofs.Tables.TableLemmas.{IsSlot, row_without, walk-taken, Belong-taken, IsTable-set}
use Rattle.intmap_table.proofs.table.Table.take_at.Goals as goal
use Rattle.intmap_table.proofs.table.Table.take_at.Goals.{After-take_at-value}

module _ (g : _) (c : After-take_at-value g) where
  located : IsAt g.K.IntKey.number_of (joined c.self.inside.slots.rows) (length c.self.inside.slots.rows) c.args.at
  located = rw (← c.self.view_is) at c.requires

  slot : IsSlot g.K.IntKey.number_of c.self.inside.slots.rows c.args.at.slot c.args.at.key
  slot = slot-at g.K.IntKey.number_of c.self.inside.slots.rows c.args.at c.self.invariant located

  -- the row of the slot is that without the key
  taken : c.take_at-value.new.self.rows ≡ set c.self.inside.slots.rows c.args.at.slot (row_without g.K.IntKey.number_of c.self.inside.slots.rows c.args.at.slot c.args.at.key slot)
  taken =
      c.take_at-value.ensures.rows
      ∙ ap (set c.self.inside.slots.rows c.args.at.slot) (swap_out-at g.K.IntKey.number_of c.self.inside.slots.rows c.args.at c.self.invariant located c.take_at-value.result c.take_at-value.ensures.value)

pub take_at-value-requires : goal.take_at-value-requires
take_at-value-requires g c = place-within _ c.self.inside.slots.rows c.args.at c.self.invariant (rw (← c.self.view_is) at c.requires)

pub invariant_of-self : goal.invariant_of-self
invariant_of-self g c =
    let after = (goal.at.invariant_of-self g c).After-take_at-value in
    rw (taken g after) (IsTable-set _ _ _ _ (slot g after) _ (Belong-taken _ _ _ _ (slot g after)))

pub returns-clause-value : goal.returns-clause-value
returns-clause-value g c =
    let after = (goal.at.returns-clause-value g c).After-take_at-value in
    rw (← c.self.view_is) (value_of-pair _ c.self.inside.slots.rows c.args.at c.self.invariant (located g after) c.take_at-value.result c.take_at-value.ensures.value)

pub returns-clause-walk : goal.returns-clause-walk
returns-clause-walk g c =
    let after = (goal.at.returns-clause-walk g c).After-take_at-value in
    rw (← c.self.view_is) (ap joined (taken g after) ∙ walk-taken _ _ _ _ (slot g after))

pub returns-clause-capacity : goal.returns-clause-capacity
returns-clause-capacity g c = rw (← c.self.view_is) (ap length c.take_at-value.ensures.rows ∙ length-set _ _ _)
