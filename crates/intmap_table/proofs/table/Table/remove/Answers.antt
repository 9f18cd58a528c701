use Rattle.std.proofs.Common.{◌+◌, sym, ap, length, length-set, ◌∙◌}
use Rattle.intmap_table.specs.Classes.{slot_number}
use Rattle.intmap_table.specs.Reach.{reach}
use Rattle.intmap_table.specs.Tables.Slots.{Grid, joined}
use Rattle.intmap_table.proofs.Tables.TableLemmas.{IsSlot, reach-here, value_of-here, walk-taken, Belong-taken, IsTable-set}
use Rattle.intmap_table.proofs.table.Table.remove.Goals as goal
use Rattle.intmap_table.proofs.table.Table.remove.Goals.{After-index_of-slot}

here : (g : _) (c : After-index_of-slot g) → IsSlot g.K.IntKey.number_of c.self.inside.slots.rows c.index_of-slot.result c.new-key.result
here g c = record {
  table = c.self.invariant;
  slot = c.index_of-slot.ensures.slot ∙ ap (λ (t : Grid _ _). slot_number g.K.IntKey.number_of c.new-key.result t.capacity) (sym c.self.view_is);
}

pub invariant_of-self : goal.invariant_of-self
invariant_of-self g c =
    let at = here g (goal.at.invariant_of-self g c).After-index_of-slot in
    rw c.remove.ensures.rows (IsTable-set _ _ _ _ at _ (Belong-taken _ _ _ _ at))

pub returns-clause-value : goal.returns-clause-value
returns-clause-value g c =
    let at = here g (goal.at.returns-clause-value g c).After-index_of-slot in
    rw (← c.self.view_is, ← c.new-key.ensures.value) (c.remove.ensures.value ∙ sym (value_of-here _ _ _ _ at))

pub returns-clause-walk : goal.returns-clause-walk
returns-clause-walk g c =
    let at = here g (goal.at.returns-clause-walk g c).After-index_of-slot in
    rw (← c.self.view_is, ← c.new-key.ensures.value) (ap joined c.remove.ensures.rows ∙ walk-taken _ _ _ _ at)

pub returns-clause-capacity : goal.returns-clause-capacity
returns-clause-capacity g c = rw (← c.self.view_is) (ap length c.remove.ensures.rows ∙ length-set _ _ _)

pub returns-clause-counted : goal.returns-clause-counted
returns-clause-counted g c =
    let at = here g (goal.at.returns-clause-counted g c).After-index_of-slot in
    rw (← c.new-key.ensures.value) (c.remove.ensures.counted ∙ ap (λ n. c.args.steps.now + n)
    (sym (reach-here _ _ _ _ at) ∙ ap (λ (t : Grid _ _). reach g.K.IntKey.number_of t.walk t.capacity c.new-key.result) c.self.view_is))
