use Rattle.std.proofs.Common.{◌≡◌, ◌+◌, sym, ap, ◌∙◌}
use Rattle.intmap_table.specs.Classes.{slot_number}
use Rattle.intmap_table.specs.Reach.{reach}
use Rattle.intmap_table.specs.Tables.Slots.{Grid}
use Rattle.intmap_table.proofs.Tables.TableLemmas.{IsSlot, reach-here, value_of-here}
use Rattle.intmap_table.proofs.table.Table.pair_of.Goals as goal
use Rattle.intmap_table.proofs.table.Table.pair_of.Goals.{After-pair_of}

here : (g : _) (c : After-pair_of g) → IsSlot g.K.IntKey.number_of c.self.inside.slots.rows c.index_of-slot.result c.new-key.result
here g c = record {
  table = c.self.invariant;
  slot = c.index_of-slot.ensures.slot ∙ ap (λ (t : Grid _ _). slot_number g.K.IntKey.number_of c.new-key.result t.capacity) (sym c.self.view_is);
}

counted : (g : _) (c : After-pair_of g) → c.pair_of.new.steps ≡ c.args.steps.now + reach g.K.IntKey.number_of c.args.self.now.walk c.args.self.now.capacity c.new-key.result
counted g c =
    c.pair_of.ensures.counted ∙ ap (λ n. c.args.steps.now + n)
    (sym (reach-here _ _ _ _ (here g c)) ∙ ap (λ (t : Grid _ _). reach g.K.IntKey.number_of t.walk t.capacity c.new-key.result) c.self.view_is)

pub returns-in_default-clause-value : goal.returns-in_default-clause-value
returns-in_default-clause-value g c =
    let at = here g (goal.at.returns-in_default-clause-value g c).After-pair_of in rw (← c.self.view_is, ← c.new-key.ensures.value) (c.in_default.ensures.value ∙ sym (value_of-here _ _ _ _ at))

pub returns-in_default-clause-counted : goal.returns-in_default-clause-counted
returns-in_default-clause-counted g c = rw (← c.new-key.ensures.value) (counted g (goal.at.returns-in_default-clause-counted g c).After-pair_of)

pub returns-clause-value : goal.returns-clause-value
returns-clause-value g c =
    let at = here g (goal.at.returns-clause-value g c).After-pair_of in rw (← c.self.view_is, ← c.new-key.ensures.value) (c.in-Some.ensures.value ∙ sym (value_of-here _ _ _ _ at))

pub returns-clause-counted : goal.returns-clause-counted
returns-clause-counted g c = rw (← c.new-key.ensures.value) (counted g (goal.at.returns-clause-counted g c).After-pair_of)
