use Rattle.std.proofs.Common.{[], ◌≡◌, ◌+◌, get_or, sym, ap, ◌∙◌}
use Rattle.std.specs.Prelude.{position}
use Rattle.intmap_table.specs.Classes.{slot_number, same_key}
use Rattle.intmap_table.specs.Reach.{reach}
use Rattle.intmap_table.specs.Tables.Slots.{Grid}
use Rattle.intmap_table.proofs.PositionLemmas.{first_value-none}
use Rattle.intmap_table.proofs.Tables.TableLemmas.{IsSlot, reach-here, value_of-here, slot_of-here}
use Rattle.intmap_table.proofs.table.Table.locate.Goals as goal
use Rattle.intmap_table.proofs.table.Table.locate.Goals.{After-find}

here : (g : _) (c : After-find g) → IsSlot g.K.IntKey.number_of c.self.inside.slots.rows c.index_of-slot.result c.args.key.now
here g c = record {
  table = c.self.invariant;
  slot = c.index_of-slot.ensures.slot ∙ ap (λ (t : Grid _ _). slot_number g.K.IntKey.number_of c.args.key.now t.capacity) (sym c.self.view_is);
}

counted : (g : _) (c : After-find g) → c.find.new.steps ≡ c.args.steps.now + reach g.K.IntKey.number_of c.args.self.now.walk c.args.self.now.capacity c.args.key.now
counted g c =
    c.find.ensures.counted ∙ ap (λ n. c.args.steps.now + n)
    (sym (reach-here _ _ _ _ (here g c)) ∙ ap (λ (t : Grid _ _). reach g.K.IntKey.number_of t.walk t.capacity c.args.key.now) c.self.view_is)

pub returns-in_default-clause-missing : goal.returns-in_default-clause-missing
returns-in_default-clause-missing g c =
    let at = here g (goal.at.returns-in_default-clause-missing g c).After-find in
    rw (← c.self.view_is) (value_of-here _ _ _ _ at ∙ first_value-none (same_key g.K.IntKey.number_of c.args.key.now) (get_or c.self.inside.slots.rows c.index_of-slot.result []) (sym c.in_default.ensures.place))

pub returns-in_default-clause-counted : goal.returns-in_default-clause-counted
returns-in_default-clause-counted g c = counted g (goal.at.returns-in_default-clause-counted g c).After-find

pub returns-clause-found : goal.returns-clause-found
returns-clause-found g c =
    let at = here g (goal.at.returns-clause-found g c).After-find in (
      c.key.ensures.value,
      rw (← c.self.view_is, c.key.ensures.value) (record {
        slot = at.slot;
        place = ap (position (λ p. same_key g.K.IntKey.number_of c.args.key.now p.0)) (slot_of-here _ _ _ _ at) ∙ sym c.in-Some.ensures.place;
      }),
    )

pub returns-clause-counted : goal.returns-clause-counted
returns-clause-counted g c = counted g (goal.at.returns-clause-counted g c).After-find
