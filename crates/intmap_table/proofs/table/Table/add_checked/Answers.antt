use Rattle.std.proofs.Common.{◌∙◌, sym, ap, arith, inl, inr}
use Rattle.std.specs.Prelude.{is_none}
use Rattle.std.proofs.lemmas.Bool.{cases_Bool, false≢true}
use Rattle.intmap_table.specs.Tables.Slots.{joined}
use Rattle.intmap_table.proofs.Tables.MemoryLemmas.{OnErr-always}
use Rattle.intmap_table.proofs.Tables.TableLemmas.{IsSlot, further-joined, slot_of-joined, class_size-here, value_of-here, walk-put, IsTable-put}
use Rattle.intmap_table.proofs.table.Table.add_checked.Goals as goal
use Rattle.intmap_table.proofs.table.Table.add_checked.Goals.{After-add_checked}

here : (g : _) (c : After-add_checked g) → IsSlot g.K.IntKey.number_of c.self.inside.slots.rows c.args.slot c.args.key
here g c = record { table = c.self.invariant; slot = rw (← c.self.view_is) at c.requires.slot }

pub add_checked-requires-clause-some : goal.add_checked-requires-clause-some
add_checked-requires-clause-some g c = rw (slot_of-joined g.K.IntKey.number_of c.self.inside.slots.rows c.self.invariant c.args.slot) at (rw (← c.self.view_is) at c.requires.some)

pub add_checked-requires-clause-other : goal.add_checked-requires-clause-other
add_checked-requires-clause-other g c = rw (slot_of-joined g.K.IntKey.number_of c.self.inside.slots.rows c.self.invariant c.args.slot) at (rw (← c.self.view_is) at c.requires.other)

pub returns-in_err-new-clause-missing : goal.returns-in_err-new-clause-missing
returns-in_err-new-clause-missing g c =
    let at = here g (goal.at.returns-in_err-new-clause-missing g c).After-add_checked in
    OnErr-always c.from_residual.result (rw (← c.self.view_is) (value_of-here _ _ _ _ at ∙ c.in_err-new.ensures.missing))

pub returns-in_err-new-clause-memory : goal.returns-in_err-new-clause-memory
returns-in_err-new-clause-memory g c =
    let at = here g (goal.at.returns-in_err-new-clause-memory g c).After-add_checked in
    let some = rw (slot_of-joined g.K.IntKey.number_of c.self.inside.slots.rows c.self.invariant c.args.slot) at (rw (← c.self.view_is) at c.requires.some) in
    OnErr-always c.from_residual.result (rw (← c.self.view_is) (rw (class_size-here _ _ _ _ at) some))

pub returns-in_err-new-clause-succeeds : goal.returns-in_err-new-clause-succeeds
returns-in_err-new-clause-succeeds g c =
    let all = further-joined g.K.IntKey.number_of c.self.inside.slots.rows c.self.invariant in
    rw (← c.self.view_is) (λ adds room. absurd (false≢true (c.in_err-new.ensures.succeeds adds (omega (arith, all, room)))))

pub returns-in_err-new-clause-counted : goal.returns-in_err-new-clause-counted
returns-in_err-new-clause-counted g c = rw (← c.self.view_is) (rw (slot_of-joined g.K.IntKey.number_of c.self.inside.slots.rows c.self.invariant c.args.slot) c.add_checked.ensures.counted)

pub invariant_of-self-2 : goal.invariant_of-self-2
invariant_of-self-2 g c =
    let at = here g (goal.at.invariant_of-self-2 g c).After-add_checked in let told = c.in_ok-new.ensures in
    elim (cases_Bool c.in_ok-new.new) [
      | inl new ↦ rw (told.rows new) (IsTable-put _ _ _ _ at c.args.value)
      | inr old ↦ rw (told.present old) c.self.invariant
    ]

pub returns-clause-new : goal.returns-clause-new
returns-clause-new g c =
    let at = here g (goal.at.returns-clause-new g c).After-add_checked in
    rw (← c.self.view_is) (c.in_ok-new.ensures.new ∙ ap is_none (sym (value_of-here _ _ _ _ at)))

pub returns-clause-walk : goal.returns-clause-walk
returns-clause-walk g c new =
    let at = here g (goal.at.returns-clause-walk g c).After-add_checked in
    rw (← c.self.view_is) (ap joined (c.in_ok-new.ensures.rows new) ∙ walk-put _ _ _ _ at c.args.value)

pub returns-clause-counted : goal.returns-clause-counted
returns-clause-counted g c = rw (← c.self.view_is) (rw (slot_of-joined g.K.IntKey.number_of c.self.inside.slots.rows c.self.invariant c.args.slot) c.add_checked.ensures.counted)
