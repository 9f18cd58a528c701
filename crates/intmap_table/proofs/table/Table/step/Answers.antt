use Rattle.std.proofs.Common.{◌≡◌, ◌+◌, ◌∷◌, ◌∙◌, length, drop, sym, ap, arith}
use Rattle.intmap_table.specs.Picking.{pairs_before}
use Rattle.intmap_table.specs.Tables.Slots.{joined, count_before}
use Rattle.intmap_table.specs.declared.table.walk.Cursor.{Cursor}
use Rattle.intmap_table.proofs.Tables.CursorLemmas.{pairs_before-joined, slot_number-here}
use Rattle.intmap_table.proofs.Tables.TableLemmas.{slot_of-joined}
use Rattle.intmap_table.proofs.table.Table.step.Goals as goal
use Rattle.intmap_table.proofs.table.Table.step.Goals.{After-next, In-Some}

-- where a cursor is in the slots
before : (g : _) (c : After-next g) (at : Cursor) → pairs_before g.K.IntKey.number_of (joined c.self.inside.slots.rows) (length c.self.inside.slots.rows) at ≡ count_before c.self.inside.slots.rows at.slot at.place
before g c = pairs_before-joined g.K.IntKey.number_of c.self.inside.slots.rows c.self.invariant

pub returns-in_default-clause-first : goal.returns-in_default-clause-first
returns-in_default-clause-first g c =
    let none = rw c.pairs_from-rest.ensures at c.in_default.ensures.none in
    rw (← c.self.view_is) (ap (λ n. drop n (joined c.self.inside.slots.rows)) (before g (goal.at.returns-in_default-clause-first g c).After-next c.args.at.now) ∙ none)

pub returns-clause-first : goal.returns-clause-first
returns-clause-first g c =
    let at = (goal.at.returns-clause-first g c).After-next in let R = c.self.inside.slots.rows in
    let next = rw (c.pairs_from-rest.ensures, ← c.rest.view_is) at c.in-Some.ensures.some in
    rw (← c.self.view_is, c.key.ensures.value)
    (ap (λ n. drop n (joined R)) (before g at c.args.at.now) ∙ next.0 ∙ ap (λ n. c.in-Some.pair.now ∷ drop n (joined R)) (sym (before g at c.rest.inside.at)))

pub returns-clause-passed : goal.returns-clause-passed
returns-clause-passed g c =
    let at = (goal.at.returns-clause-passed g c).After-next in
    let next = rw (c.pairs_from-rest.ensures, ← c.rest.view_is) at c.in-Some.ensures.some in
    rw (← c.self.view_is) (before g at c.rest.inside.at ∙ next.1 ∙ ap (λ n. n + 1) (sym (before g at c.args.at.now)))

pub returns-clause-slot : goal.returns-clause-slot
returns-clause-slot g c =
    let R = c.self.inside.slots.rows in
    let here = rw (c.pairs_from-rest.ensures, ← c.rest.view_is) at c.in-Some.ensures.here in
    rw (← c.self.view_is, c.key.ensures.value)
    (sym (slot_number-here g.K.IntKey.number_of R c.rest.inside.at.slot here.0 c.in-Some.pair.now c.self.invariant here.2 (sym here.3)))

pub returns-clause-within : goal.returns-clause-within
returns-clause-within g c =
    let R = c.self.inside.slots.rows in
    let here = rw (c.pairs_from-rest.ensures, ← c.rest.view_is) at c.in-Some.ensures.here in
    rw (← c.self.view_is, slot_of-joined g.K.IntKey.number_of R c.self.invariant c.rest.inside.at.slot) (omega (arith, here.1, here.2))
