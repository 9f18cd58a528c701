use Rattle.std.proofs.Common.{◌≡◌, ◌+◌, ◌-◌, ◌∙◌, [], get_or, length, drop, sym, ap, subst, arith}
use Rattle.std.proofs.lemmas.List.{get_or_default, get_or-drop}
use Rattle.intmap_table.specs.Copying.{AreCopied}
use Rattle.intmap_table.specs.Picking.{pairs_before}
use Rattle.intmap_table.specs.Tables.Slots.{joined, count_before}
use Rattle.intmap_table.specs.declared.table.walk.Cursor.{Cursor}
use Rattle.intmap_table.proofs.Tables.CursorLemmas.{before-here, drop-here, pairs_before-joined, slot_number-here}
use Rattle.intmap_table.proofs.Tables.TableLemmas.{slot_of-joined}
use Rattle.intmap_table.proofs.table.walk.Table+K+Kept+V+A.copy_pairs.Goals as goal
use Rattle.intmap_table.proofs.table.walk.Table+K+Kept+V+A.copy_pairs.Goals.{After-copy_rest-count}

-- where a cursor is in the slots
before : (g : _) (c : After-copy_rest-count g) (at : Cursor) → pairs_before g.K.IntKey.number_of (joined c.self.inside.slots.rows) (length c.self.inside.slots.rows) at ≡ count_before c.self.inside.slots.rows at.slot at.place
before g c = pairs_before-joined g.K.IntKey.number_of c.self.inside.slots.rows c.self.invariant

pub returns-clause-copies : goal.returns-clause-copies
returns-clause-copies g c =
    let at = (goal.at.returns-clause-copies g c).After-copy_rest-count in
    let copies = rw c.pairs_from-rest.ensures at c.copy_rest-count.ensures.copies in
    rw (← c.self.view_is) (subst (λ n. AreCopied g.P.From.from_gives (drop n (joined c.self.inside.slots.rows)) c.args.copies.now c.copy_rest-count.new.copies c.copy_rest-count.result) (sym (before g at c.args.at.now)) copies)

pub returns-clause-passed : goal.returns-clause-passed
returns-clause-passed g c =
    let at = (goal.at.returns-clause-passed g c).After-copy_rest-count in
    let passed = rw (c.pairs_from-rest.ensures, ← c.rest.view_is) at c.copy_rest-count.ensures.passed in
    rw (← c.self.view_is) (before g at c.rest.inside.at ∙ passed ∙ ap (λ n. n + c.copy_rest-count.result) (sym (before g at c.args.at.now)))

pub returns-clause-slot : goal.returns-clause-slot
returns-clause-slot g c = λ p some.
    let at = (goal.at.returns-clause-slot g c).After-copy_rest-count in
    let R = c.self.inside.slots.rows in let i = c.rest.inside.at.slot in
    let here = rw (c.pairs_from-rest.ensures, ← c.rest.view_is) at (c.copy_rest-count.ensures.here some) in
    let q = get_or (get_or R i []) here.0 p in
    let one = before-here R i here.0 here.2 in
    let last : count_before R i c.rest.inside.at.place - 1 ≡ count_before R i here.0 = ap (λ n. count_before R i n - 1) here.1 ∙ omega (arith, one) in
    let pair : get_or (joined R) (count_before R i here.0) p ≡ q =
    (let n = count_before R i here.0 in let zero : n + 0 ≡ n = omega arith in
    ap (λ m. get_or (joined R) m p) (sym zero) ∙ sym (get_or-drop n (joined R) 0 p) ∙ ap (λ ps. get_or ps 0 p) (drop-here R i here.0 p here.2)) in
    rw (← c.self.view_is, before g at c.rest.inside.at, last, pair)
    (sym (slot_number-here g.K.IntKey.number_of R i here.0 q c.self.invariant here.2 (get_or_default (get_or R i []) here.0 q p here.2)))

pub returns-clause-within : goal.returns-clause-within
returns-clause-within g c = λ some.
    let R = c.self.inside.slots.rows in
    let here = rw (c.pairs_from-rest.ensures, ← c.rest.view_is) at (c.copy_rest-count.ensures.here some) in
    rw (← c.self.view_is, slot_of-joined g.K.IntKey.number_of R c.self.invariant c.rest.inside.at.slot) (omega (arith, here.1, here.2))
