use Rattle.std.proofs.Common.{◌≡◌, ◌∷◌, ◌∙◌, [], get_or, length, take, drop, sym, ap, subst}
use Rattle.intmap_table.specs.Picking.{pairs_before}
use Rattle.intmap_table.specs.Tables.Slots.{Grid, joined, count_before}
use Rattle.intmap_table.specs.Tables.Rows.{Contents, IsTable}
use Rattle.intmap_table.specs.declared.table.walk.Cursor.{Cursor}
use Rattle.intmap_table.proofs.SlotNumberLemmas.{capacity-greatest}
use Rattle.intmap_table.proofs.Tables.CursorLemmas.{IsTable-cut, before-cut, drop-cut, pairs_before-joined, take-cut, within-cut}
use Rattle.intmap_table.proofs.Tables.TableLemmas.{slot_of-joined, walk_of-joined}
use Rattle.intmap_table.proofs.table.Table.cut.Goals as goal
use Rattle.intmap_table.proofs.table.Table.cut.Goals.{After-cut_from, In-Some}

-- where a cursor was in the rows
was : (g : _) (c : After-cut_from g) (at : Cursor) → pairs_before g.K.IntKey.number_of (joined c.self.inside.slots.rows) (length c.self.inside.slots.rows) at ≡ count_before c.self.inside.slots.rows at.slot at.place
was g c = pairs_before-joined g.K.IntKey.number_of c.self.inside.slots.rows c.self.invariant

pub cut_from-requires : goal.cut_from-requires
cut_from-requires g c = capacity-greatest _ c.self.invariant.capacity

pub invariant_of-self : goal.invariant_of-self
invariant_of-self g c = subst (λ (t : Contents g.row.K.Denot g.row.X.Denot). IsTable g.K.IntKey.number_of t.rows) (sym c.in_default.ensures.none.0) c.self.invariant

pub returns-in_default-clause-first : goal.returns-in_default-clause-first
returns-in_default-clause-first g c =
    rw (← c.self.view_is) (ap (λ n. drop n (joined c.self.inside.slots.rows)) (was g (goal.at.returns-in_default-clause-first g c).After-cut_from c.args.at.now) ∙ c.in_default.ensures.none.2)

module _ (g : _) (c : In-Some g) where
  here : get_or (get_or c.self.inside.slots.rows c.cut_from.new.at.slot []) c.cut_from.new.at.place (c.in-Some.key, c.in-Some.value) ≡ (c.in-Some.key, c.in-Some.value)
  here = sym c.in-Some.ensures.value.1

  table : IsTable g.K.IntKey.number_of c.cut_from.new.slots.rows
  table = rw c.in-Some.ensures.value.2 (IsTable-cut _ c.self.inside.slots.rows _ _ _ c.in-Some.ensures.value.0 here c.self.invariant)

  -- where a cursor is in the rows that are left
  is : (at : Cursor) → pairs_before g.K.IntKey.number_of (joined c.cut_from.new.slots.rows) (length c.cut_from.new.slots.rows) at ≡ count_before c.cut_from.new.slots.rows at.slot at.place
  is = pairs_before-joined g.K.IntKey.number_of c.cut_from.new.slots.rows table

pub invariant_of-self-2 : goal.invariant_of-self-2
invariant_of-self-2 g c = table g (goal.at.invariant_of-self-2 g c).In-Some

pub returns-in_default-clause-passed : goal.returns-in_default-clause-passed
returns-in_default-clause-passed g c =
    ap (λ (at : Cursor). pairs_before g.K.IntKey.number_of (joined c.cut_from.new.slots.rows) (length c.cut_from.new.slots.rows) at) c.in_default.ensures.none.1
    ∙ ap (λ (t : Contents g.row.K.Denot g.row.X.Denot). pairs_before g.K.IntKey.number_of (joined t.rows) (length t.rows) c.args.at.now) c.in_default.ensures.none.0
    ∙ ap (λ (t : Grid g.row.K.Denot g.row.X.Denot). pairs_before g.K.IntKey.number_of t.walk t.capacity c.args.at.now) c.self.view_is

pub returns-in_default-clause-own : goal.returns-in_default-clause-own
returns-in_default-clause-own g c = walk_of-joined g.K.IntKey.number_of c.cut_from.new.slots.rows (subst (λ (t : Contents g.row.K.Denot g.row.X.Denot). IsTable g.K.IntKey.number_of t.rows) (sym c.in_default.ensures.none.0) c.self.invariant)

pub returns-clause-first : goal.returns-clause-first
returns-clause-first g c =
    let after = (goal.at.returns-clause-first g c).In-Some in let at = (goal.at.returns-clause-first g c).After-cut_from in
    let R = c.self.inside.slots.rows in let T = c.cut_from.new.slots.rows in let i = c.cut_from.new.at.slot in let j = c.cut_from.new.at.place in let p : g.row.K.Denot × g.row.X.Denot = (c.in-Some.key, c.in-Some.value) in
    rw (← c.self.view_is, c.key.ensures.value)
    (ap (λ n. drop n (joined R)) (was g at c.args.at.now ∙ sym c.cut_from.ensures.same)
    ∙ drop-cut g.K.IntKey.number_of R i j p c.in-Some.ensures.value.0 (here g after)
    ∙ ap (λ Z. p ∷ drop (count_before Z i j) (joined Z)) (sym c.in-Some.ensures.value.2)
    ∙ ap (λ n. p ∷ drop n (joined T)) (sym (is g after c.cut_from.new.at)))

pub returns-clause-before : goal.returns-clause-before
returns-clause-before g c =
    let after = (goal.at.returns-clause-before g c).In-Some in let at = (goal.at.returns-clause-before g c).After-cut_from in
    let R = c.self.inside.slots.rows in let T = c.cut_from.new.slots.rows in let i = c.cut_from.new.at.slot in let j = c.cut_from.new.at.place in
    rw (← c.self.view_is)
    (ap (λ n. take n (joined T)) (is g after c.cut_from.new.at) ∙ ap (λ Z. take (count_before Z i j) (joined Z)) c.in-Some.ensures.value.2
    ∙ take-cut g.K.IntKey.number_of R i j (c.in-Some.key, c.in-Some.value) c.in-Some.ensures.value.0 (here g after)
    ∙ ap (λ n. take n (joined R)) (c.cut_from.ensures.same ∙ sym (was g at c.args.at.now)))

pub returns-clause-passed : goal.returns-clause-passed
returns-clause-passed g c =
    let after = (goal.at.returns-clause-passed g c).In-Some in let at = (goal.at.returns-clause-passed g c).After-cut_from in
    rw (← c.self.view_is)
    (is g after c.cut_from.new.at ∙ ap (λ Z. count_before Z c.cut_from.new.at.slot c.cut_from.new.at.place) c.in-Some.ensures.value.2
    ∙ before-cut g.K.IntKey.number_of c.self.inside.slots.rows c.cut_from.new.at.slot c.cut_from.new.at.place (c.in-Some.key, c.in-Some.value) c.in-Some.ensures.value.0 (here g after)
    ∙ c.cut_from.ensures.same ∙ sym (was g at c.args.at.now))

pub returns-clause-own : goal.returns-clause-own
returns-clause-own g c = walk_of-joined _ _ (table g (goal.at.returns-clause-own g c).In-Some)

pub returns-clause-within : goal.returns-clause-within
returns-clause-within g c =
    let after = (goal.at.returns-clause-within g c).In-Some in
    let R = c.self.inside.slots.rows in let i = c.cut_from.new.at.slot in let j = c.cut_from.new.at.place in
    rw (slot_of-joined g.K.IntKey.number_of c.cut_from.new.slots.rows (table g after) i, c.in-Some.ensures.value.2)
    (within-cut g.K.IntKey.number_of R i j (c.in-Some.key, c.in-Some.value) c.in-Some.ensures.value.0 (here g after))
