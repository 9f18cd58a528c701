use Rattle.std.proofs.Common.{◌≡◌, ◌<◌, [], true, inl, inr, length, ◌∙◌}
use Rattle.std.specs.Prelude.{get_or, set}
use Rattle.std.proofs.lemmas.Bool.{cases_Bool}
use Rattle.intmap_table.specs.Tables.Nodes.{rows_in}
use Rattle.intmap_table.specs.Tables.Putting.{put_last}
use Rattle.intmap_table.proofs.Tables.MemoryLemmas.{OnErr-always}
use Rattle.intmap_table.proofs.Nodes.LinkedLemmas.{HaveRows, IsRow, Row-of}
use Rattle.intmap_table.proofs.Nodes.PutRowLemmas.{Contents-same, Row-put, Rows-same}
use Rattle.intmap_table.proofs.table.slots.Slots.add_checked.Goals as goal
use Rattle.intmap_table.proofs.table.slots.Slots.add_checked.Goals.{After-add_checked, In_ok-new}

row : (g : _) (c : After-add_checked g) → IsRow g.K.IntKey.number_of c.self.inside.slots.items c.self.inside.pool (rows_in c.self.inside.slots.items c.self.inside.pool.nodes) c.args.index c.index_mut-slot.result.now
row g c =
    let slots = c.self.inside.slots.items in let a = c.self.inside.pool in
    let within : c.args.index < length (rows_in slots a.nodes) = rw (← c.self.view_is) at c.requires.within in
    Row-of g.K.IntKey.number_of slots a c.self.inside.bits c.self.inside.mask c.args.index c.index_mut-slot.result.now c.self.invariant within c.index_mut-slot.ensures.value

-- the slots with the row of a new key
done : (g : _) (c : In_ok-new g) → IsRow g.K.IntKey.number_of c.self.inside.slots.items c.self.inside.pool (rows_in c.self.inside.slots.items c.self.inside.pool.nodes) c.args.index c.index_mut-slot.result.now → c.in_ok-new.new ≡ true
    → HaveRows g.K.IntKey.number_of (set c.self.inside.slots.items c.args.index c.add_checked.new.slot) c.add_checked.new.pool c.self.inside.bits c.self.inside.mask (set (rows_in c.self.inside.slots.items c.self.inside.pool.nodes) c.args.index (put_last g.K.IntKey.number_of (get_or (rows_in c.self.inside.slots.items c.self.inside.pool.nodes) c.args.index []) c.args.key c.args.value))
done g c here new =
    let slots = c.self.inside.slots.items in let a = c.self.inside.pool in
    let own = rw (← c.self.view_is) at c.requires.own in
    let some : 0 < length (get_or (rows_in slots a.nodes) c.args.index []) = rw here.is at c.in_ok-new.ensures.some in
    Row-put g.K.IntKey.number_of slots a c.self.inside.bits c.self.inside.mask c.args.index c.index_mut-slot.result.now c.args.key c.args.value c.add_checked.new.pool c.add_checked.new.slot c.self.invariant here (c.in_ok-new.ensures.row new) own some

pub returns-in_err-new-clause-err : goal.returns-in_err-new-clause-err
returns-in_err-new-clause-err g c =
    let told = c.in_err-new.ensures in
    OnErr-always c.from_residual.result
    (Contents-same c.self.inside.slots.items c.self.inside.pool c.args.index c.index_mut-slot.result.now c.add_checked.new.slot c.add_checked.new.pool c.index_mut-slot.ensures.value told.slot told.err ∙ c.self.view_is)

pub returns-in_err-new-clause-counted : goal.returns-in_err-new-clause-counted
returns-in_err-new-clause-counted g c =
    rw (← c.self.view_is) (rw (row g (goal.at.returns-in_err-new-clause-counted g c).After-add_checked).is at c.add_checked.ensures.counted)

pub invariant_of-self-2 : goal.invariant_of-self-2
invariant_of-self-2 g c =
    let at = goal.at.invariant_of-self-2 g c in let told = c.in_ok-new.ensures in
    elim (cases_Bool c.in_ok-new.new) [
      | inl new ↦ (done g at.In_ok-new (row g at.After-add_checked) new).are
      | inr old ↦ Rows-same g.K.IntKey.number_of c.self.inside.slots.items c.self.inside.pool c.self.inside.bits c.self.inside.mask c.args.index c.index_mut-slot.result.now c.add_checked.new.slot c.add_checked.new.pool c.index_mut-slot.ensures.value (told.present old).1 (told.present old).0 c.self.invariant
    ]

pub returns-clause-rows : goal.returns-clause-rows
returns-clause-rows g c new =
    let at = goal.at.returns-clause-rows g c in
    rw (← c.self.view_is) (done g at.In_ok-new (row g at.After-add_checked) new).rows

pub returns-clause-present : goal.returns-clause-present
returns-clause-present g c old =
    let told = c.in_ok-new.ensures.present old in
    Contents-same c.self.inside.slots.items c.self.inside.pool c.args.index c.index_mut-slot.result.now c.add_checked.new.slot c.add_checked.new.pool c.index_mut-slot.ensures.value told.1 told.0 ∙ c.self.view_is

pub returns-clause-counted : goal.returns-clause-counted
returns-clause-counted g c =
    rw (← c.self.view_is) (rw (row g (goal.at.returns-clause-counted g c).After-add_checked).is at c.add_checked.ensures.counted)
