use Rattle.std.proofs.Common.{◌<◌, [], length, ◌∙◌}
use Rattle.std.specs.Prelude.{get_or, set}
use Rattle.intmap_table.specs.Tables.Nodes.{rows_in}
use Rattle.intmap_table.specs.Tables.Putting.{put_last}
use Rattle.intmap_table.proofs.Tables.MemoryLemmas.{OnErr-always}
use Rattle.intmap_table.proofs.Nodes.LinkedLemmas.{HaveRows, IsRow, Row-of}
use Rattle.intmap_table.proofs.Nodes.PutRowLemmas.{Contents-same, Row-put}
use Rattle.intmap_table.proofs.table.slots.Slots.put.Goals as goal
use Rattle.intmap_table.proofs.table.slots.Slots.put.Goals.{After-put, In_ok-old}

row : (g : _) (c : After-put g) → IsRow g.K.IntKey.number_of c.self.inside.slots.items c.self.inside.pool (rows_in c.self.inside.slots.items c.self.inside.pool.nodes) c.args.index c.index_mut-slot.result.now
row g c =
    let slots = c.self.inside.slots.items in let a = c.self.inside.pool in
    let within : c.args.index < length (rows_in slots a.nodes) = rw (← c.self.view_is) at c.requires.within in
    Row-of g.K.IntKey.number_of slots a c.self.inside.bits c.self.inside.mask c.args.index c.index_mut-slot.result.now c.self.invariant within c.index_mut-slot.ensures.value

-- the slots with the new row
done : (g : _) (c : In_ok-old g) → IsRow g.K.IntKey.number_of c.self.inside.slots.items c.self.inside.pool (rows_in c.self.inside.slots.items c.self.inside.pool.nodes) c.args.index c.index_mut-slot.result.now
    → HaveRows g.K.IntKey.number_of (set c.self.inside.slots.items c.args.index c.put.new.slot) c.put.new.pool c.self.inside.bits c.self.inside.mask (set (rows_in c.self.inside.slots.items c.self.inside.pool.nodes) c.args.index (put_last g.K.IntKey.number_of (get_or (rows_in c.self.inside.slots.items c.self.inside.pool.nodes) c.args.index []) c.args.key c.args.value))
done g c here =
    let slots = c.self.inside.slots.items in let a = c.self.inside.pool in
    let own = rw (← c.self.view_is) at c.requires.own in
    let some : 0 < length (get_or (rows_in slots a.nodes) c.args.index []) = rw here.is at c.in_ok-old.ensures.some in
    Row-put g.K.IntKey.number_of slots a c.self.inside.bits c.self.inside.mask c.args.index c.index_mut-slot.result.now c.args.key c.args.value c.put.new.pool c.put.new.slot c.self.invariant here c.in_ok-old.ensures.row own some

pub returns-in_err-old-clause-err : goal.returns-in_err-old-clause-err
returns-in_err-old-clause-err g c =
    let told = c.in_err-old.ensures in
    OnErr-always c.from_residual.result
    (Contents-same c.self.inside.slots.items c.self.inside.pool c.args.index c.index_mut-slot.result.now c.put.new.slot c.put.new.pool c.index_mut-slot.ensures.value told.slot told.err ∙ c.self.view_is)

pub returns-in_err-old-clause-counted : goal.returns-in_err-old-clause-counted
returns-in_err-old-clause-counted g c =
    rw (← c.self.view_is) (rw (row g (goal.at.returns-in_err-old-clause-counted g c).After-put).is at c.put.ensures.counted)

pub invariant_of-self-2 : goal.invariant_of-self-2
invariant_of-self-2 g c =
    let at = goal.at.invariant_of-self-2 g c in
    (done g at.In_ok-old (row g at.After-put)).are

pub returns-clause-rows : goal.returns-clause-rows
returns-clause-rows g c =
    let at = goal.at.returns-clause-rows g c in
    rw (← c.self.view_is) (done g at.In_ok-old (row g at.After-put)).rows

pub returns-clause-counted : goal.returns-clause-counted
returns-clause-counted g c =
    rw (← c.self.view_is) (rw (row g (goal.at.returns-clause-counted g c).After-put).is at c.put.ensures.counted)
