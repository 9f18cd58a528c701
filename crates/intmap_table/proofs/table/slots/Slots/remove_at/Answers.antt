use Rattle.std.proofs.Common.{◌+◌, ◌++◌, [], length, false, cond, take, arith, length-append}
use Rattle.std.specs.Prelude.{get_or, set, drop}
use Rattle.std.proofs.lemmas.List.{length-drop, length-map, length-take}
use Rattle.intmap_table.specs.Classes.{slot_number}
use Rattle.intmap_table.specs.Tables.Nodes.{is_empty, rows_in, row_in}
use Rattle.intmap_table.proofs.Nodes.LinkedLemmas.{HaveRows, IsRow, Row-of, Row-shrunk, home-remove}
use Rattle.intmap_table.proofs.table.slots.Slots.remove_at.Goals as goal
use Rattle.intmap_table.proofs.table.slots.Slots.remove_at.Goals.{After-index_mut-slot, After-remove-pair}

row : (g : _) (c : After-index_mut-slot g) → IsRow g.K.IntKey.number_of c.self.inside.slots.items c.self.inside.pool (rows_in c.self.inside.slots.items c.self.inside.pool.nodes) c.args.index c.index_mut-slot.result.now
row g c =
    let len = length-map c.self.inside.slots.items (row_in c.self.inside.pool.nodes) in
    Row-of g.K.IntKey.number_of c.self.inside.slots.items c.self.inside.pool c.self.inside.bits c.self.inside.mask c.args.index c.index_mut-slot.result.now c.self.invariant
    (let count = c.self.invariant.count in omega (arith, len, count, c.if-index-self.false)) c.index_mut-slot.ensures.value

-- the slots with what is left of the row
done : (g : _) (c : After-remove-pair g) → IsRow g.K.IntKey.number_of c.self.inside.slots.items c.self.inside.pool (rows_in c.self.inside.slots.items c.self.inside.pool.nodes) c.args.index c.index_mut-slot.result.now
    → HaveRows g.K.IntKey.number_of (set c.self.inside.slots.items c.args.index c.remove-pair.new.slot) c.remove-pair.new.pool (cond (is_empty c.remove-pair.new.slot) (set c.self.inside.bits c.args.index false) c.self.inside.bits) c.self.inside.mask (set (rows_in c.self.inside.slots.items c.self.inside.pool.nodes) c.args.index (take c.args.place (get_or (rows_in c.self.inside.slots.items c.self.inside.pool.nodes) c.args.index []) ++ drop (c.args.place + 1) (get_or (rows_in c.self.inside.slots.items c.self.inside.pool.nodes) c.args.index [])))
done g c r =
    let old = get_or (rows_in c.self.inside.slots.items c.self.inside.pool.nodes) c.args.index [] in
    Row-shrunk g.K.IntKey.number_of c.self.inside.slots.items c.self.inside.pool c.self.inside.bits c.self.inside.mask c.args.index c.index_mut-slot.result.now (λ ps. take c.args.place (ps) ++ drop (c.args.place + 1) (ps)) c.remove-pair.new.pool c.remove-pair.new.slot c.self.invariant r c.remove-pair.ensures.row
    (home-remove (λ p. slot_number g.K.IntKey.number_of p.0 (length c.self.inside.slots.items)) c.args.index (row_in c.self.inside.pool.nodes c.index_mut-slot.result.now) c.args.place r.own)
    (λ some. let both = length-append (take c.args.place old) (drop (c.args.place + 1) old) in omega (arith, some, both, length-take c.args.place old, length-drop (c.args.place + 1) old))

pub invariant_of-self : goal.invariant_of-self
invariant_of-self g c =
    let at = (goal.at.invariant_of-self g c).After-index_mut-slot in
    rw (c.unmark_if.ensures, c.is_empty.ensures) (done g (goal.at.invariant_of-self g c).After-remove-pair (row g at)).are

pub returns-clause-rows : goal.returns-clause-rows
returns-clause-rows g c =
    let at = (goal.at.returns-clause-rows g c).After-index_mut-slot in
    rw (← c.self.view_is) (done g (goal.at.returns-clause-rows g c).After-remove-pair (row g at)).rows
