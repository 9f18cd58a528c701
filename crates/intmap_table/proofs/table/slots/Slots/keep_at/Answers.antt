use Rattle.std.proofs.Common.{length, false, cond, set, ap, arith}
use Rattle.std.proofs.lemmas.List.{length-map}
use Rattle.intmap_table.specs.Classes.{slot_number}
use Rattle.intmap_table.specs.Tables.Nodes.{is_empty, rows_in, row_in}
use Rattle.intmap_table.proofs.KeepingLemmas.{lengths-Keeps}
use Rattle.intmap_table.proofs.Nodes.HomeLemmas.{Home-kept, Rows-table}
use Rattle.intmap_table.proofs.Nodes.LinkedLemmas.{HaveRows, IsRow, Row-here, Row-of, Row-shrunk}
use Rattle.intmap_table.proofs.table.slots.Slots.keep_at.Goals as goal
use Rattle.intmap_table.proofs.table.slots.Slots.keep_at.Goals.{After-index_mut-slot, After-keep}

row : (g : _) (c : After-index_mut-slot g) → IsRow g.K.IntKey.number_of c.self.inside.slots.items c.self.inside.pool (rows_in c.self.inside.slots.items c.self.inside.pool.nodes) c.args.index c.index_mut-slot.result.now
row g c =
    let len = length-map c.self.inside.slots.items (row_in c.self.inside.pool.nodes) in
    Row-of g.K.IntKey.number_of c.self.inside.slots.items c.self.inside.pool c.self.inside.bits c.self.inside.mask c.args.index c.index_mut-slot.result.now c.self.invariant
    (let count = c.self.invariant.count in omega (arith, len, count, c.if-index-self.false)) c.index_mut-slot.ensures.value

-- the slots with what is left of the row
done : (g : _) (c : After-keep g) → IsRow g.K.IntKey.number_of c.self.inside.slots.items c.self.inside.pool (rows_in c.self.inside.slots.items c.self.inside.pool.nodes) c.args.index c.index_mut-slot.result.now
    → HaveRows g.K.IntKey.number_of (set c.self.inside.slots.items c.args.index c.keep.new.slot) c.keep.new.pool (cond (is_empty c.keep.new.slot) (set c.self.inside.bits c.args.index false) c.self.inside.bits) c.self.inside.mask (set (rows_in c.self.inside.slots.items c.self.inside.pool.nodes) c.args.index (row_in c.keep.new.pool.nodes c.keep.new.slot))
done g c r =
    let len = ap length r.is in let parts = lengths-Keeps _ _ _ _ _ _ c.keep.ensures.pairs in
    Row-shrunk g.K.IntKey.number_of c.self.inside.slots.items c.self.inside.pool c.self.inside.bits c.self.inside.mask c.args.index c.index_mut-slot.result.now (λ ps. row_in c.keep.new.pool.nodes c.keep.new.slot) c.keep.new.pool c.keep.new.slot c.self.invariant r c.keep.ensures.slot
    (Home-kept (λ p. slot_number g.K.IntKey.number_of p.0 (length c.self.inside.slots.items)) c.args.index _ _ _ _ _ _ c.keep.ensures.pairs r.own)
    (λ some. omega (arith, some, parts, len))

pub returns-then-index-self-clause-table : goal.returns-then-index-self-clause-table
returns-then-index-self-clause-table g c = rw (← c.self.view_is) (Rows-table _ _ _ _ _ c.self.invariant)

pub invariant_of-self : goal.invariant_of-self
invariant_of-self g c =
    let at = (goal.at.invariant_of-self g c).After-index_mut-slot in
    rw (c.unmark_if.ensures, c.is_empty.ensures) (done g (goal.at.invariant_of-self g c).After-keep (row g at)).are

pub returns-clause-rows : goal.returns-clause-rows
returns-clause-rows g c =
    let at = (goal.at.returns-clause-rows g c).After-index_mut-slot in
    let here = Row-here g.K.IntKey.number_of c.self.inside.slots.items c.keep.new.pool c.args.index c.keep.new.slot (row g at).within in
    rw (← c.self.view_is, here) (done g (goal.at.returns-clause-rows g c).After-keep (row g at)).rows

pub returns-clause-pairs : goal.returns-clause-pairs
returns-clause-pairs g c =
    let r = row g (goal.at.returns-clause-pairs g c).After-index_mut-slot in
    let here = Row-here g.K.IntKey.number_of c.self.inside.slots.items c.keep.new.pool c.args.index c.keep.new.slot r.within in
    rw (← c.self.view_is, here, ← r.is) c.keep.ensures.pairs

pub returns-clause-ends : goal.returns-clause-ends
returns-clause-ends g c more =
    let r = row g (goal.at.returns-clause-ends g c).After-index_mut-slot in
    let here = Row-here g.K.IntKey.number_of c.self.inside.slots.items c.keep.new.pool c.args.index c.keep.new.slot r.within in
    rw here (c.keep.ensures.ends more)

pub returns-clause-table : goal.returns-clause-table
returns-clause-table g c =
    let at = (goal.at.returns-clause-table g c).After-index_mut-slot in
    Rows-table _ _ _ _ _ (done g (goal.at.returns-clause-table g c).After-keep (row g at)).are
