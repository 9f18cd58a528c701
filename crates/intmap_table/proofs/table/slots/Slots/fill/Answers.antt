use Rattle.std.proofs.Common.{◌≡◌, ◌++◌, [], ◌∷◌, true, ap, ◌∙◌}
use Rattle.std.specs.Prelude.{get_or, set}
use Rattle.intmap_table.specs.Tables.Nodes.{rows_in}
use Rattle.intmap_table.proofs.Nodes.LinkedLemmas.{HaveRows, Row-of, Row-pushed}
use Rattle.intmap_table.proofs.Nodes.PutRowLemmas.{Slot-fill}
use Rattle.intmap_table.proofs.table.slots.Slots.fill.Goals as goal
use Rattle.intmap_table.proofs.table.slots.Slots.fill.Goals.{After-set_in}

done : (g : _) (c : After-set_in g) → HaveRows g.K.IntKey.number_of (set c.self.inside.slots.items c.args.index c.fill.new.self) c.self.inside.pool (set c.self.inside.bits c.args.index true) c.self.inside.mask
    (set (rows_in c.self.inside.slots.items c.self.inside.pool.nodes) c.args.index (get_or (rows_in c.self.inside.slots.items c.self.inside.pool.nodes) c.args.index [] ++ c.args.pair ∷ []))
done g c =
    let slots = c.self.inside.slots.items in let a = c.self.inside.pool in let s = c.index_mut-slot.result.now in
    let within = rw (← c.self.view_is) at c.requires.within in
    let own = rw (← c.self.view_is) at c.requires.own in
    let empty = rw (← c.self.view_is) at c.requires.empty in
    let row = Row-of g.K.IntKey.number_of slots a c.self.inside.bits c.self.inside.mask c.args.index s c.self.invariant within c.index_mut-slot.ensures.value in
    Row-pushed g.K.IntKey.number_of slots a c.self.inside.bits c.self.inside.mask c.args.index s c.args.pair a c.fill.new.self
    c.self.invariant within c.index_mut-slot.ensures.value own (Slot-fill a s c.fill.new.self c.args.pair (row.is ∙ empty) c.fill.ensures)

pub invariant_of-self : goal.invariant_of-self
invariant_of-self g c = rw c.set_in.ensures (done g (goal.at.invariant_of-self g c).After-set_in).are

pub returns-clause-rows : goal.returns-clause-rows
returns-clause-rows g c =
    let R = rows_in c.self.inside.slots.items c.self.inside.pool.nodes in
    let empty : get_or R c.args.index [] ≡ [] = rw (← c.self.view_is) at c.requires.empty in
    rw (← c.self.view_is) ((done g (goal.at.returns-clause-rows g c).After-set_in).rows ∙ ap (λ ps. set R c.args.index (ps ++ c.args.pair ∷ [])) empty)
