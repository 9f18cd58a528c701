use Rattle.std.proofs.Common.{◌<◌, length, true, arith}
use Rattle.std.specs.Prelude.{◌++◌, [], ◌∷◌, get_or, set}
use Rattle.std.proofs.lemmas.List.{get_or_default, length-map}
use Rattle.intmap_table.specs.Tables.Nodes.{empty, row_in, rows_in}
use Rattle.intmap_table.proofs.Nodes.LinkedLemmas.{HaveRows, Row-pushed}
use Rattle.intmap_table.proofs.table.slots.Slots.put_last.Goals as goal
use Rattle.intmap_table.proofs.table.slots.Slots.put_last.Goals.{After-put_at}

-- the slots with the pair
done : (g : _) (c : After-put_at g) → HaveRows g.K.IntKey.number_of c.put_at.new.slots.items c.put_at.new.pool (set c.self.inside.bits c.args.index true) c.self.inside.mask
    (set (rows_in c.self.inside.slots.items c.self.inside.pool.nodes) c.args.index (get_or (rows_in c.self.inside.slots.items c.self.inside.pool.nodes) c.args.index [] ++ c.args.pair ∷ []))
done g c =
    let within = rw (← c.self.view_is) at c.requires.within in
    let own = rw (← c.self.view_is) at c.requires.own in
    let put = c.put_at.ensures.row in
    let slots = c.self.inside.slots.items in
    let s = get_or slots c.args.index empty in
    let len = length-map slots (row_in c.self.inside.pool.nodes) in
    let below : c.args.index < length slots = omega (arith, len, within) in
    rw (← put.1) at (Row-pushed g.K.IntKey.number_of slots c.self.inside.pool c.self.inside.bits c.self.inside.mask c.args.index s c.args.pair c.put_at.new.pool put.0 c.self.invariant within (get_or_default slots c.args.index empty s below) own put.2)

pub invariant_of-self : goal.invariant_of-self
invariant_of-self g c = rw c.put_at.ensures.bits (done g (goal.at.invariant_of-self g c).After-put_at).are

pub returns-clause-rows : goal.returns-clause-rows
returns-clause-rows g c = rw (← c.self.view_is) (done g (goal.at.returns-clause-rows g c).After-put_at).rows
