use Rattle.intmap_table.proofs.Nodes.CloneLemmas.{Rows-cloned}
use Rattle.intmap_table.proofs.table.slots.Slots.clone.Goals as goal

pub clone_rows-requires-clause-rows : goal.clone_rows-requires-clause-rows
clone_rows-requires-clause-rows g c = rw c.deref.ensures.value (c.self.inside.mask, c.self.invariant)

pub invariant_of-result : goal.invariant_of-result
invariant_of-result g c =
    rw c.in_ok-bits.ensures
    (Rows-cloned g.X.Clone.is_clone g.K.IntKey.number_of c.self.inside.slots.items c.self.inside.pool c.self.inside.bits c.self.inside.mask c.clone_rows.new.made.items c.clone_rows.new.nodes c.self.invariant
    (rw c.deref.ensures.value at c.in_ok-clone_rows.ensures.linked) (rw c.deref.ensures.value at c.in_ok-clone_rows.ensures.rows))

pub returns : goal.returns
returns g c = rw (← c.self.view_is) (rw c.deref.ensures.value at c.in_ok-clone_rows.ensures.rows)
