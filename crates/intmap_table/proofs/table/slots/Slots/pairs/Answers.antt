use Rattle.intmap_table.proofs.Nodes.WalkLemmas.{Walk-start, Walk-all}
use Rattle.intmap_table.proofs.table.slots.Slots.pairs.Goals as goal

pub invariant_of-result : goal.invariant_of-result
invariant_of-result g c =
    rw (c.iter.ensures, c.deref.ensures.value) (Walk-start g.K.IntKey.number_of c.self.inside.slots.items c.self.inside.pool c.self.inside.bits c.self.inside.mask c.self.invariant)

pub returns : goal.returns
returns g c =
    rw (c.iter.ensures, c.deref.ensures.value, ← c.self.view_is) (Walk-all g.K.IntKey.number_of c.self.inside.slots.items c.self.inside.pool c.self.inside.bits c.self.inside.mask c.self.invariant)
