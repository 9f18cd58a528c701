use Rattle.intmap_table.proofs.SlotNumberLemmas.{capacity-greatest}
use Rattle.intmap_table.proofs.Tables.ReachedLemmas.{Position-start}
use Rattle.intmap_table.proofs.table.slots.Slots.pairs_from.Goals as goal

pub invariant_of-result : goal.invariant_of-result
invariant_of-result g c =
    rw c.deref-2.ensures.value
    (Position-start c.self.inside.slots.items c.self.inside.pool.nodes c.self.inside.bits c.args.at c.link_to.result c.first_from-from.result c.marks_from.result.at c.marks_from.result.word c.link_to.ensures.chain
    c.self.invariant.linked.chains c.self.invariant.marked (rw c.deref.ensures.value at c.link_to.ensures.pairs) c.first_from-from.ensures (capacity-greatest _ c.self.invariant.capacity) c.marks_from.ensures)
