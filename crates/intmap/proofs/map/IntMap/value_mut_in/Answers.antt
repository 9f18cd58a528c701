use Rattle.std.proofs.Common.{sym, subst}
use Rattle.intmap.specs.Consistency.{IsConsistent}
use Rattle.intmap_table.proofs.WrittenLemmas.{write_in-the_key}
use Rattle.intmap.proofs.WriteLemmas.{IsConsistent-written}
use Rattle.intmap.proofs.map.IntMap.value_mut_in.Goals as goal

pub invariant_of-self-lent : goal.invariant_of-self-lent
invariant_of-self-lent g c w =
    let m = c.self.inside in
    let number = g.K.IntKey.number_of in
    subst (λ W. IsConsistent number g.K.IntKey.is_valid W m.table.capacity m.factor m.len m.threshold m.reserved m.table.nodes)
    (sym (write_in-the_key number m.table.walk m.table.capacity c.args.slot c.args.place w (rw (← c.self.view_is) at c.requires)))
    (IsConsistent-written number g.K.IntKey.is_valid _ _ _ _ _ _ _ _ w c.self.invariant)
