use Rattle.std.proofs.Common.{◌++◌, ap}
use Rattle.intmap_table.specs.Tables.Nodes.{rows_in}
use Rattle.intmap_table.specs.Tables.Slots.{joined}
use Rattle.intmap_table.proofs.Nodes.OwnedLemmas.{Left-start}
use Rattle.intmap_table.proofs.Nodes.PathLemmas.{Chain-none}
use Rattle.intmap_table.proofs.table.slots.Slots.into_rows.Goals as goal

pub invariant_of-result : goal.invariant_of-result
invariant_of-result g c = Left-start g.K.IntKey.number_of c.self.inside.slots.items c.self.inside.pool c.self.inside.bits c.self.inside.mask _ _ c.self.invariant c.marks_from-left.ensures

pub returns : goal.returns
returns g c =
    let pool = c.self.inside.pool in
    rw (← c.self.view_is) (ap (λ ps. ps ++ joined (rows_in c.self.inside.slots.items pool.nodes)) (Chain-none pool.nodes))
