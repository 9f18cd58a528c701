use Rattle.std.proofs.Common.{sym, subst, arith}
use Rattle.intmap_table.specs.Fronts.{IsRowFront}
use Rattle.intmap_table.proofs.SlotNumberLemmas.{capacity-positive}
use Rattle.intmap_table.proofs.Tables.FrontLemmas.{rows-joined}
use Rattle.intmap_table.proofs.table.Table.front.Goals as goal

pub returns : goal.returns
returns g c =
    let some = capacity-positive _ c.self.invariant.capacity in
    rw (← c.self.view_is) (subst (λ R. IsRowFront R (record { at = 0; left = c.marks_from.result })) (sym (rows-joined g.K.IntKey.number_of c.self.inside.slots.rows c.self.invariant))
    record { within = omega (arith, some); passed = λ i less. absurd (omega (arith, less)); left = c.marks_from.ensures })
