use Rattle.std.proofs.Common.{◌≡◌, ◌+◌, ◌-◌, ◌∙◌, ap, arith}
use Rattle.intmap_table.specs.Classes.{slot_number}
use Rattle.intmap_table.proofs.SlotNumberLemmas.{capacity-positive}
use Rattle.intmap_table.proofs.table.index_of.Goals as goal

pub returns-clause-slot : goal.returns-clause-slot
returns-clause-slot g c =
    let some = capacity-positive c.args.slots c.requires in
    let same : c.args.slots - 1 + 1 ≡ c.args.slots = omega (arith, some) in
    (rw c.number.ensures.value at c.index_of_number.ensures.slot) ∙ ap (λ n. slot_number g.K.IntKey.number_of c.args.key.now n) same
