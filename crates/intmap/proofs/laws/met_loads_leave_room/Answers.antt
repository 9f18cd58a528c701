use Rattle.std.proofs.Common.{arith, length, ◌+◌, ◌≤◌}
use Rattle.intmap_table.proofs.SlotNumberLemmas.{capacity-positive}
use Rattle.intmap.proofs.LoadFactorLemmas.{IsNext-met, MeetsLoad-fewer}
use Rattle.intmap.proofs.laws.met_loads_leave_room.Goals as goal

pub returns : goal.returns
returns g c L C F n k capacity meets fits few alone =
    let up : length L + 1 ≤ n = omega (arith, few) in
    record { alone = alone; stays = IsNext-met C (length L + 1) F capacity (MeetsLoad-fewer C n (length L + 1) F (capacity-positive C capacity) meets up); count = omega (arith, few, fits) }
