use Rattle.std.proofs.Common.{◌+◌, ◌*◌, ◌/◌, ◌<◌, ◌≤◌, arith}
use Rattle.std.proofs.Math.Nat.{mul-le-mul_left, lt-mul-div-succ}
use Rattle.intmap_table.proofs.SlotNumberLemmas.{capacity-positive}
use Rattle.intmap.proofs.laws.met_loads_leave_slots.Goals as goal

pub returns : goal.returns
returns c C n F capacity small meets =
    let over : n * 1000 < C * (n * 1000 / C + 1) = lt-mul-div-succ (n * 1000) (capacity-positive C capacity) in
    let most : C * (n * 1000 / C + 1) ≤ C * 1000 = mul-le-mul_left C (let few : n * 1000 / C + 1 ≤ 1000 = omega (arith, small, meets) in few) in omega (arith, over, most)
