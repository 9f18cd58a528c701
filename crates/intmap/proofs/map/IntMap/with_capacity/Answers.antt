use Rattle.std.proofs.Common.{max, arith}
use Rattle.std.proofs.lemmas.Result.{IfOk-weaker}
use Rattle.intmap.specs.Growth.{IsLeastPower}
use Rattle.intmap.proofs.GrowthLemmas.{IsCapacity-from_next, IsLeastPower-up}
use Rattle.intmap.proofs.map.IntMap.with_capacity.Goals as goal

pub of_slots-requires : goal.of_slots-requires
of_slots-requires g c =
    let p = c.next_power_of_two.ensures in
    IsCapacity-from_next c.args.capacity c.next_power_of_two.result (omega arith) p.power (omega (arith, p.lower_bound)) (omega (arith, p.upper_bound))

pub returns-clause-capacity : goal.returns-clause-capacity
returns-clause-capacity g c =
    let p = c.next_power_of_two.ensures in
    let least : IsLeastPower (max c.args.capacity 2) c.next_power_of_two.result =
    IsLeastPower-up (max c.args.capacity 2) c.next_power_of_two.result p.power (omega (arith, p.lower_bound)) (omega (arith, p.upper_bound)) in
    IfOk-weaker c.of_slots.result _ _ (λ made e. rw e least) c.of_slots.ensures.state
