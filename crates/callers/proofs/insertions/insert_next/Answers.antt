use Rattle.std.proofs.Common.{◌<◌, arith}
use Rattle.std.proofs.lemmas.Bool.Decides.{nat_tests}
use Rattle.callers.proofs.insertions.insert_next.Goals as goal

-- no counter has a number as great as the capacity
pub insert_small-requires-clause-small_keys : goal.insert_small-requires-clause-small_keys
insert_small-requires-clause-small_keys g c =
    let map = c.args.map.now in
    let less : c.args.n < map.capacity = c.met_loads_leave_slots.ensures map.capacity c.args.n map.factor c.capacity-capacity.ensures.valid.capacity c.requires.small c.requires.room in
    let below = c.requires.below in
    c.present_keys_are_below.ensures map.walk map.capacity (λ q above. let value = c.requires.values q in grind (arith, nat_tests, less, below, above, value))
