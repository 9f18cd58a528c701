use Rattle.std.proofs.Common.{◌≡◌}
use Rattle.intmap.specs.Json.{holds_a_float}
use Rattle.intmap.proofs.map.json.IntMap+u64+Value.holds_float.Given as goal

-- the pairs that are left hold a float if and only if all do
abbrev pub invariant-loop-value : goal.invariant-loop-value
invariant-loop-value l =
    (goal.iterator-loop-value).can_next l.value-iterator
    × (goal.iterator-loop-value).is_finite l.value-iterator
    × (holds_a_float l.value-iterator ≡ holds_a_float l.fn.self.walk)
