use Rattle.std.proofs.Common.{◌-◌, ◌^◌}
use Rattle.intmap.proofs.LoadFactorLemmas.{IsNear}
use Rattle.intmap.proofs.load.wanted_capacity.Given as goal

-- the capacity so far is a doubling of the given one, and no smaller one meets the load factor
abbrev pub invariant-loop-slots : goal.invariant-loop-slots
invariant-loop-slots l = IsNear l.fn.capacity l.fn.len l.fn.factor l.slots

abbrev pub decreases-loop-slots : goal.decreases-loop-slots
decreases-loop-slots l = 2 ^ 64 - l.slots
