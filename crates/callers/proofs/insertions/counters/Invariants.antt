use Rattle.std.proofs.Common.{◌≡◌, ◌<◌, ℕ, cond, length, nat_lt, None, Some}
use Rattle.intmap.specs.Bindings.{value_of}
use Rattle.intmap.specs.Growth.{MeetsLoad}
use Rattle.callers.proofs.insertions.counters.Given as goal

-- the counters before this one are there
abbrev pub invariant-loop-number : goal.invariant-loop-number
invariant-loop-number g l = record {
  len : length l.map.walk ≡ l.number;
  values : (q : ℕ) → value_of (λ k. k) l.map.walk q ≡ cond (nat_lt q l.number) (Some 0) None;
  room : MeetsLoad l.map.capacity l.n l.map.factor;
  small : l.map.factor < 1000;
}
