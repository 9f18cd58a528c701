use Rattle.std.proofs.Common.{◌≡◌, ◌+◌, ◌⊎◌, ℕ}
use Rattle.std.specs.List.{sum}
use Rattle.std.specs.Map.{values_of}
use Rattle.std.specs.Prelude.{unwrap_or}
use Rattle.intmap.specs.Bindings.{HasDistinctKeys, value_of}
use Rattle.caller_tasks.proofs.sums.merge.Given as goal

abbrev pub invariant-loop-key : goal.invariant-loop-key
invariant-loop-key g l = record {
  total : sum (values_of l.sums.walk) + sum (values_of l.key-iterator) ≡ sum (values_of l.fn.sums.walk) + sum (values_of l.more.walk);
  all_or_none : (q : ℕ) → (unwrap_or (value_of (λ k. k) l.key-iterator q) 0 ≡ unwrap_or (value_of (λ k. k) l.more.walk q) 0)
      ⊎ (unwrap_or (value_of (λ k. k) l.key-iterator q) 0 ≡ 0);
  distinct : HasDistinctKeys (λ k. k) l.key-iterator;
  values : (q : ℕ) → unwrap_or (value_of (λ k. k) l.sums.walk q) 0 + unwrap_or (value_of (λ k. k) l.key-iterator q) 0
      ≡ unwrap_or (value_of (λ k. k) l.fn.sums.walk q) 0 + unwrap_or (value_of (λ k. k) l.more.walk q) 0;
}
