use Rattle.std.proofs.Common.{◌≡◌, ℕ, take}
use Rattle.std.specs.List.{sum}
use Rattle.std.specs.Map.{values_of}
use Rattle.std.specs.Prelude.{◌==◌, count_by}
use Rattle.intmap.specs.Unsigned.{count_at}
use Rattle.callers.proofs.counts.tally_by_entry.Given as goal

abbrev pub invariant-loop-number : goal.invariant-loop-number
invariant-loop-number g l = record {
  counts : (q : ℕ) → count_at l.tally.walk q ≡ count_by (λ number. number == q) (take l.number-index l.numbers);
  total : sum (values_of l.tally.walk) ≡ l.number-index;
}
