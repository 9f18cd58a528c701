use Rattle.std.proofs.Common.{◌≡◌, ℕ, take}
use Rattle.std.specs.Prelude.{◌==◌, count_by}
use Rattle.example_counter.specs.Counts.{count_of}
use Rattle.example_counter.proofs.count.Given as goal

-- the numbers so far are counted
abbrev pub invariant-loop-number : goal.invariant-loop-number
invariant-loop-number l = (q : ℕ) → count_of l.counts.walk q ≡ count_by (λ element. element == q) (take l.number-index l.numbers)
