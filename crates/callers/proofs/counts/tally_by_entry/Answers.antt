use Rattle.std.proofs.Common.{arith}
use Rattle.std.proofs.lemmas.Bool.Decides.{nat_tests}
use Rattle.std.proofs.lemmas.Grind.{common_steps}
use Rattle.std.proofs.lemmas.List.Sums.{fold_more}
use Rattle.callers.proofs.counts.tally_by_entry.Goals as goal

pub loop-number-preserved : goal.loop-number-preserved
loop-number-preserved g c =
    let before = c.loop-number.invariant in let step = c.in_ok-count_within_sum.ensures in
    record {
      counts = λ q. let so_far = before.counts q in let more = step.counts q in grind (arith, nat_tests, fold_more, so_far, more);
      total = let so_far = before.total in let more = step.total in grind (arith, so_far, more);
    }

pub returns-clause-counts : goal.returns-clause-counts
returns-clause-counts g c = grind (arith, common_steps)
