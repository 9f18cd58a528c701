use Rattle.std.proofs.Common.{arith}
use Rattle.std.proofs.lemmas.Bool.Decides.{nat_tests}
use Rattle.std.proofs.lemmas.Grind.{common_steps}
use Rattle.std.proofs.lemmas.List.Sums.{fold_more}
use Rattle.example_counter.proofs.count.Goals as goal

pub loop-number-preserved : goal.loop-number-preserved
loop-number-preserved c = λ q.
    let before = c.loop-number.invariant q in let step = c.in_ok-count_one.ensures.0 q in
    grind (arith, nat_tests, fold_more, before, step)

pub returns : goal.returns
returns c = grind (arith, common_steps)
