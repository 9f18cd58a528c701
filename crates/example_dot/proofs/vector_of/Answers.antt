use Rattle.std.proofs.Common.{arith}
use Rattle.std.proofs.lemmas.Bool.Decides.{nat_tests}
use Rattle.std.proofs.lemmas.List.{take_all}
use Rattle.std.proofs.lemmas.List.Sums.{fold_more}
use Rattle.example_dot.proofs.vector_of.Goals as goal

pub loop-place-preserved : goal.loop-place-preserved
loop-place-preserved c = λ q.
    let before = c.loop-place.invariant q in let step = c.in_ok-set.ensures.assigned in
    grind (arith, nat_tests, fold_more, before, step)

pub returns : goal.returns
returns c = λ place. let all = c.loop-place.invariant place in grind (arith, take_all, all)
