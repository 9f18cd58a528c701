use Rattle.std.proofs.Common.{rules, to_z, of_z}
use Rattle.std.specs.Int.{w64}
use Rattle.intmap_sparse.proofs.CallLemmas.{added-too_large, as-too_large, too_large-as}
use Rattle.intmap_sparse.proofs.vector.SparseVec.add.Goals as goal

pub returns-in_err-set-clause-too_large : goal.returns-in_err-set-clause-too_large
returns-in_err-set-clause-too_large g c =
    let r = c.from_residual.result in let cause = c.in_err-set.field-0.0 in let is = c.from_residual.ensures.1 in
    added-too_large c.args.self.now c.args.place c.args.delta (to_z w64 (of_z w64 c.in-Some.sum)) (search rules) _ _
    (as-too_large r cause is) (too_large-as r cause is) c.in_err-set.ensures.too_large

pub returns-clause-too_large : goal.returns-clause-too_large
returns-clause-too_large g c =
    added-too_large c.args.self.now c.args.place c.args.delta (to_z w64 (of_z w64 c.in-Some.sum)) (search rules) _ _
    (λ none. cc) (λ none. cc) c.in_ok-set.ensures.too_large
