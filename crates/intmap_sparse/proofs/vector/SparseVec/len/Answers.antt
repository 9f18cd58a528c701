use Rattle.std.proofs.Common.{subst, sym, ap, ◌∙◌, ◌^◌}
use Rattle.intmap_sparse.specs.Vectors.{IsVector, count_of_nonzero}
use Rattle.intmap_sparse.proofs.ValueLemmas.{IsVector-map, count_below-length}
use Rattle.intmap_sparse.proofs.vector.SparseVec.len.Goals as goal

pub returns-clause-count : goal.returns-clause-count
returns-clause-count g c =
    let map = c.len.ensures.valid in
    c.len.ensures.value ∙ sym (count_below-length c.self.inside.values.walk (2 ^ 64) map.distinct map.keys c.self.invariant.0)
    ∙ ap (λ v. count_of_nonzero v.walk) c.self.view_is

pub returns-clause-valid : goal.returns-clause-valid
returns-clause-valid g c = subst (λ v. IsVector v.walk) c.self.view_is (IsVector-map c.self.inside.values c.len.ensures.valid c.self.invariant.0)
