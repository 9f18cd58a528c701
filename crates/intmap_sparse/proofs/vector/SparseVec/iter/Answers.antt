use Rattle.std.proofs.Common.{subst}
use Rattle.intmap_sparse.specs.Vectors.{IsVector}
use Rattle.intmap_sparse.proofs.ValueLemmas.{IsVector-map}
use Rattle.intmap_sparse.proofs.vector.SparseVec.iter.Goals as goal

pub returns-clause-valid : goal.returns-clause-valid
returns-clause-valid g c = subst (λ v. IsVector v.walk) c.self.view_is (IsVector-map c.self.inside.values c.iter.ensures.valid c.self.invariant.0)
