use Rattle.std.proofs.Common.{subst, sym, ◌∙◌, []}
use Rattle.std.specs.Prelude.{◌↔◌, IsTrue}
use Rattle.intmap_sparse.specs.Vectors.{HaveSameValues}
use Rattle.intmap_sparse.proofs.ValueLemmas.{HaveSameValues-empty, length-zeros}
use Rattle.intmap_sparse.proofs.vector.SparseVec.is_empty.Goals as goal

pub returns-clause-zeros : goal.returns-clause-zeros
returns-clause-zeros g c =
    let walk = c.self.inside.values.walk in
    subst (λ v. IsTrue c.is_empty.result ↔ HaveSameValues v.walk []) c.self.view_is (
      λ empty. HaveSameValues-empty walk (sym c.is_empty.ensures.value ∙ empty),
      λ zeros. c.is_empty.ensures.value ∙ length-zeros walk c.self.invariant.0 zeros,
    )
