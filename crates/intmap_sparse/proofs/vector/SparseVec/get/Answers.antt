use Rattle.intmap_sparse.proofs.RoomLemmas.{IsSparseVec-seen}
use Rattle.intmap_sparse.proofs.vector.SparseVec.get.Goals as goal

pub returns-clause-valid : goal.returns-clause-valid
returns-clause-valid g c = IsSparseVec-seen c.self.inside.values _ c.self.view_is c.self.invariant.1 c.self.invariant.0 c.get.ensures.valid
