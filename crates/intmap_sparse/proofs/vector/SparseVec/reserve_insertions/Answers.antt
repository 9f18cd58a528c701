use Rattle.intmap_sparse.proofs.RoomLemmas.{IsSparseVec-seen, NeedsTooMuchRoom-seen}
use Rattle.intmap_sparse.proofs.vector.SparseVec.reserve_insertions.Goals as goal

pub returns-clause-too_large : goal.returns-clause-too_large
returns-clause-too_large g c = NeedsTooMuchRoom-seen c.self.inside.values _ c.self.view_is c.self.invariant.1 _ c.reserve_insertions.ensures.too_large

pub returns-clause-valid : goal.returns-clause-valid
returns-clause-valid g c = IsSparseVec-seen c.self.inside.values _ c.self.view_is c.self.invariant.1 c.self.invariant.0 c.reserve_insertions.ensures.valid
