-- Why an addition failed.
use Rattle.intmap.specs.declared.refusal.Cause.{Cause}
use Rattle.intmap.specs.declared.refusal.Cause.TheVariants as map
use Rattle.intmap_sparse.specs.declared.cause.SparseCause.{SparseCause}
use Rattle.intmap_sparse.specs.declared.cause.SparseCause.TheVariants as sparse

-- the cause of a vector, by the cause of its map
abbrev pub sparse_cause : Cause → SparseCause
sparse_cause map.Memory = sparse.Memory
sparse_cause map.TooLarge = sparse.TooLarge
