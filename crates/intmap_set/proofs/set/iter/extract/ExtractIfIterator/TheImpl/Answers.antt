use Rattle.std.proofs.Common.{rules}
use Rattle.intmap_set.proofs.set.iter.extract.ExtractIfIterator.TheImpl.Goals as goal

-- the bounds that are returned meet those that the trait requires
pub size_hint-tells : goal.size_hint-tells
size_hint-tells g x c = record { lower = search rules; upper = search rules }
