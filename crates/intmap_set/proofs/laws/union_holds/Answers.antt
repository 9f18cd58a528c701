use Rattle.intmap_set.proofs.CombinedLemmas.{IsUnion-union_of}
use Rattle.intmap_set.proofs.laws.union_holds.Goals as goal

pub returns : goal.returns
returns g c = IsUnion-union_of g.K.IntKey.number_of
