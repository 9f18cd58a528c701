use Rattle.intmap_set.proofs.CombinedLemmas.{IsSymmetricDifference-symmetric_difference_of}
use Rattle.intmap_set.proofs.laws.symmetric_difference_holds.Goals as goal

pub returns : goal.returns
returns g c = IsSymmetricDifference-symmetric_difference_of g.K.IntKey.number_of
