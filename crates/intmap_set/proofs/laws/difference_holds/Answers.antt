use Rattle.intmap_set.proofs.CombinedLemmas.{IsDifference-difference_of}
use Rattle.intmap_set.proofs.laws.difference_holds.Goals as goal

pub returns : goal.returns
returns g c = IsDifference-difference_of g.K.IntKey.number_of
