use Rattle.intmap_set.proofs.CombinedLemmas.{IsIntersection-intersection_of}
use Rattle.intmap_set.proofs.laws.intersection_holds.Goals as goal

pub returns : goal.returns
returns g c = IsIntersection-intersection_of g.K.IntKey.number_of
