use Rattle.intmap_set.proofs.SizeLemmas.{length-union_of-intersection_of}
use Rattle.intmap_set.proofs.laws.union_and_intersection_count_both.Goals as goal

pub returns : goal.returns
returns g c = length-union_of-intersection_of g.K.IntKey.number_of
