use Rattle.intmap_set.proofs.SizeLemmas.{length-difference_of-intersection_of}
use Rattle.intmap_set.proofs.laws.difference_and_intersection_count_first.Goals as goal

pub returns : goal.returns
returns g c = length-difference_of-intersection_of g.K.IntKey.number_of
