use Rattle.intmap_set.proofs.SizeLemmas.{length-symmetric_difference_of-intersection_of}
use Rattle.intmap_set.proofs.laws.symmetric_difference_counts_apart.Goals as goal

pub returns : goal.returns
returns g c = length-symmetric_difference_of-intersection_of g.K.IntKey.number_of
