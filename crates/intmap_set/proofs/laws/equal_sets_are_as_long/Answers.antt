use Rattle.intmap_set.proofs.SizeLemmas.{length-sets_equal}
use Rattle.intmap_set.proofs.laws.equal_sets_are_as_long.Goals as goal

pub returns : goal.returns
returns g c = length-sets_equal g.K.IntKey.number_of
