use Rattle.intmap_set.proofs.EqualLemmas.{sets_equal-iff_subsets}
use Rattle.intmap_set.proofs.laws.equal_sets_are_mutual_subsets.Goals as goal

pub returns : goal.returns
returns g c = sets_equal-iff_subsets g.K.IntKey.number_of
