use Rattle.intmap_set.proofs.EqualLemmas.{sets_equal-iff_members}
use Rattle.intmap_set.proofs.laws.equal_sets_have_the_same_members.Goals as goal

pub returns : goal.returns
returns g c = sets_equal-iff_members g.K.IntKey.number_of
