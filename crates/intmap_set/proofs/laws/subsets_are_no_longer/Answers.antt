use Rattle.intmap_set.proofs.SizeLemmas.{length-subset}
use Rattle.intmap_set.proofs.laws.subsets_are_no_longer.Goals as goal

pub returns : goal.returns
returns g c = length-subset g.K.IntKey.number_of
