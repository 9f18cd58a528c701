use Rattle.intmap.proofs.RegroupLemmas.{walk_of-larger}
use Rattle.intmap_run.proofs.laws.walks_grow_as_lists.Goals as goal

pub returns : goal.returns
returns g c = λ C D L small large more. walk_of-larger g.K.IntKey.number_of L C D small large more
