use Rattle.intmap_run.proofs.CollisionStepLemmas.{collisions_of-same}
use Rattle.intmap_run.proofs.laws.collisions_are_the_same.Goals as goal

pub returns : goal.returns
returns g c = λ C L M one. collisions_of-same g.K.IntKey.number_of L M C one.walk
