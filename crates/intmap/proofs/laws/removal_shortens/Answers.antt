use Rattle.intmap_table.proofs.DistinctLemmas.{length-take_key}
use Rattle.intmap.proofs.laws.removal_shortens.Goals as goal

pub returns : goal.returns
returns g c = λ L C k. length-take_key g.K.IntKey.number_of L C k
