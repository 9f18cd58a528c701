use Rattle.intmap_table.proofs.DistinctLemmas.{length-put_pair}
use Rattle.intmap.proofs.laws.insertion_lengthens.Goals as goal

pub returns : goal.returns
returns g c = λ L C k v. length-put_pair g.K.IntKey.number_of L C k v
