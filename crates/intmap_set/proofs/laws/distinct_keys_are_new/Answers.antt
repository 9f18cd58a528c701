use Rattle.intmap_set.proofs.DistinctLemmas.{new_keys-distinct}
use Rattle.intmap_set.proofs.laws.distinct_keys_are_new.Goals as goal

pub returns : goal.returns
returns g c = new_keys-distinct g.K.IntKey.number_of
