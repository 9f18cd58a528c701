use Rattle.std.proofs.lemmas.Iterator.Adapters.{option_map_id}
use Rattle.intmap_table.specs.Bindings.{value_of}
use Rattle.intmap.proofs.SumLemmas.{sum_by-put_pair}
use Rattle.intmap.proofs.laws.insertion_raises_sum.Goals as goal

pub returns : goal.returns
returns g c = λ L C k v. rw (option_map_id (value_of g.K.IntKey.number_of L k)) at (sum_by-put_pair g.K.IntKey.number_of (λ n. n) L C k v)
