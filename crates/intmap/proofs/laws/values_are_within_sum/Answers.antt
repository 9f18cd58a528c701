use Rattle.std.proofs.lemmas.Iterator.Adapters.{option_map_id}
use Rattle.intmap_table.specs.Bindings.{value_of}
use Rattle.intmap.proofs.UpdateSumLemmas.{sum_by-value_within}
use Rattle.intmap.proofs.laws.values_are_within_sum.Goals as goal

pub returns : goal.returns
returns g c = λ L k. rw (option_map_id (value_of g.K.IntKey.number_of L k)) at (sum_by-value_within g.K.IntKey.number_of (λ n. n) L k)
