use Rattle.std.proofs.lemmas.Iterator.Adapters.{option_map_id}
use Rattle.intmap_table.specs.Bindings.{value_of}
use Rattle.intmap.proofs.UpdateSumLemmas.{sum_by-Updates}
use Rattle.intmap.proofs.laws.updates_change_sum.Goals as goal

pub returns : goal.returns
returns g c = λ L M k w once distinct updates.
    rw (option_map_id (value_of g.K.IntKey.number_of L k), option_map_id w) at (sum_by-Updates g.K.IntKey.number_of (λ n. n) L M k w once distinct updates)
