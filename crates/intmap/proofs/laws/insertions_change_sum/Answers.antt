use Rattle.std.proofs.Common.{Some}
use Rattle.std.proofs.lemmas.Iterator.Adapters.{option_map_id}
use Rattle.intmap_table.specs.Bindings.{value_of}
use Rattle.intmap.proofs.UpdateSumLemmas.{sum_by-Updates}
use Rattle.intmap.proofs.laws.insertions_change_sum.Goals as goal

pub returns : goal.returns
returns g c = λ m n k v is_map inserted.
    let number = g.K.IntKey.number_of in
    rw (option_map_id (value_of number m.walk k)) at (sum_by-Updates number (λ n. n) m.walk n.walk k (Some v) is_map.distinct inserted.valid.distinct inserted.updates)
