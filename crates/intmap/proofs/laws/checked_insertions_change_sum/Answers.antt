use Rattle.std.proofs.Common.{Some}
use Rattle.std.specs.Prelude.{unwrap_or}
use Rattle.std.proofs.lemmas.Iterator.Adapters.{option_map_id}
use Rattle.intmap_table.specs.Bindings.{value_of}
use Rattle.intmap.proofs.UpdateSumLemmas.{sum_by-Updates, sum-new_alone}
use Rattle.intmap.proofs.laws.checked_insertions_change_sum.Goals as goal

pub returns : goal.returns
returns g c = λ m n k v is_map inserted.
    let number = g.K.IntKey.number_of in
    let old = value_of number m.walk k in
    sum-new_alone old _ _ v
    (rw (option_map_id (value_of g.K.IntKey.number_of m.walk k)) at (sum_by-Updates number (λ n. n) m.walk n.walk k (Some (unwrap_or old v)) is_map.distinct inserted.valid.distinct inserted.updates))
