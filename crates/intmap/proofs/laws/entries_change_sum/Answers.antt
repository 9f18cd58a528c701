use Rattle.std.proofs.Common.{Some}
use Rattle.std.proofs.lemmas.Iterator.Adapters.{option_map_id}
use Rattle.intmap_table.specs.Bindings.{value_of}
use Rattle.intmap.specs.Entries.{entry_map, entry_key, map_with_value}
use Rattle.intmap.proofs.UpdateSumLemmas.{sum_by-Updates}
use Rattle.intmap.proofs.laws.entries_change_sum.Goals as goal

pub returns : goal.returns
returns g c = λ entry v is_map inserted.
    let number = g.K.IntKey.number_of in
    rw (option_map_id (value_of number (entry_map entry).walk (entry_key entry))) at (sum_by-Updates number (λ n. n) (entry_map entry).walk (map_with_value entry v).walk (entry_key entry) (Some v) is_map.distinct inserted.valid.distinct inserted.updates)
