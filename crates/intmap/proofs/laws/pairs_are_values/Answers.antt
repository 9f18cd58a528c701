use Rattle.intmap.proofs.ContainsLemmas.{value_of-Contains, Contains-value_of}
use Rattle.intmap.proofs.laws.pairs_are_values.Goals as goal

pub returns-clause-value : goal.returns-clause-value
returns-clause-value g c = λ m k v is_map. value_of-Contains g.K.IntKey.number_of m.walk k v is_map.distinct

pub returns-clause-pair : goal.returns-clause-pair
returns-clause-pair g c = λ m k v is_map.
    Contains-value_of g.K.IntKey.number_of g.K.IntKey.is_valid g.met.K.IntKey.number_injective m.walk k v is_map.keys
