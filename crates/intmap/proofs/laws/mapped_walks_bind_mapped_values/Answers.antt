use Rattle.intmap.proofs.ReverseLemmas.{value_of-mapped, HasDistinctKeys-mapped}
use Rattle.intmap.proofs.laws.mapped_walks_bind_mapped_values.Goals as goal

pub returns-clause-values : goal.returns-clause-values
returns-clause-values g c = value_of-mapped g.K.IntKey.number_of

pub returns-clause-distinct : goal.returns-clause-distinct
returns-clause-distinct g c = HasDistinctKeys-mapped g.K.IntKey.number_of
