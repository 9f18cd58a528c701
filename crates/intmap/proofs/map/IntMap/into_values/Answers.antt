use Rattle.intmap.proofs.IteratingLemmas.{gives_each}
use Rattle.intmap.proofs.map.IntMap.into_values.Goals as goal

pub returns-clause-runs : goal.returns-clause-runs
returns-clause-runs g c = gives_each _
