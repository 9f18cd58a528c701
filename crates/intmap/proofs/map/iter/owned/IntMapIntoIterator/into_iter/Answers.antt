use Rattle.intmap.proofs.IteratingLemmas.{gives_each}
use Rattle.intmap.proofs.map.iter.owned.IntMapIntoIterator.into_iter.Goals as goal

pub returns-clause-runs : goal.returns-clause-runs
returns-clause-runs g c = gives_each _
