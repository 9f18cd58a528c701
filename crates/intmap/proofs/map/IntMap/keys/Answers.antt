use Rattle.intmap.proofs.IteratingLemmas.{shows_each}
use Rattle.intmap.proofs.map.IntMap.keys.Goals as goal

pub returns-clause-runs : goal.returns-clause-runs
returns-clause-runs g c = shows_each _
