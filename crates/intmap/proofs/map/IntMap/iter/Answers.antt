use Rattle.intmap.proofs.IteratingLemmas.{shows_each}
use Rattle.intmap.proofs.map.IntMap.iter.Goals as goal

pub returns-clause-valid : goal.returns-clause-valid
returns-clause-valid g c = rw (← c.self.view_is) c.self.invariant.map

pub returns-clause-runs : goal.returns-clause-runs
returns-clause-runs g c = shows_each _
