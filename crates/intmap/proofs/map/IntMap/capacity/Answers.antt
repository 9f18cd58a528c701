use Rattle.intmap.proofs.map.IntMap.capacity.Goals as goal

pub returns-clause-valid : goal.returns-clause-valid
returns-clause-valid g c = rw (← c.self.view_is) c.self.invariant.map
