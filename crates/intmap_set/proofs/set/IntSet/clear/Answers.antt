use Rattle.intmap_set.proofs.MemberLemmas.{IsSet-seen}
use Rattle.intmap_set.proofs.set.IntSet.clear.Goals as goal

pub returns-clause-valid : goal.returns-clause-valid
returns-clause-valid g c = IsSet-seen _ _ c.self.inside.map _ c.self.view_is c.self.invariant c.clear.ensures.valid
