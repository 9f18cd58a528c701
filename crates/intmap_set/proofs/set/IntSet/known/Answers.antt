use Rattle.intmap_set.proofs.MemberLemmas.{IsSet-seen}
use Rattle.intmap_set.proofs.set.IntSet.known.Goals as goal

pub returns : goal.returns
returns g c = record { valid = IsSet-seen _ _ c.self.inside.map _ c.self.view_is c.self.invariant c.len-len.ensures.valid }
