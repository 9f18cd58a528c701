use Rattle.std.proofs.Common.{refl, rules}
use Rattle.intmap_set.proofs.MemberLemmas.{IsSet-seen}
use Rattle.intmap_set.proofs.set.IntSet.clone.Goals as goal

pub returns-in_err-clone-clause-valid : goal.returns-in_err-clone-clause-valid
returns-in_err-clone-clause-valid g c = IsSet-seen _ _ c.self.inside.map _ c.self.view_is c.self.invariant c.clone.ensures.valid

pub returns-clause-valid : goal.returns-clause-valid
returns-clause-valid g c = IsSet-seen _ _ c.self.inside.map _ c.self.view_is c.self.invariant c.clone.ensures.valid

pub returns-clause-valid_after : goal.returns-clause-valid_after
returns-clause-valid_after g c = IsSet-seen _ _ c.in_ok-clone.field-0 _ refl (search rules) c.in_ok-clone.ensures.valid_after
