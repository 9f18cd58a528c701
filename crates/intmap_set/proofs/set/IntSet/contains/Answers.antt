use Rattle.std.proofs.Common.{◌∙◌, sym}
use Rattle.intmap_set.proofs.MemberLemmas.{IsSet-seen, holds-seen}
use Rattle.intmap_set.proofs.set.IntSet.contains.Goals as goal

pub returns-clause-value : goal.returns-clause-value
returns-clause-value g c = c.contains_key.ensures.value ∙ sym (holds-seen _ c.self.inside.map _ _ c.self.view_is)

pub returns-clause-valid : goal.returns-clause-valid
returns-clause-valid g c = IsSet-seen _ _ c.self.inside.map _ c.self.view_is c.self.invariant c.contains_key.ensures.valid
