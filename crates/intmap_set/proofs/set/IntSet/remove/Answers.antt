use Rattle.std.proofs.Common.{◌∙◌, sym, ap, refl, rules}
use Rattle.std.specs.Prelude.{is_some}
use Rattle.intmap_set.proofs.MemberLemmas.{IsSet-seen, holds-seen, Updates-seen}
use Rattle.intmap_set.proofs.CallLemmas.{after_remove-seen}
use Rattle.intmap_set.proofs.set.IntSet.remove.Goals as goal

pub returns-clause-value : goal.returns-clause-value
returns-clause-value g c = c.is_some.ensures ∙ ap is_some c.remove.ensures.value ∙ sym (holds-seen _ c.self.inside.map _ _ c.self.view_is)

pub returns-clause-state : goal.returns-clause-state
returns-clause-state g c = after_remove-seen _ c.self.inside.map c.remove.new.self _ c.self.view_is c.self.invariant _ c.remove.ensures.state

pub returns-clause-updates : goal.returns-clause-updates
returns-clause-updates g c = Updates-seen _ c.self.inside.map c.remove.new.self _ _ _ c.self.view_is c.remove.ensures.updates

pub returns-clause-valid : goal.returns-clause-valid
returns-clause-valid g c = IsSet-seen _ _ c.self.inside.map _ c.self.view_is c.self.invariant c.remove.ensures.valid

pub returns-clause-valid_after : goal.returns-clause-valid_after
returns-clause-valid_after g c = IsSet-seen _ _ c.remove.new.self _ refl (search rules) c.remove.ensures.valid_after
