use Rattle.std.proofs.Common.{◌≡◌, ℕ, ◌+◌, ◌∙◌, Bool, true, false, cond, is_some, length, sym, ap, refl, rules}
use Rattle.std.specs.Prelude.{not}
use Rattle.intmap_set.proofs.MemberLemmas.{IsSet-seen, holds-seen, not-is_some}
use Rattle.intmap_set.proofs.CallLemmas.{Inserts-seen, NeedsNoMemory-seen, RefusalIsDue-seen, looked_up-seen, on_err_given, seen-HasRoom, state-seen}
use Rattle.intmap_set.proofs.set.IntSet.insert.Goals as goal

cond-not : (b : Bool) → cond {A = ℕ} b 0 1 ≡ cond (not b) 1 0
cond-not true = refl
cond-not false = refl

pub returns-in_err-insert_checked-clause-err : goal.returns-in_err-insert_checked-clause-err
returns-in_err-insert_checked-clause-err g c =
    on_err_given c.from_residual.result (looked_up-seen _ c.self.inside.map c.insert_checked.new.self _ c.self.view_is c.self.invariant _ c.in_err-insert_checked.ensures.err)

pub returns-in_err-insert_checked-clause-absent : goal.returns-in_err-insert_checked-clause-absent
returns-in_err-insert_checked-clause-absent g c =
    on_err_given c.from_residual.result (holds-seen _ c.self.inside.map _ _ c.self.view_is ∙ ap is_some c.in_err-insert_checked.ensures.absent)

pub returns-in_err-insert_checked-clause-refused : goal.returns-in_err-insert_checked-clause-refused
returns-in_err-insert_checked-clause-refused g c =
    RefusalIsDue-seen _ c.self.inside.map c.insert_checked.new.self _ c.self.view_is c.self.invariant _ c.from_residual.result _ c.from_residual.ensures.1 c.in_err-insert_checked.ensures.refused

pub returns-in_err-insert_checked-clause-succeeds : goal.returns-in_err-insert_checked-clause-succeeds
returns-in_err-insert_checked-clause-succeeds g c free =
    let ok = c.in_err-insert_checked.ensures.succeeds (NeedsNoMemory-seen _ c.self.inside.map c.insert_checked.new.self _ c.self.view_is c.self.invariant _ free) in cc

pub returns-in_err-insert_checked-clause-has_room : goal.returns-in_err-insert_checked-clause-has_room
returns-in_err-insert_checked-clause-has_room g c room =
    let ok = c.in_err-insert_checked.ensures.has_room (seen-HasRoom _ c.self.inside.map c.insert_checked.new.self _ c.self.view_is c.self.invariant _ room) in cc

pub returns-in_err-insert_checked-clause-valid : goal.returns-in_err-insert_checked-clause-valid
returns-in_err-insert_checked-clause-valid g c = IsSet-seen _ _ c.self.inside.map _ c.self.view_is c.self.invariant c.insert_checked.ensures.valid

pub returns-in_err-insert_checked-clause-valid_after : goal.returns-in_err-insert_checked-clause-valid_after
returns-in_err-insert_checked-clause-valid_after g c = IsSet-seen _ _ c.insert_checked.new.self _ refl (search rules) c.insert_checked.ensures.valid_after

pub returns-clause-new : goal.returns-clause-new
returns-clause-new g c = c.in_ok-insert_checked.ensures.new ∙ not-is_some _ ∙ ap not (sym (holds-seen _ c.self.inside.map _ _ c.self.view_is))

pub returns-clause-inserted : goal.returns-clause-inserted
returns-clause-inserted g c =
    let e = c.in_ok-insert_checked.ensures in
    Inserts-seen _ c.self.inside.map c.insert_checked.new.self _ c.self.view_is c.self.invariant _ _ _ e.new e.state e.inserted

pub returns-clause-updates : goal.returns-clause-updates
returns-clause-updates g c = (returns-clause-inserted g c).updates

-- one more by whether the key is new
pub returns-clause-len : goal.returns-clause-len
returns-clause-len g c = (returns-clause-inserted g c).len ∙ ap (λ n. length c.args.self.now.walk + n) (cond-not _ ∙ ap (λ b. cond b 1 0) (sym (returns-clause-new g c)))

pub returns-clause-state : goal.returns-clause-state
returns-clause-state g c =
    state-seen g.K.IntKey.number_of c.self.inside.map c.insert_checked.new.self _ c.self.view_is c.self.invariant _ _ c.in_ok-insert_checked.ensures.state

pub returns-clause-valid : goal.returns-clause-valid
returns-clause-valid g c = IsSet-seen _ _ c.self.inside.map _ c.self.view_is c.self.invariant c.insert_checked.ensures.valid

pub returns-clause-valid_after : goal.returns-clause-valid_after
returns-clause-valid_after g c = IsSet-seen _ _ c.insert_checked.new.self _ refl (search rules) c.insert_checked.ensures.valid_after
