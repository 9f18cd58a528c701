use Rattle.std.proofs.Common.{◌∙◌, None, refl, rules, sym}
use Rattle.intmap_set.proofs.MemberLemmas.{IsSet-seen, Updates-seen}
use Rattle.intmap_set.proofs.ExtractLemmas.{before-seen, next-seen, none-seen, passed-seen}
use Rattle.intmap_set.proofs.set.IntSet.cut.Goals as goal

pub returns-in_default-clause-first : goal.returns-in_default-clause-first
returns-in_default-clause-first g c = none-seen g.K.IntKey.number_of c.self.inside.map _ c.self.view_is c.self.invariant c.args.at.now c.in_default.ensures.first

pub returns-in_default-clause-before : goal.returns-in_default-clause-before
returns-in_default-clause-before g c =
    before-seen g.K.IntKey.number_of c.self.inside.map _ c.self.view_is c.self.invariant c.cut.new.self _ refl (search rules) c.args.at.now c.cut.new.at c.cut.ensures.before

pub returns-in_default-clause-passed : goal.returns-in_default-clause-passed
returns-in_default-clause-passed g c =
    sym (passed-seen g.K.IntKey.number_of c.cut.new.self _ refl (search rules) c.cut.new.at) ∙ c.cut.ensures.passed
    ∙ passed-seen g.K.IntKey.number_of c.self.inside.map _ c.self.view_is c.self.invariant c.args.at.now

pub returns-in_default-clause-valid : goal.returns-in_default-clause-valid
returns-in_default-clause-valid g c = IsSet-seen _ _ c.self.inside.map _ c.self.view_is c.self.invariant c.cut.ensures.valid

pub returns-in_default-clause-valid_after : goal.returns-in_default-clause-valid_after
returns-in_default-clause-valid_after g c = IsSet-seen _ _ c.cut.new.self _ refl (search rules) c.cut.ensures.valid_after

pub returns-clause-first : goal.returns-clause-first
returns-clause-first g c =
    next-seen g.K.IntKey.number_of c.self.inside.map _ c.self.view_is c.self.invariant c.cut.new.self _ refl (search rules) c.args.at.now c.cut.new.at
    _ c.in-Some.ensures.first

pub returns-clause-before : goal.returns-clause-before
returns-clause-before g c =
    before-seen g.K.IntKey.number_of c.self.inside.map _ c.self.view_is c.self.invariant c.cut.new.self _ refl (search rules) c.args.at.now c.cut.new.at c.cut.ensures.before

pub returns-clause-passed : goal.returns-clause-passed
returns-clause-passed g c =
    sym (passed-seen g.K.IntKey.number_of c.cut.new.self _ refl (search rules) c.cut.new.at) ∙ c.cut.ensures.passed
    ∙ passed-seen g.K.IntKey.number_of c.self.inside.map _ c.self.view_is c.self.invariant c.args.at.now

pub returns-clause-updates : goal.returns-clause-updates
returns-clause-updates g c = Updates-seen _ c.self.inside.map c.cut.new.self _ _ None c.self.view_is c.in-Some.ensures.updates

pub returns-clause-valid : goal.returns-clause-valid
returns-clause-valid g c = IsSet-seen _ _ c.self.inside.map _ c.self.view_is c.self.invariant c.cut.ensures.valid

pub returns-clause-valid_after : goal.returns-clause-valid_after
returns-clause-valid_after g c = IsSet-seen _ _ c.cut.new.self _ refl (search rules) c.cut.ensures.valid_after
