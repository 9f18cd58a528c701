use Rattle.std.proofs.Common.{◌∙◌, ◌+◌, sym, ap}
use Rattle.intmap_set.proofs.MemberLemmas.{IsSet-seen}
use Rattle.intmap_set.proofs.ExtractLemmas.{next-seen, none-seen, passed-seen}
use Rattle.intmap_set.proofs.set.IntSet.step.Goals as goal

pub returns-in_default-clause-first : goal.returns-in_default-clause-first
returns-in_default-clause-first g c = none-seen g.K.IntKey.number_of c.self.inside.map _ c.self.view_is c.self.invariant c.args.at.now c.in_default.ensures.first

pub returns-in_default-clause-valid : goal.returns-in_default-clause-valid
returns-in_default-clause-valid g c = IsSet-seen _ _ c.self.inside.map _ c.self.view_is c.self.invariant c.step.ensures.valid

pub returns-clause-first : goal.returns-clause-first
returns-clause-first g c =
    next-seen g.K.IntKey.number_of c.self.inside.map _ c.self.view_is c.self.invariant c.self.inside.map _ c.self.view_is c.self.invariant c.args.at.now c.step.new.at
    (c.in-Some.key.now, tt) c.in-Some.ensures.first

pub returns-clause-passed : goal.returns-clause-passed
returns-clause-passed g c =
    sym (passed-seen g.K.IntKey.number_of c.self.inside.map _ c.self.view_is c.self.invariant c.step.new.at) ∙ c.in-Some.ensures.passed
    ∙ ap (λ n. n + 1) (passed-seen g.K.IntKey.number_of c.self.inside.map _ c.self.view_is c.self.invariant c.args.at.now)

pub returns-clause-valid : goal.returns-clause-valid
returns-clause-valid g c = IsSet-seen _ _ c.self.inside.map _ c.self.view_is c.self.invariant c.step.ensures.valid
