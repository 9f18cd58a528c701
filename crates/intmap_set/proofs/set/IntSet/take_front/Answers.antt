use Rattle.std.proofs.Common.{refl, rules}
use Rattle.intmap_set.proofs.MemberLemmas.{IsSet-seen}
use Rattle.intmap_set.proofs.CallLemmas.{ArePassed-seen, seen-ArePassed}
use Rattle.intmap_set.proofs.set.IntSet.take_front.Goals as goal

pub take_front-requires : goal.take_front-requires
take_front-requires g c = seen-ArePassed g.K.IntKey.number_of c.self.inside.map c.self.inside.map _ c.self.view_is c.self.invariant c.args.from.now c.requires

pub returns-clause-passed : goal.returns-clause-passed
returns-clause-passed g c = ArePassed-seen g.K.IntKey.number_of c.take_front.new.self c.take_front.new.self _ refl (search rules) c.take_front.new.from c.take_front.ensures.passed

pub returns-clause-valid : goal.returns-clause-valid
returns-clause-valid g c = IsSet-seen _ _ c.self.inside.map _ c.self.view_is c.self.invariant c.take_front.ensures.valid

pub returns-clause-valid_after : goal.returns-clause-valid_after
returns-clause-valid_after g c = IsSet-seen _ _ c.take_front.new.self _ refl (search rules) c.take_front.ensures.valid_after
