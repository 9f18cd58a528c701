use Rattle.std.proofs.Common.{refl, rules}
use Rattle.std.proofs.lemmas.Result.{on_ok_weaker}
use Rattle.intmap_set.proofs.MemberLemmas.{IsSet-seen, same-seen}
use Rattle.intmap_set.proofs.CallLemmas.{IsReservation-seen, MayRefuseReserve-seen}
use Rattle.intmap_set.proofs.set.IntSet.reserve.Goals as goal

pub returns-clause-reserved : goal.returns-clause-reserved
returns-clause-reserved g c = on_ok_weaker c.reserve.result (IsReservation-seen g.K.IntKey.number_of c.self.inside.map c.reserve.new.self _ c.self.view_is c.self.invariant _) c.reserve.ensures.reserved

pub returns-clause-refused : goal.returns-clause-refused
returns-clause-refused g c = MayRefuseReserve-seen g.K.IntKey.number_of c.self.inside.map c.reserve.new.self _ c.self.view_is c.self.invariant _ c.reserve.result c.reserve.ensures.refused

pub returns-clause-updates : goal.returns-clause-updates
returns-clause-updates g c = same-seen _ c.self.inside.map c.reserve.new.self _ c.self.view_is c.reserve.ensures.updates

pub returns-clause-valid : goal.returns-clause-valid
returns-clause-valid g c = IsSet-seen _ _ c.self.inside.map _ c.self.view_is c.self.invariant c.reserve.ensures.valid

pub returns-clause-valid_after : goal.returns-clause-valid_after
returns-clause-valid_after g c = IsSet-seen _ _ c.reserve.new.self _ refl (search rules) c.reserve.ensures.valid_after
