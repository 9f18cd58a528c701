use Rattle.std.proofs.Common.{refl, rules}
use Rattle.std.proofs.lemmas.Result.{on_ok_weaker}
use Rattle.intmap_set.proofs.MemberLemmas.{IsSet-seen, same-seen}
use Rattle.intmap_set.proofs.CallLemmas.{HasRoom-seen, HasRoomInRow-seen, IsRoomMade-seen, NeedsTooMuchRoom-seen}
use Rattle.intmap_set.proofs.set.IntSet.reserve_insertions.Goals as goal

pub returns-clause-reserved : goal.returns-clause-reserved
returns-clause-reserved g c = on_ok_weaker c.reserve_insertions.result (IsRoomMade-seen g.K.IntKey.number_of c.self.inside.map c.reserve_insertions.new.self _ c.self.view_is c.self.invariant _) c.reserve_insertions.ensures.reserved

pub returns-clause-room : goal.returns-clause-room
returns-clause-room g c = on_ok_weaker c.reserve_insertions.result (HasRoomInRow-seen g.K.IntKey.number_of c.reserve_insertions.new.self c.reserve_insertions.new.self _ refl (search rules) _) c.reserve_insertions.ensures.room

pub returns-clause-any : goal.returns-clause-any
returns-clause-any g c = on_ok_weaker c.reserve_insertions.result (HasRoom-seen g.K.IntKey.number_of c.reserve_insertions.new.self c.reserve_insertions.new.self _ refl (search rules) _) c.reserve_insertions.ensures.any

pub returns-clause-too_large : goal.returns-clause-too_large
returns-clause-too_large g c = NeedsTooMuchRoom-seen g.K.IntKey.number_of c.self.inside.map c.reserve_insertions.new.self _ c.self.view_is c.self.invariant _ c.reserve_insertions.ensures.too_large

pub returns-clause-updates : goal.returns-clause-updates
returns-clause-updates g c = same-seen _ c.self.inside.map c.reserve_insertions.new.self _ c.self.view_is c.reserve_insertions.ensures.updates

pub returns-clause-valid : goal.returns-clause-valid
returns-clause-valid g c = IsSet-seen _ _ c.self.inside.map _ c.self.view_is c.self.invariant c.reserve_insertions.ensures.valid

pub returns-clause-valid_after : goal.returns-clause-valid_after
returns-clause-valid_after g c = IsSet-seen _ _ c.reserve_insertions.new.self _ refl (search rules) c.reserve_insertions.ensures.valid_after
