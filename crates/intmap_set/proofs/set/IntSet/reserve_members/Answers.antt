use Rattle.std.proofs.Common.{refl, rules}
use Rattle.std.proofs.lemmas.Result.{on_ok_weaker}
use Rattle.intmap_set.proofs.MemberLemmas.{IsSet-seen, same-seen}
use Rattle.intmap_set.proofs.CallLemmas.{HasRoomInRow-seen, IsRoomMade-seen, MayRefuseRoom-seen}
use Rattle.intmap_set.proofs.set.IntSet.reserve_members.Goals as goal

pub returns-clause-reserved : goal.returns-clause-reserved
returns-clause-reserved g c = on_ok_weaker c.reserve_pairs.result (IsRoomMade-seen g.K.IntKey.number_of c.self.inside.map c.reserve_pairs.new.self _ c.self.view_is c.self.invariant _) c.reserve_pairs.ensures.reserved

pub returns-clause-room : goal.returns-clause-room
returns-clause-room g c = on_ok_weaker c.reserve_pairs.result (HasRoomInRow-seen g.K.IntKey.number_of c.reserve_pairs.new.self c.reserve_pairs.new.self _ refl (search rules) _) c.reserve_pairs.ensures.room

pub returns-clause-refused : goal.returns-clause-refused
returns-clause-refused g c = MayRefuseRoom-seen g.K.IntKey.number_of c.self.inside.map c.reserve_pairs.new.self _ c.self.view_is c.self.invariant _ c.reserve_pairs.result c.reserve_pairs.ensures.refused

pub returns-clause-updates : goal.returns-clause-updates
returns-clause-updates g c = same-seen _ c.self.inside.map c.reserve_pairs.new.self _ c.self.view_is c.reserve_pairs.ensures.updates

pub returns-clause-valid : goal.returns-clause-valid
returns-clause-valid g c = IsSet-seen _ _ c.self.inside.map _ c.self.view_is c.self.invariant c.reserve_pairs.ensures.valid

pub returns-clause-valid_after : goal.returns-clause-valid_after
returns-clause-valid_after g c = IsSet-seen _ _ c.reserve_pairs.new.self _ refl (search rules) c.reserve_pairs.ensures.valid_after
