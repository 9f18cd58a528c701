use Rattle.std.proofs.Common.{refl, lit≤, lit<}
use Rattle.intmap.proofs.map.IntMap.new.Goals as goal

pub of_slots-requires : goal.of_slots-requires
of_slots-requires g c = (2, lit≤ tt, lit< tt, refl)
