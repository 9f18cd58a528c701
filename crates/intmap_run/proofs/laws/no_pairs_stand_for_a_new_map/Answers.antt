use Rattle.std.proofs.Common.{[], refl, lit<}
use Rattle.intmap.proofs.MapLemmas.{IsMapWalk-empty}
use Rattle.intmap_run.proofs.laws.no_pairs_stand_for_a_new_map.Goals as goal

pub returns : goal.returns
returns g c = λ C capacity. record {
  walk = (IsMapWalk-empty g.K.IntKey.number_of g.K.IntKey.is_valid [] C 909 refl capacity (lit< tt)).own;
  capacity = refl;
  factor = refl;
  placed = refl;
  compared = refl;
}
