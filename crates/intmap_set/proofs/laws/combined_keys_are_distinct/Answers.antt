use Rattle.intmap_set.proofs.DistinctLemmas.{HasDistinctKeys-difference_of, HasDistinctKeys-intersection_of, HasDistinctKeys-symmetric_difference_of, HasDistinctKeys-union_of}
use Rattle.intmap_set.proofs.laws.combined_keys_are_distinct.Goals as goal

pub returns : goal.returns
returns g c = record {
  difference = HasDistinctKeys-difference_of g.K.IntKey.number_of;
  intersection = HasDistinctKeys-intersection_of g.K.IntKey.number_of;
  union = HasDistinctKeys-union_of g.K.IntKey.number_of;
  symmetric_difference = HasDistinctKeys-symmetric_difference_of g.K.IntKey.number_of;
}
