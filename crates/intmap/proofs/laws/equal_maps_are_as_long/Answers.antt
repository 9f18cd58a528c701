use Rattle.intmap.proofs.EqualityLemmas.{length-maps_equal}
use Rattle.intmap.proofs.laws.equal_maps_are_as_long.Goals as goal

pub returns : goal.returns
returns g c = length-maps_equal g.K.IntKey.number_of g.V.PartialEq.eq
