use Rattle.std.proofs.Common.{◌≡◌}
use Rattle.intmap.specs.Equality.{maps_equal}
use Rattle.intmap.proofs.EqualityLemmas.{are_found}
use Rattle.intmap.proofs.map.traits.IntMapPartialEq.eq.Given as goal

-- the maps are equal if and only if each pair that is left is found in the other map, with an equal value
abbrev pub invariant-loop-key : goal.invariant-loop-key
invariant-loop-key g l = record {
  left : maps_equal g.K.IntKey.number_of g.V.PartialEq.eq l.self l.other ≡ are_found g.K.IntKey.number_of g.V.PartialEq.eq l.key-iterator l.other.walk;
}
