use Rattle.std.proofs.Common.{◌↔◌, length}
use Rattle.intmap.specs.Disjoint.{AreDistinct}
use Rattle.intmap.proofs.map.iter.disjoint.are_distinct.Given as goal

abbrev pub invariant-loop-key : goal.invariant-loop-key
invariant-loop-key g l = AreDistinct g.K.IntKey.number_of l.left ↔ AreDistinct g.K.IntKey.number_of l.keys

abbrev pub decreases-loop-key : goal.decreases-loop-key
decreases-loop-key g l = length l.left
