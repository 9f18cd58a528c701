use Rattle.std.proofs.Common.{◌≡◌, length}
use Rattle.intmap_set.specs.Combined.{common_of}
use Rattle.intmap_set.proofs.set.iter.combined.IntersectionIterator.next.Given as goal

-- what is left to give is the same before and after a step that gives nothing
abbrev pub invariant-loop-key : goal.invariant-loop-key
invariant-loop-key g l =
    common_of g.K.IntKey.number_of l.initial.self-inside.keys l.initial.self-inside.other.now.walk
    ≡ common_of g.K.IntKey.number_of l.self-inside.keys l.self-inside.other.now.walk

abbrev pub decreases-loop-key : goal.decreases-loop-key
decreases-loop-key g l = length l.self-inside.keys
