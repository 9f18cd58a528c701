use Rattle.std.proofs.Common.{◌≡◌, ◌+◌, ◌-◌, ◌^◌, ◌≤◌, length}
use Rattle.std.specs.Iterator.{size}
use Rattle.std.specs.Prelude.{min}
use Rattle.intmap.specs.Room.{HasRoom}
use Rattle.intmap_set.specs.Extending.{IsExtended}
use Rattle.intmap_set.specs.Sets.{IsSet, as_map}
use Rattle.intmap_set.proofs.set.IntSet.extend.Given as goal

-- the keys so far are inserted in the set, and counted up to 2 ^ 64 - 1; the set is valid, as it was before; no more keys came than could, and if there was room for all, there is room for the rest
abbrev pub invariant-loop-key : goal.invariant-loop-key
invariant-loop-key g l =
    ((goal.iterator-loop-key g).can_next l.key-iterator × (goal.iterator-loop-key g).is_finite l.key-iterator)
    × IsExtended g.K.IntKey.number_of g.K.IntKey.is_valid l.fn.self l.yielded l.self
    × (l.applied ≡ min (length l.yielded) (2 ^ 64 - 1))
    × IsSet g.K.IntKey.number_of g.K.IntKey.is_valid l.self
    × IsSet g.K.IntKey.number_of g.K.IntKey.is_valid l.fn.self
    × (length l.yielded + (goal.iterator-loop-key g).remaining l.key-iterator ≤ size (g.I.Iterator.remaining l.fn.iter))
    × (HasRoom g.K.IntKey.number_of (as_map l.fn.self) (size (g.I.Iterator.remaining l.fn.iter)) → HasRoom g.K.IntKey.number_of (as_map l.self) (size (g.I.Iterator.remaining l.fn.iter) - length l.yielded))
