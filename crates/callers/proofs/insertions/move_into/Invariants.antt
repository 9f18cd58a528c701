use Rattle.std.proofs.Common.{◌+◌, ◌≤◌, ◌++◌, length, vec_len}
use Rattle.std.specs.Prelude.{vec_capacity}
use Rattle.callers.specs.Bindings.{Moves, pairs_of}
use Rattle.callers.proofs.insertions.move_into.Given as goal

abbrev pub invariant-loop-key : goal.invariant-loop-key
invariant-loop-key g l = record {
  room : length l.waiting.items + length l.pairs.items ≤ vec_capacity l.waiting;
  moved : Moves (pairs_of l.fn.waiting.items ++ l.fn.pairs.items) l.fn.map.walk (pairs_of l.waiting.items ++ l.pairs.items) l.map.walk;
}

abbrev pub decreases-loop-key : goal.decreases-loop-key
decreases-loop-key g l = vec_len l.pairs
