use Rattle.std.proofs.Common.{◌≡◌, ◌≤◌, ◌++◌, length, vec_len, vec_capacity}
use Rattle.intmap.specs.Draining.{drain_rest, drained_map, drain_lender}
use Rattle.intmap.specs.Map.{with_walk}
use Rattle.intmap_run.proofs.runner.lists.take_front.Given as goal

-- the pairs so far are the front of the walk, the map has the others, and the list has room for all that are wanted
abbrev pub invariant-loop : goal.invariant-loop
invariant-loop g l = record {
  front : l.pairs.items ++ drain_rest l.drain ≡ l.fn.map.walk;
  map : drained_map l.drain ≡ with_walk l.fn.map (drain_rest l.drain);
  lender : drain_lender l.drain ≡ drain_lender l.initial.drain;
  count : vec_len l.pairs ≡ l.counter;
  room : l.taken ≤ vec_capacity l.pairs;
  few : l.taken ≤ length l.fn.map.walk;
}
