use Rattle.std.proofs.Common.{◌+◌, ◌≤◌, length, vec_len, vec_capacity}
use Rattle.std.specs.Map.{values_of}
use Rattle.intmap_run.proofs.ZipLemmas.{Completes}
use Rattle.intmap_run.proofs.runner.lists.look_at_values.Given as goal

-- what is seen so far goes with the values before those that are left, and the list has room for one more answer each
abbrev pub invariant-loop-value : goal.invariant-loop-value
invariant-loop-value g l = record {
  completes : Completes (g.J.Judge.sees l.judge) (values_of l.map.walk) l.seen.items l.value-iterator;
  room : vec_len l.seen + length l.value-iterator ≤ vec_capacity l.seen;
}
