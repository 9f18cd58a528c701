use Rattle.std.proofs.Common.{◌+◌, ◌≤◌, length, vec_len, vec_capacity}
use Rattle.intmap_run.specs.Runs.{SeesPair}
use Rattle.intmap_run.proofs.ZipLemmas.{Completes}
use Rattle.intmap_run.proofs.runner.lists.look_all.Given as goal

-- what is seen so far goes with the pairs before those that are left, and the list has room for one more answer each
abbrev pub invariant-loop-key : goal.invariant-loop-key
invariant-loop-key g l = record {
  completes : Completes (SeesPair (g.J.Judge.sees l.judge)) l.map.walk l.seen.items l.key-iterator;
  room : vec_len l.seen + length l.key-iterator ≤ vec_capacity l.seen;
}
