use Rattle.std.proofs.Common.{◌≡◌, ◌++◌, length}
use Rattle.intmap.specs.Draining.{drain_rest, drained_map, drain_lender}
use Rattle.intmap.specs.Map.{with_walk}
use Rattle.callers.proofs.retained.work_off.Given as goal

abbrev pub invariant-loop-left : goal.invariant-loop-left
invariant-loop-left g l = record {
  jobs : l.done.items ++ drain_rest l.jobs ≡ l.fn.done.items ++ l.fn.queue.walk;
  map : drained_map l.jobs ≡ with_walk l.fn.queue (drain_rest l.jobs);
  lender : drain_lender l.jobs ≡ drain_lender l.initial.jobs;
  left : l.left ≡ length (drain_rest l.jobs);
}

abbrev pub decreases-loop-left : goal.decreases-loop-left
decreases-loop-left g l = l.left
