use Rattle.std.proofs.Common.{◌+◌, ◌≤◌, reverse, vec_len, vec_capacity}
use Rattle.intmap.specs.Map.{IsMap}
use Rattle.intmap_run.proofs.RoomLemmas.{KeptSoFar}
use Rattle.intmap_run.proofs.RunLemmas.{Leads}
use Rattle.intmap_run.proofs.runner.run.Given as goal

-- a run over the commands that are left ends a run over all of them, no insertion failed if there was room, and the list has room for one more answer each
abbrev pub invariant-loop-command : goal.invariant-loop-command
invariant-loop-command g l = record {
  leads :
      Leads g.K.IntKey.number_of (g.J.Judge.sees l.judge) (g.J.Judge.keeps l.judge)
      l.fn.map l.fn.commands.items l.answers.items l.map (reverse l.left.items);
  kept : KeptSoFar g.K.IntKey.number_of l.fn.map l.fn.commands.items l.answers.items l.map (reverse l.left.items);
  map : IsMap g.K.IntKey.number_of g.K.IntKey.is_valid l.map;
  room : vec_len l.answers + vec_len l.left ≤ vec_capacity l.answers;
}

abbrev pub decreases-loop-command : goal.decreases-loop-command
decreases-loop-command g l = vec_len l.left
