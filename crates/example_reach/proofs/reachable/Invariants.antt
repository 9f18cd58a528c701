use Rattle.example_reach.specs.Reached.{IsReaching}
use Rattle.example_reach.proofs.reachable.Given as goal

abbrev pub invariant-loop : goal.invariant-loop
invariant-loop l = IsReaching l.edges.walk l.start l.visited.walk l.waiting.items
