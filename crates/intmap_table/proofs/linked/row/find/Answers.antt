use Rattle.std.proofs.Common.{arith}
use Rattle.intmap_table.proofs.Nodes.PathLemmas.{NodeAt-limit}
use Rattle.intmap_table.proofs.linked.row.find.Goals as goal

pub overflow_add-result : goal.overflow_add-result
overflow_add-result g c = let limit = NodeAt-limit c.args.pool.now.nodes c.in-Some.link c.in-Ok.spot.place c.in-Ok.spot.at c.in-Ok.ensures.found.reached in omega (arith, limit)
