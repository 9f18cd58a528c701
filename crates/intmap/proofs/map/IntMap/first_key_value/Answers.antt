use Rattle.std.proofs.Common.{arith}
use Rattle.intmap.proofs.map.IntMap.first_key_value.Goals as goal

pub returns-clause-value : goal.returns-clause-value
returns-clause-value g c = let walk = c.iter.ensures.walk in let step = c.next.ensures.steps in grind (arith, walk, step)
