use Rattle.std.proofs.lemmas.Iterator.{items_from_collect}
use Rattle.std.proofs.lemmas.Iterator.Consumers.{YieldsList-from_first}
use Rattle.callers.proofs.walks.hand_out.Goals as goal

-- an iterator is the list that it has left, and that is what is collected
pub returns : goal.returns
returns g c = items_from_collect _ c.collect.ensures.ran (YieldsList-from_first (λ pair. pair) (λ rest. rest) _ c.into_iter.ensures.into_iter_gives)
