use Rattle.intmap.proofs.ContainsLemmas.{IsAmong-shown}
use Rattle.intmap.proofs.map.IntMap.get.Goals as goal

pub returns-clause-member : goal.returns-clause-member
returns-clause-member g c = IsAmong-shown g.K.IntKey.number_of _ _ _ c.get_counted.ensures.value
