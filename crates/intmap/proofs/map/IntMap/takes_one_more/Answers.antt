use Rattle.intmap.proofs.SpotLemmas.{TakesOneMore-told}
use Rattle.intmap.proofs.map.IntMap.takes_one_more.Goals as goal

pub returns : goal.returns
returns g c =
    rw (← c.self.view_is) (TakesOneMore-told c.self.inside.table.walk c.self.inside.table.capacity c.self.inside.factor c.self.inside.len c.self.inside.threshold c.self.invariant.map.capacity c.self.invariant.count c.self.invariant.threshold
    c.takes_one_more.result c.takes_one_more.ensures.value c.takes_one_more.ensures.fits)
