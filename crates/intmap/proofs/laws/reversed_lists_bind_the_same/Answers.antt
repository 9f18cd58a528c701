use Rattle.intmap.proofs.ReverseLemmas.{value_of-reverse}
use Rattle.intmap.proofs.laws.reversed_lists_bind_the_same.Goals as goal

pub returns : goal.returns
returns g c = value_of-reverse g.K.IntKey.number_of
