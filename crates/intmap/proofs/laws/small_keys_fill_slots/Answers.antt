use Rattle.intmap.proofs.CostLemmas.{load_of-below}
use Rattle.intmap.proofs.laws.small_keys_fill_slots.Goals as goal

pub returns : goal.returns
returns g c = λ L C once below. load_of-below g.K.IntKey.number_of L C once below
