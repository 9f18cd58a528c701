use Rattle.std.proofs.Common.{arith}
use Rattle.intmap.proofs.CostLemmas.{reach-within_class, class_size-below}
use Rattle.intmap.proofs.laws.small_keys_are_found_at_once.Goals as goal

pub returns : goal.returns
returns g c = λ L C k once below.
    let within = reach-within_class g.K.IntKey.number_of L C k in let one = class_size-below g.K.IntKey.number_of L C k once below in omega (arith, within, one)
