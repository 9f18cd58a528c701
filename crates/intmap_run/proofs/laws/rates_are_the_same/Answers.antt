use Rattle.std.proofs.Common.{◌*◌, ◌/◌, ap}
use Rattle.intmap_run.proofs.StandLemmas.{length-one}
use Rattle.intmap_run.proofs.laws.rates_are_the_same.Goals as goal

pub returns : goal.returns
returns g c = λ C L M one. ap (λ n. n * 1000 / C) (length-one one)
