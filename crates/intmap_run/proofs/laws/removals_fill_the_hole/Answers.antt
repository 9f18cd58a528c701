use Rattle.intmap_run.proofs.RemovalLemmas.{Takes-is}
use Rattle.intmap_run.proofs.laws.removals_fill_the_hole.Goals as goal

pub returns : goal.returns
returns g c = λ C L M k. Takes-is g.K.IntKey.number_of C k L M
