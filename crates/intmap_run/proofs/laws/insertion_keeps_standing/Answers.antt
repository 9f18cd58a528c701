use Rattle.intmap_run.proofs.StandLemmas.{StandForOne-put_pair}
use Rattle.intmap_run.proofs.laws.insertion_keeps_standing.Goals as goal

pub returns : goal.returns
returns g c = λ C L M k v one. StandForOne-put_pair one k v
