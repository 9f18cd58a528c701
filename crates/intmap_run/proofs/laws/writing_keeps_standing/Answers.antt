use Rattle.intmap_run.proofs.StandLemmas.{StandForOne-write_value}
use Rattle.intmap_run.proofs.laws.writing_keeps_standing.Goals as goal

pub returns : goal.returns
returns g c = λ C L M k v one. StandForOne-write_value one k v
