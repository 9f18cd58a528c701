use Rattle.intmap_run.proofs.StandLemmas.{StandForOne-strike_keys}
use Rattle.intmap_run.proofs.laws.striking_keeps_standing.Goals as goal

pub returns : goal.returns
returns g c = λ C L M ks one. StandForOne-strike_keys one ks
