use Rattle.intmap_run.proofs.StandLemmas.{StandForOne-larger}
use Rattle.intmap_run.proofs.laws.growth_keeps_standing.Goals as goal

pub returns : goal.returns
returns g c = λ C D L M one capacity more. StandForOne-larger one D capacity more
