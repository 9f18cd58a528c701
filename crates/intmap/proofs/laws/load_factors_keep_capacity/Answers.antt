use Rattle.intmap.proofs.LoadFactorLemmas.{IsWanted-more}
use Rattle.intmap.proofs.laws.load_factors_keep_capacity.Goals as goal

pub returns : goal.returns
returns c = IsWanted-more
