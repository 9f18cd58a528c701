use Rattle.intmap.proofs.LoadFactorLemmas.{IsNext-met, IsNext-unique, NeedsTooMuch-none}
use Rattle.intmap.proofs.laws.met_loads_keep_capacity.Goals as goal

pub returns-clause-stays : goal.returns-clause-stays
returns-clause-stays c C n F capacity meets = IsNext-met C n F capacity meets

pub returns-clause-same : goal.returns-clause-same
returns-clause-same c C n F D capacity meets next = IsNext-unique C n F D C next (IsNext-met C n F capacity meets)

pub returns-clause-in_range : goal.returns-clause-in_range
returns-clause-in_range c C n F capacity stays much = NeedsTooMuch-none C n F C capacity stays much
