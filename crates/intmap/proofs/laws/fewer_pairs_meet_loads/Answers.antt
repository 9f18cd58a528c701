use Rattle.intmap_table.proofs.SlotNumberLemmas.{capacity-positive}
use Rattle.intmap.proofs.LoadFactorLemmas.{MeetsLoad-fewer}
use Rattle.intmap.proofs.laws.fewer_pairs_meet_loads.Goals as goal

pub returns : goal.returns
returns c C m n F capacity meets fewer = MeetsLoad-fewer C n m F (capacity-positive C capacity) meets fewer
