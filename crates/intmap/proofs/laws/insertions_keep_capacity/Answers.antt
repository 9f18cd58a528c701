use Rattle.std.proofs.Common.{◌+◌, length}
use Rattle.intmap_table.specs.Bindings.{value_of}
use Rattle.intmap.proofs.CostLemmas.{capacity-not_less}
use Rattle.intmap.proofs.laws.insertions_keep_capacity.Goals as goal

pub returns : goal.returns
returns g c = λ L C F k D after. capacity-not_less (value_of g.K.IntKey.number_of L k) C (length L + 1) F D after
