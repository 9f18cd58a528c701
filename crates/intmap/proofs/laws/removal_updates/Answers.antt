use Rattle.std.proofs.Common.{None}
use Rattle.intmap_table.specs.Bindings.{take_key}
use Rattle.intmap_table.proofs.BindingLemmas.{value_of-take_key, Updates-from}
use Rattle.intmap.proofs.laws.removal_updates.Goals as goal

pub returns : goal.returns
returns g c = λ L C k once. Updates-from g.K.IntKey.number_of L (take_key g.K.IntKey.number_of L C k) k None (λ q. value_of-take_key g.K.IntKey.number_of L C k q once)
