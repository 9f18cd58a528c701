use Rattle.std.proofs.Common.{Some}
use Rattle.intmap_table.specs.Bindings.{put_pair}
use Rattle.intmap_table.proofs.BindingLemmas.{value_of-put_pair, Updates-from}
use Rattle.intmap.proofs.laws.insertion_updates.Goals as goal

pub returns : goal.returns
returns g c = λ L C k v once. Updates-from g.K.IntKey.number_of L (put_pair g.K.IntKey.number_of L C k v) k (Some v) (λ q. value_of-put_pair g.K.IntKey.number_of L C k q v once)
