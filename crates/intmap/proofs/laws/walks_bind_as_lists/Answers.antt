use Rattle.intmap_table.proofs.BindingLemmas.{value_of-walk_of}
use Rattle.intmap_table.proofs.SlotNumberLemmas.{slot_number-below}
use Rattle.intmap.proofs.laws.walks_bind_as_lists.Goals as goal

pub returns : goal.returns
returns g c = λ L C q cap. value_of-walk_of g.K.IntKey.number_of L C q (slot_number-below g.K.IntKey.number_of q C cap)
