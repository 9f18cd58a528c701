use Rattle.intmap_table.proofs.DistinctLemmas.{length-walk_of}
use Rattle.intmap_table.proofs.SlotNumberLemmas.{slot_number-below}
use Rattle.intmap.proofs.laws.walks_are_as_long_as_lists.Goals as goal

pub returns : goal.returns
returns g c = λ L C cap. length-walk_of g.K.IntKey.number_of L C (λ q. slot_number-below g.K.IntKey.number_of q C cap)
