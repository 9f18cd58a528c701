use Rattle.intmap_table.proofs.SlotNumberLemmas.{slot_number-below}
use Rattle.intmap.proofs.SumLemmas.{sum_by-walk_of}
use Rattle.intmap.proofs.laws.walks_sum_as_lists.Goals as goal

pub returns : goal.returns
returns g c = λ L C cap. sum_by-walk_of g.K.IntKey.number_of (λ n. n) L C (λ q. slot_number-below g.K.IntKey.number_of q C cap)
