use Rattle.intmap.proofs.SlotNumberLemmas.{slot_number-residue}
use Rattle.intmap_run.proofs.laws.keys_share_slots_by_residue.Goals as goal

pub returns : goal.returns
returns g c = λ C a b capacity. slot_number-residue g.K.IntKey.number_of C capacity a b
