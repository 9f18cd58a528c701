use Rattle.intmap_table.proofs.SlotNumberLemmas.{bit_and-mask}
use Rattle.intmap_table.proofs.table.index_of_number.Goals as goal

pub returns-clause-slot : goal.returns-clause-slot
returns-clause-slot c = bit_and-mask c.args.number c.args.mask c.requires
