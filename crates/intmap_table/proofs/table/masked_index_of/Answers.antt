use Rattle.intmap_table.proofs.table.masked_index_of.Goals as goal

pub returns-clause-slot : goal.returns-clause-slot
returns-clause-slot g c = rw (c.number.ensures.value, c.key.ensures.value) at c.index_of_number.ensures.slot
