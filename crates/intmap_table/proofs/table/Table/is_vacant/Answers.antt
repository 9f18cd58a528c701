use Rattle.intmap_table.proofs.Tables.TableLemmas.{slot_of-joined}
use Rattle.intmap_table.proofs.table.Table.is_vacant.Goals as goal

pub returns : goal.returns
returns g c = rw (← c.self.view_is) (rw (slot_of-joined g.K.IntKey.number_of c.self.inside.slots.rows c.self.invariant c.args.slot) c.is_vacant.ensures)
