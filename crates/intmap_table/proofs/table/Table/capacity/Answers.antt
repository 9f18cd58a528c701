use Rattle.intmap_table.proofs.Tables.TableLemmas.{walk_of-joined}
use Rattle.intmap_table.proofs.table.Table.capacity.Goals as goal

pub returns-clause-own : goal.returns-clause-own
returns-clause-own g c = rw (← c.self.view_is) (walk_of-joined g.K.IntKey.number_of c.self.inside.slots.rows c.self.invariant)
