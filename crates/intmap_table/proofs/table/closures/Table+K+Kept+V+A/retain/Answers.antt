use Rattle.intmap_table.proofs.Tables.TableLemmas.{walk_of-joined}
use Rattle.intmap_table.proofs.table.closures.Table+K+Kept+V+A.retain.Goals as goal

pub returns-clause-own : goal.returns-clause-own
returns-clause-own g c = walk_of-joined g.K.IntKey.number_of c.retain_slots.new.slots.rows c.retain_slots.ensures.table

pub returns-clause-pairs : goal.returns-clause-pairs
returns-clause-pairs g c = rw (← c.self.view_is) c.retain_slots.ensures.pairs
