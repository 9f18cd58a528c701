use Rattle.intmap_table.proofs.Tables.TableLemmas.{walk_of-joined}
use Rattle.intmap_table.proofs.table.closures.Table+K+Kept+V+A.extract_next.Goals as goal

pub returns-in_default-clause-own : goal.returns-in_default-clause-own
returns-in_default-clause-own g c = walk_of-joined g.K.IntKey.number_of c.extract_slots.new.slots.rows c.extract_slots.ensures.table

pub returns-clause-own : goal.returns-clause-own
returns-clause-own g c = walk_of-joined g.K.IntKey.number_of c.extract_slots.new.slots.rows c.extract_slots.ensures.table
