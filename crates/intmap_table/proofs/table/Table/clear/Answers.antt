use Rattle.intmap_table.proofs.Tables.FilledLemmas.{joined-emptied}
use Rattle.intmap_table.proofs.Tables.TableLemmas.{IsTable-empty}
use Rattle.intmap_table.proofs.table.Table.clear.Goals as goal

pub invariant_of-self : goal.invariant_of-self
invariant_of-self g c = IsTable-empty g.K.IntKey.number_of c.clear.new.self.rows (rw c.clear.ensures.len c.self.invariant.capacity) c.clear.ensures.empty

pub returns-clause-walk : goal.returns-clause-walk
returns-clause-walk g c = joined-emptied c.clear.new.self.rows c.clear.ensures.empty
