use Rattle.std.proofs.Common.{arith}
use Rattle.intmap_table.proofs.Tables.TableLemmas.{further-joined}
use Rattle.intmap_table.proofs.table.Table.further.Goals as goal

pub returns : goal.returns
returns g c = rw (← c.self.view_is) (let all = further-joined g.K.IntKey.number_of c.self.inside.slots.rows c.self.invariant in let n = c.further.ensures.further in omega (arith, all, n))
