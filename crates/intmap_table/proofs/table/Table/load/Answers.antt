use Rattle.std.proofs.Common.{sym, ◌∙◌}
use Rattle.intmap_table.proofs.Tables.TableLemmas.{load_of-joined}
use Rattle.intmap_table.proofs.table.Table.load.Goals as goal

pub returns : goal.returns
returns g c = c.count.ensures ∙ (rw (← c.self.view_is) (sym (load_of-joined g.K.IntKey.number_of c.self.inside.slots.rows c.self.invariant)))
