use Rattle.std.proofs.Common.{length, sym, ap, ◌∙◌}
use Rattle.intmap_table.proofs.Tables.TableLemmas.{slot_of-joined}
use Rattle.intmap_table.proofs.table.Table.slot_len.Goals as goal

pub returns : goal.returns
returns g c = c.row_len.ensures ∙ sym (ap length (rw (← c.self.view_is) (slot_of-joined g.K.IntKey.number_of c.self.inside.slots.rows c.self.invariant c.args.slot)))
