use Rattle.std.proofs.Common.{◌∙◌}
use Rattle.intmap_table.specs.Tables.Nodes.{rows_in}
use Rattle.intmap_table.proofs.Tables.FilledLemmas.{count-marked}
use Rattle.intmap_table.proofs.table.slots.Slots.count.Goals as goal

pub returns : goal.returns
returns g c = rw (← c.self.view_is) (c.count.ensures ∙ count-marked (rows_in c.self.inside.slots.items c.self.inside.pool.nodes) c.self.inside.bits c.self.invariant.marked)
