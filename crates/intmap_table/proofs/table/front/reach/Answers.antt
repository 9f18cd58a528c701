use Rattle.std.proofs.Common.{◌∙◌, sym}
use Rattle.intmap_table.proofs.Tables.FrontLemmas.{joined-left}
use Rattle.intmap_table.proofs.table.front.reach.Goals as goal

pub returns-in_default-clause-none : goal.returns-in_default-clause-none
returns-in_default-clause-none g c = joined-left c.args.slots.now.rows c.args.front.now c.requires.front (sym c.holds_pair.ensures ∙ c.if-holds_pair.false) c.in_default.ensures.none
