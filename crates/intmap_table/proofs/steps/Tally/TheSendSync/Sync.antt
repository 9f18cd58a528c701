-- By hand, as for `Send`: a `&` to a tally shares what the tally owns.
use denote.Param.Send.{IsSync, part_keyless}
use Rattle.intmap_table.specs.contracts.steps.Tally.{the_row}
use Rattle.intmap_table.proofs.steps.Tally.TheSendSync.Send.{send}

pub sync : IsSync the_row
sync = record { shared = λ d b o κ q. part_keyless the_row send q d b o }
