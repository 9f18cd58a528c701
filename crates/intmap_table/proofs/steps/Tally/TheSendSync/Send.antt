-- By hand, since a tally says itself what it owns: nothing.
use denote.Param.Send.{IsSend, sendable}
use Rattle.intmap_table.specs.contracts.steps.Tally.{the_row}

pub send : IsSend the_row
send = search sendable
