use denote.Param.Send.{IsSend}
use Rattle.intmap_c.proofs.SendLemmas.{Handle-send}
use Rattle.intmap_c.specs.contracts.handle.Handle.{the_row}

pub send : IsSend the_row
send = Handle-send
