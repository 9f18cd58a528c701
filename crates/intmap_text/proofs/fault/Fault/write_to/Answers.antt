use Rattle.std.proofs.Common.{append_assoc}
use Rattle.intmap_text.proofs.fault.Fault.write_to.Goals as goal

pub returns-in-NotACommand : goal.returns-in-NotACommand
returns-in-NotACommand g c = rw c.in-NotACommand.is (simp append_assoc c.writeln.ensures.bytes)

pub returns-in-Input : goal.returns-in-Input
returns-in-Input g c = rw c.in-Input.is c.write_all-in-Input.ensures.bytes

pub returns-in-Output : goal.returns-in-Output
returns-in-Output g c = rw c.in-Output.is c.write_all-in-Output.ensures.bytes
