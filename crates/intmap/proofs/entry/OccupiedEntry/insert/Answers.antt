use Rattle.std.proofs.Common.{refl}
use Rattle.intmap.proofs.EntryLemmas.{occupied_key-written}
use Rattle.intmap.proofs.entry.OccupiedEntry.insert.Goals as goal

pub returns-clause-written : goal.returns-clause-written
returns-clause-written g c = record { same_reference = refl; map = rw c.replace.ensures.after refl; key = occupied_key-written c.args.self.now c.replace.new.dest }
