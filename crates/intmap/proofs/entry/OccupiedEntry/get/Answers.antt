use Rattle.intmap.proofs.EntryLemmas.{value_of-in}
use Rattle.intmap.proofs.entry.OccupiedEntry.get.Goals as goal

pub returns : goal.returns
returns g c = record { value = value_of-in c.args.self.now _ c.value_in.ensures.value }
