use Rattle.std.proofs.Common.{refl}
use Rattle.intmap_table.proofs.WrittenLemmas.{the_key-same}
use Rattle.intmap.proofs.entry.OccupiedEntry.key.Goals as goal

pub returns : goal.returns
returns g c = record { value = the_key-same _ _ refl c.args.self.now.found.some c.key_at.ensures }
