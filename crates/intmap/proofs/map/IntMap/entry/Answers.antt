use Rattle.std.proofs.Common.{Some, refl}
use Rattle.intmap_table.proofs.WrittenLemmas.{the_key-same}
use Rattle.intmap_table.proofs.Tables.FoundLemmas.{IsFound-located}
use Rattle.intmap.proofs.map.IntMap.entry.Goals as goal

pub invariant_of-result : goal.invariant_of-result
invariant_of-result g c =
    record { found = IsFound-located g.K.IntKey.number_of c.locate.new.self.walk c.locate.new.self.capacity c.in-Ok.at c.new.result c.in-Ok.ensures.found.0 c.in-Ok.ensures.found.1 c.in-Ok.ensures.key }

pub returns-in-Ok-clause-key : goal.returns-in-Ok-clause-key
returns-in-Ok-clause-key g c = rw (← c.new.ensures.value) (the_key-same _ (Some c.new.result) _ refl c.in-Ok.ensures.key)
