use Rattle.intmap.proofs.WriteLemmas.{Updates-bound}
use Rattle.intmap.proofs.laws.writing_updates.Goals as goal

pub returns : goal.returns
returns g c = λ L k v present. Updates-bound g.K.IntKey.number_of L k v present
