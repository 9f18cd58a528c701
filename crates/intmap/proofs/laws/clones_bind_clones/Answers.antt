use Rattle.intmap_table.proofs.Tables.CloneLemmas.{BindsClones-AreClones}
use Rattle.intmap.proofs.laws.clones_bind_clones.Goals as goal

pub returns : goal.returns
returns g c = λ m n cloned. BindsClones-AreClones g.V.Clone.is_clone g.K.IntKey.number_of m.walk n.walk cloned.walk
