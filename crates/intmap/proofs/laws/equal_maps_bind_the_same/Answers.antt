use Rattle.intmap.specs.Laws.EqualityLaws.{maps_equal-iff_BindSame}
use Rattle.intmap.proofs.laws.equal_maps_bind_the_same.Goals as goal

pub returns : goal.returns
returns g c = λ m n. maps_equal-iff_BindSame g.K.IntKey.number_of g.V.PartialEq.eq g.met.V.PartialEq.laws m n
