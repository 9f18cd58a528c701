use Rattle.intmap_sparse.specs.EqualityLaws.{HaveSameValues-from_equal, equal-from_HaveSameValues}
use Rattle.intmap_sparse.proofs.laws.equal_vectors_have_the_same_values.Goals as goal

pub returns : goal.returns
returns c = λ v w. (HaveSameValues-from_equal v w, equal-from_HaveSameValues v w)
