use Rattle.std.proofs.Common.{◌∙◌, ◌++◌}
use Rattle.intmap_set.specs.Sets.{holds}
use Rattle.intmap_set.proofs.CombinedLemmas.{IsSymmetricDifference-symmetric_difference_of}
use Rattle.intmap_set.proofs.set.IntSet.symmetric_difference.Goals as goal

pub returns-clause-members : goal.returns-clause-members
returns-clause-members g c q =
    (λ i. holds g.K.IntKey.number_of (c.difference.ensures.walk i ++ c.difference-2.ensures.walk i) q)
    ∙ IsSymmetricDifference-symmetric_difference_of g.K.IntKey.number_of c.args.self.now.walk c.args.other.now.walk q
