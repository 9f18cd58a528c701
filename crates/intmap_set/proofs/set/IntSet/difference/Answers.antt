use Rattle.std.proofs.Common.{◌∙◌, ap}
use Rattle.intmap_set.specs.Sets.{holds}
use Rattle.intmap_set.specs.Combined.{difference_of}
use Rattle.intmap_set.proofs.CombinedLemmas.{IsDifference-difference_of}
use Rattle.intmap_set.proofs.set.IntSet.difference.Goals as goal

pub returns-clause-members : goal.returns-clause-members
returns-clause-members g c q =
    ap (λ W. holds g.K.IntKey.number_of (difference_of g.K.IntKey.number_of W c.args.other.now.walk) q) c.iter.ensures.walk
    ∙ IsDifference-difference_of g.K.IntKey.number_of c.args.self.now.walk c.args.other.now.walk q
