use Rattle.std.proofs.Common.{◌∙◌, ◌++◌}
use Rattle.intmap_set.specs.Sets.{holds}
use Rattle.intmap_set.proofs.CombinedLemmas.{holds-joined, holds-joined_first}
use Rattle.intmap_set.proofs.set.IntSet.union.Goals as goal

pub returns-then-len-clause-members : goal.returns-then-len-clause-members
returns-then-len-clause-members g c q =
    (λ i. holds g.K.IntKey.number_of (c.iter.ensures.walk i ++ c.difference.ensures.walk i) q)
    ∙ holds-joined_first g.K.IntKey.number_of c.args.self.now.walk c.args.other.now.walk q

pub returns-clause-members : goal.returns-clause-members
returns-clause-members g c q =
    (λ i. holds g.K.IntKey.number_of (c.iter-2.ensures.walk i ++ c.difference-2.ensures.walk i) q)
    ∙ holds-joined g.K.IntKey.number_of c.args.self.now.walk c.args.other.now.walk q
