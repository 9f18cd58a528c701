use Rattle.std.proofs.Common.{◌∙◌, ap}
use Rattle.std.proofs.Math.Bool.{and_comm}
use Rattle.intmap_set.specs.Sets.{holds}
use Rattle.intmap_set.specs.Combined.{common_of}
use Rattle.intmap_set.proofs.CombinedLemmas.{IsIntersection-common_of}
use Rattle.intmap_set.proofs.set.IntSet.intersection.Goals as goal

pub returns-then-len-clause-members : goal.returns-then-len-clause-members
returns-then-len-clause-members g c q =
    let number = g.K.IntKey.number_of in let V = c.args.self.now.walk in let W = c.args.other.now.walk in
    ap (λ U. holds number (common_of number U V) q) c.iter.ensures.walk
    ∙ IsIntersection-common_of number W V q ∙ and_comm (holds number W q) (holds number V q)

pub returns-clause-members : goal.returns-clause-members
returns-clause-members g c q =
    let number = g.K.IntKey.number_of in let V = c.args.self.now.walk in let W = c.args.other.now.walk in
    ap (λ U. holds number (common_of number U W) q) c.iter-2.ensures.walk ∙ IsIntersection-common_of number V W q
