use Rattle.std.proofs.lemmas.Option.{IfSome_then}
use Rattle.std.proofs.Common.{◌∙◌}
use Rattle.intmap_sparse.proofs.ValueLemmas.{product-turned}
use Rattle.intmap_sparse.proofs.vector.SparseVec.dot.Goals as goal

pub returns-then-len-clause-product : goal.returns-then-len-clause-product
returns-then-len-clause-product g c =
    IfSome_then c.dot_along.result c.dot_along.ensures.product (λ sum is. is ∙ product-turned c.args.other.now.walk c.args.self.now.walk)
