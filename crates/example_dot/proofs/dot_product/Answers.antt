use Rattle.std.proofs.Common.{◌≡◌, ◌^◌, ap, subst}
use Rattle.std.specs.Prelude.{◌*ℤ◌, IfSome}
use Rattle.intmap_sparse.specs.Vectors.{sum_below, product}
use Rattle.example_dot.specs.Lists.{dot}
use Rattle.example_dot.proofs.dot_product.Goals as goal

-- at every place the vectors have what the lists have last, so the products agree place by place
pub returns : goal.returns
returns c =
    let agree : product c.in_ok-left.left.walk c.in_ok-right.right.walk ≡ dot c.args.left.now c.args.right.now =
    ap (λ f. sum_below f (2 ^ 64)) (λ i place. c.in_ok-left.ensures place i *ℤ c.in_ok-right.ensures place i) in
    subst (λ p. IfSome c.dot.result (λ sum. sum ≡ p)) agree c.dot.ensures.product
