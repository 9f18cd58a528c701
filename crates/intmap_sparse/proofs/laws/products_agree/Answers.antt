use Rattle.intmap_sparse.proofs.ValueLemmas.{product-turned}
use Rattle.intmap_sparse.proofs.laws.products_agree.Goals as goal

pub returns : goal.returns
returns c = product-turned
