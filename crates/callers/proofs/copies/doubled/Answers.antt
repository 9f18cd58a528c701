use Rattle.std.proofs.Common.{◌∙◌, ◌+◌, ◌-◌, ◌^◌, ℕ, ap, map, min, reverse}
use Rattle.std.proofs.lemmas.Result.{IfOk-weaker}
use Rattle.intmap.specs.Unsigned.{value_at}
use Rattle.callers.proofs.copies.doubled.Goals as goal

pub returns : goal.returns
returns g c =
    let twice : ℕ → ℕ = λ price. min (price + price) (2 ^ 64 - 1) in
    let W = c.args.prices.now.walk in
    let mapped = c.mapped_walks_bind_mapped_values.ensures in
    IfOk-weaker c.table_of.result _ _ (λ made bound article.
    bound article ∙ ap (λ L. value_at (reverse L) article) c.in_ok-pairs.ensures.pairs
    ∙ c.reversed_lists_bind_the_same.ensures (map (λ pair. (pair.0, twice pair.1)) W) article (mapped.distinct twice W c.list_doubled.ensures.distinct)
    ∙ mapped.values twice W article) c.table_of.ensures
