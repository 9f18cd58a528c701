use Rattle.std.proofs.Common.{sym, ap, ◌∙◌}
use Rattle.std.specs.Option.{option_or}
use Rattle.std.specs.Prelude.{reverse}
use Rattle.std.proofs.IntoIterSteps.{All-taken}
use Rattle.intmap.specs.Bindings.{value_of}
use Rattle.callers.proofs.reserved.insert_reserved.Goals as goal

pub returns : goal.returns
returns g c q =
    let all = c.in-Ok.ensures.extends in
    all.extended.updates q
    ∙ ap (λ pairs. option_or (value_of g.K.IntKey.number_of (reverse pairs) q) (value_of g.K.IntKey.number_of c.args.map.now.walk q)) (All-taken c.into_iter.result all.pairs all.came ∙ c.into_iter.ensures.rest)
