use Rattle.std.proofs.Common.{inr, rules, ap, sym, ◌∙◌}
use Rattle.std.specs.Prelude.{Err}
use Rattle.intmap_c.proofs.figures.reserve_insertions.Goals as goal

pub returns-in-Err : goal.returns-in-Err
returns-in-Err c =
    let told = c.reserve_insertions.ensures.too_large in
    inr (c.in-Err.cause, search rules, ((λ e. told.0 (c.in-Err.is ∙ ap Err e)), (λ much. (let is = sym c.in-Err.is ∙ told.1 much in cc))), search rules)
