use Rattle.std.proofs.Common.{rules, ◌≡◌, ◌++◌, ◌∙◌, drop, sym, ap}
use Rattle.std.proofs.lemmas.List.{take-append-drop}
use Rattle.callers.proofs.retained.extract_first.Goals as goal

pub returns-clause-step : goal.returns-clause-step
returns-clause-step g c =
    let step = c.next.ensures.steps.0 in let at = c.next.new.self.at.passed in let walk = c.next.new.self.map.now.walk in
    let parts : walk ≡ step.0 ++ drop at walk =
    sym (take-append-drop at walk) ∙ ap (λ kept. kept ++ drop at walk) (step.2 ∙ ap (λ kept. kept ++ step.0) c.extract_if.ensures.kept) in (
      c.next.new.self.test,
      step.0,
      drop at walk,
      rw (c.extract_if.ensures.test, c.extract_if.ensures.left) at step.1,
      search (parts, rules),
    )
