use Rattle.std.proofs.Common.{arith, ap, sym, ◌≡◌, ◌∙◌, ℕ, Some}
use Rattle.std.proofs.lemmas.Bool.Decides.{nat_tests}
use Rattle.std.proofs.lemmas.Grind.{common_steps}
use Rattle.intmap.specs.Bindings.{value_of}
use Rattle.caller_tasks.proofs.graph.join.Goals as goal

pub returns-in_ok-insert-2-clause-smaller : goal.returns-in_ok-insert-2-clause-smaller
returns-in_ok-insert-2-clause-smaller g c q p is =
    let each = c.in_ok-insert-2.ensures.inserted.updates.0 q in let had = c.requires q p in let less = c.if-second-first.true in
    grind (arith, nat_tests, common_steps, each, had, less, is)

-- a root has no parent, so every parent before is one afterwards
pub returns-in_ok-insert-clause-shared : goal.returns-in_ok-insert-clause-shared
returns-in_ok-insert-clause-shared g c f same =
    let updates = c.in_ok-insert.ensures.inserted.updates in
    let before : (q p : ℕ) → value_of (λ k. k) c.args.parents.now.walk q ≡ Some p → f q ≡ f p = λ q p is.
    (let each = updates.0 q in let none = c.root-second.ensures.root in
    let still : value_of (λ k. k) c.insert.new.self.walk q ≡ Some p = grind (arith, nat_tests, common_steps, each, none, is) in same q p still) in
    c.root-first.ensures.shared f before ∙ sym (same c.root-second.result c.root-first.result updates.1) ∙ sym (c.root-second.ensures.shared f before)

pub returns-in_ok-insert-2-clause-shared : goal.returns-in_ok-insert-2-clause-shared
returns-in_ok-insert-2-clause-shared g c f same =
    let updates = c.in_ok-insert-2.ensures.inserted.updates in
    let before : (q p : ℕ) → value_of (λ k. k) c.args.parents.now.walk q ≡ Some p → f q ≡ f p = λ q p is.
    (let each = updates.0 q in let none = c.root-first.ensures.root in
    let still : value_of (λ k. k) c.insert-then-second-first.new.self.walk q ≡ Some p = grind (arith, nat_tests, common_steps, each, none, is) in same q p still) in
    c.root-first.ensures.shared f before ∙ same c.root-first.result c.root-second.result updates.1 ∙ sym (c.root-second.ensures.shared f before)

pub returns-else-second-first-clause-shared : goal.returns-else-second-first-clause-shared
returns-else-second-first-clause-shared g c f same =
    let equal : c.root-first.result ≡ c.root-second.result = omega (arith, c.if-first-second.false, c.if-second-first.false) in
    c.root-first.ensures.shared f same ∙ ap f equal ∙ sym (c.root-second.ensures.shared f same)
