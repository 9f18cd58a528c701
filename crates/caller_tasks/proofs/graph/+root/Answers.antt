use Rattle.std.proofs.Common.{rules, ◌≡◌, ◌∙◌, Some}
use Rattle.intmap.specs.Bindings.{value_of}
use Rattle.caller_tasks.proofs.graph.+root.Goals as goal

-- the node shares it with its parent, and the parent with the root
pub returns-in-Some-clause-shared : goal.returns-in-Some-clause-shared
returns-in-Some-clause-shared g t c f same =
    let is : value_of (λ k. k) c.args.parents.now.walk c.args.node ≡ Some c.in-Some.parent.now = search rules in
    same c.args.node c.in-Some.parent.now is ∙ c.root.ensures.shared f same
