use Rattle.std.proofs.Common.{rules, arith, ◌≡◌, ◌++◌, ◌∙◌, ℕ, Contains, None, [], inl, subst, sym, true}
use Rattle.std.proofs.lemmas.Bool.{true≢false}
use Rattle.std.proofs.lemmas.List.Elements.{Contains-append_left, Contains-append_right, Contains-append_cases}
use Rattle.intmap.specs.Bindings.{value_of}
use Rattle.intmap_set.specs.Sets.{holds}
use Rattle.example_reach.specs.Reached.{items_of, targets_of}
use Rattle.example_reach.proofs.ReachLemmas.{IsReaching-visit}
use Rattle.example_reach.proofs.visit.Goals as goal

-- the node was visited before
pub returns-then-not-branch : goal.returns-then-not-branch
returns-then-not-branch c start before =
    let was : holds (λ key. key) c.args.visited.now.walk c.args.node ≡ true = search rules in
    IsReaching-visit c.args.edges.now.walk start c.args.node c.args.visited.now.walk c.insert.new.self.walk c.args.waiting.now.items c.args.waiting.now.items
    c.in_ok-insert.ensures.inserted.updates (λ q is. is) (λ q is. inl is) (λ new q target. absurd (true≢false (sym was ∙ new))) before

-- no edge leaves the node
pub returns-in_default : goal.returns-in_default
returns-in_default c start before =
    let none : value_of (λ key. key) c.args.edges.now.walk c.args.node ≡ None = search rules in
    IsReaching-visit c.args.edges.now.walk start c.args.node c.args.visited.now.walk c.insert.new.self.walk c.args.waiting.now.items c.args.waiting.now.items
    c.in_ok-insert.ensures.inserted.updates (λ q is. is) (λ q is. inl is)
    (λ new q target. let some : Contains {X = ℕ} [] q = subst (λ o. Contains (items_of o) q) none target in let less = some.1 in absurd (omega (arith, less)))
    before

-- the targets of its edges wait then
pub returns : goal.returns
returns c start before =
    let waiting = c.args.waiting.now.items in let targets = targets_of c.args.edges.now.walk c.args.node in
    let all : c.extend_from_slice.new.self.items ≡ waiting ++ targets = search rules in
    IsReaching-visit c.args.edges.now.walk start c.args.node c.args.visited.now.walk c.insert.new.self.walk waiting c.extend_from_slice.new.self.items
    c.in_ok-insert.ensures.inserted.updates
    (λ q is. subst (λ L. Contains L q) (sym all) (Contains-append_left waiting targets q is))
    (λ q is. Contains-append_cases waiting targets q (subst (λ L. Contains L q) all is))
    (λ new q target. subst (λ L. Contains L q) (sym all) (Contains-append_right waiting targets q target)) before
