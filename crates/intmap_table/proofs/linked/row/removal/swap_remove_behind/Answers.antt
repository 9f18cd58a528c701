use Rattle.std.proofs.Common.{ℕ, ◌≡◌, ◌+◌, ◌≤◌, length, subst, arith}
use Rattle.intmap_table.specs.Tables.Behind.{IsBehind}
use Rattle.intmap_table.specs.Tables.Nodes.{chain_of, IsNodeAt, IsSwapRemoved}
use Rattle.intmap_table.proofs.Nodes.BehindLemmas.{NodeAt-before, NodeAt-place}
use Rattle.intmap_table.proofs.Nodes.PathLemmas.{NodeAt-len}
use Rattle.intmap_table.proofs.Nodes.TakenLemmas.{Swap-last, Swap-behind, Swap-held}
use Rattle.intmap_table.proofs.linked.row.removal.swap_remove_behind.Goals as goal
use Rattle.intmap_table.proofs.linked.row.removal.swap_remove_behind.Goals.{After-last_from-before_last}

pub last_from-before_last-requires-clause-leads : goal.last_from-before_last-requires-clause-leads
last_from-before_last-requires-clause-leads g c = c.requires.5.reached.is

pub last_from-before_last-requires-clause-some : goal.last_from-before_last-requires-clause-some
last_from-before_last-requires-clause-some g c =
    let at = c.requires in let less = at.4 in let len = NodeAt-len c.args.pool.now.nodes at.0 at.1 c.args.at at.5.reached in omega (arith, less, len)

-- the last node is at this place or behind it
end : (g : _) (c : After-last_from-before_last g) (l i : ℕ) → IsBehind c.args.pool.now.nodes l i c.args.before c.args.at
    → (j : ℕ) × (i ≤ j) × (length (chain_of c.args.pool.now.nodes l) ≡ j + 1) × IsBehind c.args.pool.now.nodes l j c.last_from-before_last.result.0 c.last_from-before_last.result.1
end g c = c.last_from-before_last.ensures

pub unlink-pair-requires : goal.unlink-pair-requires
unlink-pair-requires g c =
    let at = c.requires in
    let e = end g (goal.at.unlink-pair-requires g c).After-last_from-before_last at.0 at.1 at.5 in let len = e.2 in
    (at.0, e.0, at.2, at.3, omega (arith, len), e.3)

pub returns-then-last-at-clause-row : goal.returns-then-last-at-clause-row
returns-then-last-at-clause-row g c l i p is behind =
    let e = end g (goal.at.returns-then-last-at-clause-row g c).After-last_from-before_last l i behind in
    let cut = c.unlink-pair.ensures.cut l e.0 p is e.3 in
    let same = NodeAt-place c.args.pool.now.nodes l e.0 i c.args.at (subst (λ k. IsNodeAt c.args.pool.now.nodes l e.0 k) c.if-last-at.true e.3.reached) behind.reached in
    subst (λ k. IsSwapRemoved c.args.pool.now c.args.slot.now (k + 1) c.unlink-pair.result c.unlink-pair.new.pool c.unlink-pair.new.slot) same
    (Swap-last c.args.pool.now c.args.slot.now l e.0 p c.unlink-pair.result is c.unlink-pair.new.pool cut.0 cut.2 e.2 c.unlink-pair.new.slot cut.1)

pub replace-requires : goal.replace-requires
replace-requires g c =
    let at = c.requires in
    let e = end g (goal.at.replace-requires g c).After-last_from-before_last at.0 at.1 at.5 in
    let cut = c.unlink-pair.ensures.cut at.0 e.0 at.2 at.3 e.3 in
    let before = NodeAt-before c.args.pool.now.nodes at.0 at.1 e.0 c.args.at c.last_from-before_last.result.1 at.5.reached e.3.reached e.1 c.if-last-at.false in
    Swap-held c.args.pool.now c.args.slot.now at.0 e.0 at.2 c.unlink-pair.result at.3 c.unlink-pair.new.pool cut.0 cut.2 e.2 at.1 c.args.at before at.5.reached

pub returns-clause-row : goal.returns-clause-row
returns-clause-row g c l i p is behind =
    let e = end g (goal.at.returns-clause-row g c).After-last_from-before_last l i behind in
    let cut = c.unlink-pair.ensures.cut l e.0 p is e.3 in
    let before = NodeAt-before c.args.pool.now.nodes l i e.0 c.args.at c.last_from-before_last.result.1 behind.reached e.3.reached e.1 c.if-last-at.false in
    let was = c.replace.ensures in
    Swap-behind c.args.pool.now c.args.slot.now l e.0 p c.unlink-pair.result is c.unlink-pair.new.pool cut.0 cut.2 e.2 i c.args.at was.0 c.replace.result c.replace.new.self c.unlink-pair.new.slot before behind.reached was.1 was.2 cut.1
