use Rattle.std.proofs.Common.{ℕ, ◌≡◌, ◌+◌, ◌≤◌, length, sym, subst, arith}
use Rattle.intmap_table.specs.Tables.Behind.{IsBehind}
use Rattle.intmap_table.specs.Tables.Nodes.{chain_of, IsSwapRemoved}
use Rattle.intmap_table.proofs.Nodes.BehindLemmas.{Behind-start}
use Rattle.intmap_table.proofs.Nodes.SlotLemmas.{first_set, first_was}
use Rattle.intmap_table.proofs.Nodes.TakenLemmas.{Swap-first}
use Rattle.intmap_table.proofs.linked.row.removal.swap_remove_first.Goals as goal
use Rattle.intmap_table.proofs.linked.row.removal.swap_remove_first.Goals.{After-last_from-before}

-- the last node of the chain
end : (g : _) (c : After-last_from-before g)
    → (j : ℕ) × (0 ≤ j) × (length (chain_of c.args.pool.now.nodes c.args.link) ≡ j + 1) × IsBehind c.args.pool.now.nodes c.args.link j c.last_from-before.result.0 c.last_from-before.result.1
end g c = c.last_from-before.ensures c.args.link 0 (Behind-start c.args.pool.now.nodes c.args.link c.requires.leads)

pub unlink-pair-requires : goal.unlink-pair-requires
unlink-pair-requires g c =
    let e = end g (goal.at.unlink-pair-requires g c).After-last_from-before in let len = e.2 in
    (c.args.link, e.0, c.requires.filled.0, c.requires.filled.1, omega (arith, len), e.3)

pub returns-clause-row : goal.returns-clause-row
returns-clause-row g c =
    let e = end g (goal.at.returns-clause-row g c).After-last_from-before in
    let first = c.requires.filled in let cut = c.unlink-pair.ensures.cut c.args.link e.0 first.0 first.1 e.3 in let was = c.replace.ensures in
    let x = c.unlink-pair.result in
    subst (λ p. IsSwapRemoved c.args.pool.now c.args.slot.now 0 p c.unlink-pair.new.pool c.replace.new.self) (sym (first_was c.unlink-pair.new.slot cut.0 first.0 c.replace.result was.0 cut.1 was.1))
    (Swap-first c.args.pool.now c.args.slot.now c.args.link e.0 first.0 x first.1 c.unlink-pair.new.pool cut.0 cut.2 e.2 c.replace.new.self
    (first_set c.unlink-pair.new.slot c.replace.new.self cut.0 first.0 c.replace.result x was.0 cut.1 was.1 was.2))
