use Rattle.std.proofs.Common.{◌≡◌, ◌-◌, ◌+◌, ◌<◌, length, ap, subst, arith}
use Rattle.intmap_table.specs.Tables.Nodes.{chain_of, row_in, IsSwapRemoved}
use Rattle.intmap_table.proofs.linked.row.removal.swap_remove_of_several.Goals as goal
use Rattle.intmap_table.proofs.linked.row.removal.swap_remove_of_several.Goals.{Else-place-eq0, After-swap_remove_first, After-swap_remove_behind}

first : (g : _) (c : After-swap_remove_first g) → c.args.place ≡ 0 → IsSwapRemoved c.args.pool.now c.args.slot.now c.args.place c.swap_remove_first.result c.swap_remove_first.new.pool c.swap_remove_first.new.slot
first g c is = rw is c.swap_remove_first.ensures.row

pub returns-then-place-eq0-clause-value : goal.returns-then-place-eq0-clause-value
returns-then-place-eq0-clause-value g c = (first g (goal.at.returns-then-place-eq0-clause-value g c).After-swap_remove_first c.if-place-eq0.true).0

pub returns-then-place-eq0-clause-row : goal.returns-then-place-eq0-clause-row
returns-then-place-eq0-clause-row g c = (first g (goal.at.returns-then-place-eq0-clause-row g c).After-swap_remove_first c.if-place-eq0.true).1

-- a place of the chain
less : (g : _) (c : Else-place-eq0 g) → c.args.place - 1 < length (chain_of c.args.pool.now.nodes c.args.link)
less g c =
    let within = c.requires.within in let some = c.if-place-eq0.false in
    let row = ap (λ s. length (row_in c.args.pool.now.nodes s)) c.requires.filled.1 in
    omega (arith, within, some, row)

pub seek_behind-before-requires-clause-within : goal.seek_behind-before-requires-clause-within
seek_behind-before-requires-clause-within g c = let l = less g (goal.at.seek_behind-before-requires-clause-within g c).Else-place-eq0 in omega (arith, l)

pub swap_remove_behind-requires : goal.swap_remove_behind-requires
swap_remove_behind-requires g c = (c.args.link, c.args.place - 1, c.requires.filled.0, c.requires.filled.1, less g (goal.at.swap_remove_behind-requires g c).Else-place-eq0, c.seek_behind-before.ensures)

behind : (g : _) (c : After-swap_remove_behind g) → c.args.place - 1 + 1 ≡ c.args.place
    → IsSwapRemoved c.args.pool.now c.args.slot.now c.args.place c.swap_remove_behind.result c.swap_remove_behind.new.pool c.swap_remove_behind.new.slot
behind g c e =
    subst (λ k. IsSwapRemoved c.args.pool.now c.args.slot.now k c.swap_remove_behind.result c.swap_remove_behind.new.pool c.swap_remove_behind.new.slot) e
    (c.swap_remove_behind.ensures.row c.args.link (c.args.place - 1) c.requires.filled.0 c.requires.filled.1 c.seek_behind-before.ensures)

pub returns-clause-value : goal.returns-clause-value
returns-clause-value g c = (behind g (goal.at.returns-clause-value g c).After-swap_remove_behind (omega (arith, c.if-place-eq0.false))).0

pub returns-clause-row : goal.returns-clause-row
returns-clause-row g c = (behind g (goal.at.returns-clause-row g c).After-swap_remove_behind (omega (arith, c.if-place-eq0.false))).1
