use Rattle.std.proofs.Common.{◌≡◌, ◌+◌, ◌-◌, ◌++◌, ◌∙◌, ap, arith, length, replicate}
use Rattle.intmap_table.specs.Tables.Nodes.{empty, rows_in}
use Rattle.intmap_table.proofs.SlotNumberLemmas.{capacity-positive}
use Rattle.intmap_table.proofs.Nodes.LinkedLemmas.{Rows-none}
use Rattle.intmap_table.proofs.table.slots.Slots.new.Goals as goal
use Rattle.intmap_table.proofs.table.slots.Slots.new.Goals.{After-add_empty}

-- all slots are new
none : (g : _) (c : After-add_empty g) → c.add_empty.new.slots.items ≡ replicate c.args.capacity empty
none g c =
    let all : c.args.capacity - 0 ≡ c.args.capacity = omega arith in
    c.add_empty.ensures.items ∙ ap (λ xs. xs ++ replicate (c.args.capacity - length xs) empty) c.in_ok-slots.ensures.items ∙ ap (λ n. replicate n empty) all

pub invariant_of-result : goal.invariant_of-result
invariant_of-result g c =
    let some = capacity-positive c.args.capacity c.requires in
    let count : c.args.capacity - 1 + 1 ≡ c.args.capacity = omega (arith, some) in
    rw (none g (goal.at.invariant_of-result g c).After-add_empty, c.in_ok-bits.ensures) (Rows-none g.K.IntKey.number_of c.in_ok-pool.pool c.args.capacity (c.args.capacity - 1) c.requires c.in_ok-pool.ensures.held count).are

pub returns-clause-rows : goal.returns-clause-rows
returns-clause-rows g c =
    let some = capacity-positive c.args.capacity c.requires in
    let count : c.args.capacity - 1 + 1 ≡ c.args.capacity = omega (arith, some) in
    ap (λ slots. rows_in slots c.in_ok-pool.pool.nodes) (none g (goal.at.returns-clause-rows g c).After-add_empty)
    ∙ (Rows-none g.K.IntKey.number_of c.in_ok-pool.pool c.args.capacity (c.args.capacity - 1) c.requires c.in_ok-pool.ensures.held count).rows

pub returns-clause-further : goal.returns-clause-further
returns-clause-further g c = (invariant_of-result g c).linked.held ∙ c.in_ok-pool.ensures.held
