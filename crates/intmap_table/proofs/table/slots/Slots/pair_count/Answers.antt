use Rattle.std.proofs.Common.{◌≡◌, ◌∙◌, ◌+◌, length, arith}
use Rattle.std.specs.Prelude.{nat_lt}
use Rattle.std.proofs.lemmas.List.{length-map}
use Rattle.std.proofs.lemmas.List.Sums.{count_by-le-length}
use Rattle.intmap_table.specs.Tables.Nodes.{row_in, rows_in}
use Rattle.intmap_table.specs.Tables.Slots.{joined}
use Rattle.intmap_table.proofs.SlotNumberLemmas.{capacity-greatest}
use Rattle.intmap_table.proofs.Tables.FilledLemmas.{count-marked, length-joined}
use Rattle.intmap_table.proofs.table.slots.Slots.pair_count.Goals as goal

pub overflow_add-result : goal.overflow_add-result
overflow_add-result g c =
    let slots = c.self.inside.slots.items in let R = rows_in slots c.self.inside.pool.nodes in
    let first = c.count.ensures ∙ count-marked R c.self.inside.bits c.self.invariant.marked in
    let few = count_by-le-length (λ row. nat_lt 0 (length row)) R in
    omega (arith, first, few, length-map slots (row_in c.self.inside.pool.nodes), capacity-greatest _ c.self.invariant.capacity, c.held.ensures.limit)

pub returns : goal.returns
returns g c =
    let R = rows_in c.self.inside.slots.items c.self.inside.pool.nodes in
    let first = c.count.ensures ∙ count-marked R c.self.inside.bits c.self.invariant.marked in
    let all : c.count.result + c.held.result ≡ length (joined R) = omega (arith, length-joined R, first, c.held.ensures.held, c.self.invariant.linked.held) in
    rw (← c.self.view_is) all
