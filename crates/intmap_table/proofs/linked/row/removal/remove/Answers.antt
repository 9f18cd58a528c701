use Rattle.std.proofs.Common.{◌-◌, ◌+◌, ◌++◌, length, take, drop, sym, ap, ◌∙◌, arith}
use Rattle.std.specs.Prelude.{get_or}
use Rattle.intmap_table.specs.Tables.Nodes.{Held, row_in}
use Rattle.intmap_table.proofs.Nodes.SlotLemmas.{slot_is, Remove-value, Remove-behind}
use Rattle.intmap_table.proofs.linked.row.removal.remove.Goals as goal

pub returns-then-place-eq0-clause-row : goal.returns-then-place-eq0-clause-row
returns-then-place-eq0-clause-row g c = rw (c.if-place-eq0.true, c.pop_front.ensures.value) (c.pop_front.ensures.row c.pop_front.result)

pub returns-clause-value : goal.returns-clause-value
returns-clause-value g c =
    let p = c.in-Some.field-0-1.now in let l = c.in-Some.link in
    let found = c.in-Some-find_behind.ensures.some in
    let cut = c.unlink.ensures.cut l (c.args.place - 1) p c.in-Some.ensures.some found.1 in
    let long = ap (λ s. length (row_in c.args.pool.now.nodes s)) c.in-Some.ensures.some in (
      omega (arith, found.0, long, c.if-place-eq0.false),
      Remove-value c.args.pool.now l c.args.place p c.unlink.result c.unlink.new.pool cut.0 (omega (arith, c.if-place-eq0.false)) cut.2
          ∙ sym (ap (λ s. get_or (row_in c.args.pool.now.nodes s) c.args.place c.unlink.result) c.in-Some.ensures.some),
    )

pub returns-clause-row : goal.returns-clause-row
returns-clause-row g c =
    let p = c.in-Some.field-0-1.now in let l = c.in-Some.link in
    let cut = c.unlink.ensures.cut l (c.args.place - 1) p c.in-Some.ensures.some c.in-Some-find_behind.ensures.some.1 in
    slot_is c.args.pool.now (Held l p) (Held cut.0 p) _ _ c.unlink.new.pool c.args.slot.now c.unlink.new.slot
    (Remove-behind c.args.pool.now l c.args.place p c.unlink.result c.unlink.new.pool cut.0 (omega (arith, c.if-place-eq0.false)) cut.2)
    c.in-Some.ensures.some (ap (λ s. take c.args.place (row_in c.args.pool.now.nodes s) ++ drop (c.args.place + 1) (row_in c.args.pool.now.nodes s)) c.in-Some.ensures.some) cut.1
