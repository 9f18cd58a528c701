use Rattle.std.proofs.Common.{length, ap, sym, subst, arith}
use Rattle.intmap_table.specs.Tables.Nodes.{chain_of, row_in, IsSlot, IsSlotSet}
use Rattle.intmap_table.proofs.Nodes.DroppedLemmas.{Dropped-start, Dropped-next}
use Rattle.intmap_table.proofs.table.slots.writing.drop_row.Goals as goal

pub loop-link-init : goal.loop-link-init
loop-link-init g c = record { left = Dropped-start c.args.pool.now c.args.slot.now c.requires; total = omega arith }

pub pop_front-requires-clause-leads : goal.pop_front-requires-clause-leads
pop_front-requires-clause-leads g c = subst (IsSlot c.loop-link.pool.nodes) c.in-Some.ensures.some c.loop-link.invariant.left.changed.is

pub loop-link-smaller : goal.loop-link-smaller
loop-link-smaller g c =
    let before = ap (λ s. length (row_in c.loop-link.pool.nodes s)) c.pop_front.ensures.value in
    let after = ap length (c.pop_front.ensures.row c.pop_front.result).pairs in
    omega (arith, before, after)

pub loop-link-preserved : goal.loop-link-preserved
loop-link-preserved g c =
    let rest = chain_of c.loop-link.pool.nodes c.in-Some.link in
    record {
      left = Dropped-next c.args.pool.now c.args.slot.now c.loop-link.pool c.loop-link.slot c.pop_front.result rest c.pop_front.new.pool c.pop_front.new.slot
          c.loop-link.invariant.left (ap (row_in c.loop-link.pool.nodes) c.pop_front.ensures.value)
          (subst (λ s. IsSlotSet c.loop-link.pool s rest c.pop_front.new.pool c.pop_front.new.slot) (sym c.pop_front.ensures.value) (c.pop_front.ensures.row c.pop_front.result));
      total = omega (arith, c.loop-link.invariant.total, c.pop_front.ensures.total);
    }

pub returns-clause-row : goal.returns-clause-row
returns-clause-row g c =
    subst (λ ps. IsSlotSet c.args.pool.now c.args.slot.now ps c.loop-link.pool c.loop-link.slot) (ap (row_in c.loop-link.pool.nodes) c.in_default.ensures.none.1) c.loop-link.invariant.left.changed
