use Rattle.std.proofs.Common.{◌+◌, ◌∙◌, List, [], length, length-set, get_or, sym, ap, subst, arith}
use Rattle.intmap_table.specs.Tables.Rows.{IsRowWord}
use Rattle.intmap_table.proofs.SlotNumberLemmas.{capacity-greatest}
use Rattle.intmap_table.proofs.Tables.AroundLemmas.{IsRowWord-set}
use Rattle.intmap_table.proofs.Tables.CursorLemmas.{before-next, before-past}
use Rattle.intmap_table.proofs.Tables.KeepingLemmas.{KeepsRows-row, KeepsRows-then, before-all, before-behind}
use Rattle.intmap_table.proofs.table.keep.keep_slots.Goals as goal

pub loop-bits-init : goal.loop-bits-init
loop-bits-init g c =
    let done = c.keep_at.ensures in
    let rows = KeepsRows-row g.K.IntKey.number_of c.args.bits.now c.keep_at.new.bits c.args.slots.now.rows c.keep_at.new.self.rows c.args.at.now c.keep_at.new.place c.requires done.table done.rows done.pairs in
    record {
      rows = rows;
      next = λ more. before-behind c.keep_at.new.self.rows c.args.at.now.slot c.keep_at.new.place c.saturating_add-from.result (done.ends more) (capacity-greatest _ done.table.capacity) c.saturating_add-from.ensures;
      word = c.marks_from-left.ensures;
      total = done.total;
    }

pub returns-in_default-clause-ends : goal.returns-in_default-clause-ends
returns-in_default-clause-ends g c more = let all = before-all _ _ c.in_default.ensures.none in let same = c.loop-bits.invariant.next more in omega (arith, all, same)

pub loop-bits-smaller : goal.loop-bits-smaller
loop-bits-smaller g c =
    let next = c.in-Some.ensures.some in let len = ap length c.keep_at-in-loop-bits.ensures.rows ∙ length-set c.loop-bits.slots.rows c.in-Some.slot (get_or c.keep_at-in-loop-bits.new.self.rows c.in-Some.slot []) in
    omega (arith, next.behind, next.within, len)

pub loop-bits-preserved : goal.loop-bits-preserved
loop-bits-preserved g c =
    let loop = c.loop-bits.invariant in let next = c.in-Some.ensures.some in let done = c.keep_at-in-loop-bits.ensures in
    let S = c.loop-bits.slots.rows in let T = c.keep_at-in-loop-bits.new.self.rows in let i = c.in-Some.slot in
    record {
      rows = KeepsRows-then g.K.IntKey.number_of c.args.bits.now c.loop-bits.bits c.keep_at-in-loop-bits.new.bits c.args.slots.now.rows S T c.args.at.now c.loop-bits.at i c.keep_at-in-loop-bits.new.place
          loop.rows (before-next S c.loop-bits.from i next ∙ loop.next c.loop-bits-test.true) done.rows done.table done.pairs done.ends c.loop-bits-test.true next.filled;
      next = λ more. before-past T i c.keep_at-in-loop-bits.new.place (done.ends more);
      word = subst (λ (Z : List (List (g.row.K.Denot × g.row.X.Denot))). IsRowWord Z (i + 1) c.next_in.new.left.at c.next_in.new.left.word) (sym done.rows) (IsRowWord-set S i (get_or T i []) _ _ c.in-Some.ensures.left);
      total = done.total ∙ loop.total;
    }
