use Rattle.std.proofs.Common.{◌≡◌, ◌∙◌, length, length-set, refl, ap, sym, arith}
use Rattle.intmap_table.specs.Classes.{slot_number}
use Rattle.intmap_table.specs.Writes.{TakesPairMut, Writes, WritesAt}
use Rattle.intmap_table.proofs.SlotNumberLemmas.{capacity-greatest}
use Rattle.intmap_table.proofs.TakingLemmas.{TakesEach-front}
use Rattle.intmap_table.proofs.WritesLemmas.{FoldsTo-Writes, Writes-append, keys_of-Writes}
use Rattle.intmap_table.proofs.Tables.AroundLemmas.{next-left, Leads-all, IsRowWord-set, Leads-row, TakesEach-row}
use Rattle.intmap_table.proofs.Tables.SameKeysLemmas.{All-same_keys}
use Rattle.intmap_table.proofs.Tables.TableLemmas.{IsTable-set_at}
use Rattle.intmap_table.proofs.table.closures.write_slots.Goals as goal

pub loop-index-init : goal.loop-index-init
loop-index-init g c = record {
  callable = c.requires.callable;
  table = c.requires.table;
  len = refl;
  total = refl;
  word = c.marks_from-left.ensures;
  leads = λ N last run. run;
}

pub write_at-requires-clause-filled : goal.write_at-requires-clause-filled
write_at-requires-clause-filled g c = c.in-Some.ensures.some.filled

pub write_at-requires-clause-callable : goal.write_at-requires-clause-callable
write_at-requires-clause-callable g c =
    TakesEach-front (WritesAt g.F.FnMut) (TakesPairMut g.F.FnMut) _ _ _ (rw (next-left _ _ _ c.in-Some.ensures.some) at c.loop-index.invariant.callable)

pub overflow_add-from : goal.overflow_add-from
overflow_add-from g c =
    let below = c.in-Some.ensures.some.within in let most = capacity-greatest _ c.loop-index.invariant.table.capacity in omega (arith, below, most)

pub loop-index-smaller : goal.loop-index-smaller
loop-index-smaller g c =
    let below = c.in-Some.ensures.some.within in let len = ap length c.write_at.ensures.row.1 ∙ length-set _ _ _ in
    omega (arith, below, c.in-Some.ensures.some.behind, len)

pub loop-index-preserved : goal.loop-index-preserved
loop-index-preserved g c =
    let loop = c.loop-index.invariant in let done = c.write_at.ensures.row in let next = c.in-Some.ensures.some in
    let Q = WritesAt g.F.FnMut in let R = c.loop-index.slots.rows in
    let from = c.loop-index.from in let index = c.in-Some.index in
    rw done.1 (record {
      callable = TakesEach-row R from index done.0 next Q (TakesPairMut g.F.FnMut) _ _ loop.callable (FoldsTo-Writes Q _ _ _ _ done.2);
      table = IsTable-set_at _ R loop.table index done.0 next.within
          (All-same_keys (λ k. slot_number g.K.IntKey.number_of k (length R) ≡ index) _ done.0 (sym (keys_of-Writes Q _ _ _ _ done.2)) (loop.table.in_place index next.within));
      len = length-set R index done.0 ∙ loop.len;
      total = c.write_at.ensures.total ∙ loop.total;
      word = IsRowWord-set R index done.0 _ _ c.in-Some.ensures.left;
      leads = Leads-row R from index done.0 next _ _ _ _ (Writes Q) (Writes-append Q) loop.leads done.2;
    })

pub returns : goal.returns
returns g c =
    let loop = c.loop-index.invariant in let none = c.in_default.ensures.none in
    record {
      pairs = Leads-all (Writes (WritesAt g.F.FnMut)) _ _ _ _ _ none (refl, refl) loop.leads;
      table = loop.table;
      len = loop.len;
      total = loop.total;
    }
