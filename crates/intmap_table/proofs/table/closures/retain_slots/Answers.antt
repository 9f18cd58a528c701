use Rattle.std.proofs.Common.{◌∙◌, [], refl, arith}
use Rattle.std.proofs.lemmas.List.{get_or_past}
use Rattle.intmap_table.specs.Retaining.{KeepsAt, Retains, TakesPair}
use Rattle.intmap_table.proofs.LeadsLemmas.{Leads-next}
use Rattle.intmap_table.proofs.RetainLemmas.{FoldsTo-Retains, Retains-append}
use Rattle.intmap_table.proofs.TakingLemmas.{TakesEach-behind, TakesEach-front}
use Rattle.intmap_table.proofs.Tables.AroundLemmas.{Leads-all}
use Rattle.intmap_table.proofs.Tables.WordRowsLemmas.{joined-done, joined-left}
use Rattle.intmap_table.proofs.table.closures.retain_slots.Goals as goal

pub loop-from-init : goal.loop-from-init
loop-from-init g c = record {
  callable = c.requires.callable;
  table = c.requires.table;
  len = refl;
  total = refl;
  start = refl;
  leads = λ N last run. run;
}

pub retain_word-requires-clause-callable : goal.retain_word-requires-clause-callable
retain_word-requires-clause-callable g c =
    let R = c.loop-from.slots.rows in
    TakesEach-front (KeepsAt g.F.FnMut) (TakesPair g.F.FnMut) _ _ _
    (rw (joined-left c.loop-from.from R R (record { len = refl; before = refl; behind = refl })) at c.loop-from.invariant.callable)

pub loop-from-preserved : goal.loop-from-preserved
loop-from-preserved g c =
    let Q = KeepsAt g.F.FnMut in let done = c.retain_word.ensures in let loop = c.loop-from.invariant in
    let left = joined-left c.loop-from.from c.loop-from.slots.rows _ done.rows in
    record {
      callable = TakesEach-behind Q (TakesPair g.F.FnMut) _ _ _ _ (rw left at loop.callable) (FoldsTo-Retains Q _ _ _ _ done.pairs);
      table = done.table;
      len = done.rows.len ∙ loop.len;
      total = done.total ∙ loop.total;
      start = omega (arith, loop.start);
      leads = rw (joined-done c.loop-from.from c.loop-from.slots.rows _ done.rows)
          (Leads-next (Retains Q) (Retains-append Q) _ _ _ _ _ _ _ _ (rw left at loop.leads) done.pairs);
    }

pub returns-clause-pairs : goal.returns-clause-pairs
returns-clause-pairs g c =
    Leads-all (Retains (KeepsAt g.F.FnMut)) _ _ _ _ c.loop-from.from (λ j le. get_or_past _ j [] (omega (arith, le, c.loop-from-test.false, c.len.ensures)))
    (refl, refl) c.loop-from.invariant.leads
