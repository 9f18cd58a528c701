use Rattle.std.proofs.Common.{◌∙◌, length-set, refl, sym, arith}
use Rattle.intmap_table.specs.Retaining.{KeepsAt, TakesPair}
use Rattle.intmap_table.specs.Tables.Nodes.{rows_in}
use Rattle.intmap_table.specs.Tables.WordRows.{word_rows}
use Rattle.intmap_table.proofs.Nodes.AskedLemmas.{Asked-emptied, Asked-filled, Asked-row, Asked-takes, Asked-within}
use Rattle.intmap_table.proofs.Tables.WordRowsLemmas.{AreAsked-start, AreAsked-end, length-word_rows}
use Rattle.intmap_table.proofs.table.slots.closures.retain_marked.Goals as goal

pub loop-left-init : goal.loop-left-init
loop-left-init g c = record {
  retained = record {
    linked = c.requires.linked;
    rows = record { len = refl; before = refl; behind = refl };
    word = c.requires.word;
    asked = AreAsked-start (KeepsAt g.F.FnMut) (TakesPair g.F.FnMut) (word_rows c.args.from (rows_in c.args.slots.now.items c.args.pool.now.nodes)) c.args.f.now c.args.word c.requires.word c.ranges.word.fits c.requires.callable;
  };
  len = refl;
  total = omega arith;
}

pub index_mut-slot-requires : goal.index_mut-slot-requires
index_mut-slot-requires g c =
    let within = Asked-within g.K.IntKey.number_of (KeepsAt g.F.FnMut) (TakesPair g.F.FnMut) _ c.args.from c.args.f.now _ _ _ _ _ c.loop-left.invariant.retained (omega (arith, c.loop-left-test.true)) in
    omega (arith, within, c.loop-left.slots.ok.0)

pub retain-requires-clause-leads : goal.retain-requires-clause-leads
retain-requires-clause-leads g c =
    (Asked-row g.K.IntKey.number_of (KeepsAt g.F.FnMut) (TakesPair g.F.FnMut) _ c.args.from c.args.f.now _ _ _ _ _ c.loop-left.invariant.retained (omega (arith, c.loop-left-test.true)) _ c.index_mut-slot.ensures.value).chain

pub retain-requires-clause-callable : goal.retain-requires-clause-callable
retain-requires-clause-callable g c =
    Asked-takes g.K.IntKey.number_of (KeepsAt g.F.FnMut) (TakesPair g.F.FnMut) _ c.args.from c.args.f.now _ _ _ _ _ c.loop-left.invariant.retained (omega (arith, c.loop-left-test.true)) _ c.index_mut-slot.ensures.value

pub loop-left-preserved-then-is_empty : goal.loop-left-preserved-then-is_empty
loop-left-preserved-then-is_empty g c = record {
  retained = Asked-emptied g.K.IntKey.number_of (KeepsAt g.F.FnMut) (TakesPair g.F.FnMut) _ c.args.from c.args.f.now _ _ _ _ _ c.loop-left.invariant.retained (omega (arith, c.loop-left-test.true)) _ c.index_mut-slot.ensures.value
      _ _ _ _ c.retain.ensures.row.1 c.retain.ensures.row.2 (sym c.is_empty.ensures ∙ c.if-is_empty.true);
  len = length-set _ _ _ ∙ c.loop-left.invariant.len;
  total = omega (arith, c.loop-left.invariant.total, c.retain.ensures.total);
}

pub loop-left-preserved : goal.loop-left-preserved
loop-left-preserved g c = record {
  retained = Asked-filled g.K.IntKey.number_of (KeepsAt g.F.FnMut) (TakesPair g.F.FnMut) _ c.args.from c.args.f.now _ _ _ _ _ c.loop-left.invariant.retained (omega (arith, c.loop-left-test.true)) _ c.index_mut-slot.ensures.value
      _ _ _ _ c.retain.ensures.row.1 c.retain.ensures.row.2 (sym c.is_empty.ensures ∙ c.if-is_empty.false);
  len = length-set _ _ _ ∙ c.loop-left.invariant.len;
  total = omega (arith, c.loop-left.invariant.total, c.retain.ensures.total);
}

pub returns-clause-linked : goal.returns-clause-linked
returns-clause-linked g c = c.loop-left.invariant.retained.linked

pub returns-clause-len : goal.returns-clause-len
returns-clause-len g c = c.loop-left.invariant.len

pub returns-clause-rows : goal.returns-clause-rows
returns-clause-rows g c = c.loop-left.invariant.retained.rows

pub returns-clause-pairs : goal.returns-clause-pairs
returns-clause-pairs g c =
    AreAsked-end (KeepsAt g.F.FnMut) (TakesPair g.F.FnMut) (word_rows c.args.from (rows_in c.args.slots.now.items c.args.pool.now.nodes)) c.args.f.now (word_rows c.args.from (rows_in c.loop-left.slots.items c.loop-left.pool.nodes)) c.loop-left.f
    (length-word_rows c.args.from (rows_in c.loop-left.slots.items c.loop-left.pool.nodes)) (rw c.loop-left-test.false at c.loop-left.invariant.retained.asked)

pub returns-clause-word : goal.returns-clause-word
returns-clause-word g c = c.loop-left.invariant.retained.word

pub returns-clause-total : goal.returns-clause-total
returns-clause-total g c = c.loop-left.invariant.total
