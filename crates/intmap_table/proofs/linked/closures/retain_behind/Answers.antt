use Rattle.std.proofs.Common.{true, false, refl, arith}
use Rattle.intmap_table.specs.Retaining.{KeepsAt, Retains, TakesPair}
use Rattle.intmap_table.specs.Tables.Nodes.{nowhere}
use Rattle.intmap_table.proofs.RetainLemmas.{Retains-append}
use Rattle.intmap_table.proofs.Nodes.AlongLemmas.{Along-start, Along-asks, Along-stays, Along-goes, Along-end}
use Rattle.intmap_table.proofs.Nodes.RetainedLemmas.{Retains-one, Retains-none}
use Rattle.intmap_table.proofs.Nodes.WalkedLemmas.{Walked-start, Walked-behind}
use Rattle.intmap_table.proofs.linked.closures.retain_behind.Goals as goal

pub loop-next-init : goal.loop-next-init
loop-next-init g c = record {
  walked = (
    c.requires.filled.0,
    c.requires.filled.1,
    Along-start (KeepsAt g.F.FnMut) (TakesPair g.F.FnMut) (Retains (KeepsAt g.F.FnMut)) c.args.pool.now c.args.link c.requires.filled.0 c.args.f.now _ _ c.args.slot.now nowhere c.args.link
        (Walked-start c.args.pool.now c.args.link c.requires.filled.0 c.args.slot.now c.requires.filled.1 c.requires.leads) c.requires.callable (refl, refl),
  );
  total = omega arith;
}

pub keeps_pair-requires : goal.keeps_pair-requires
keeps_pair-requires g c = Along-asks (KeepsAt g.F.FnMut) (TakesPair g.F.FnMut) (Retains (KeepsAt g.F.FnMut)) _ _ _ _ _ _ _ _ _ _ _ c.loop-next.invariant.walked.2 c.in-Some.next c.in-Some.pair.now c.in-Some.ensures.some

pub loop-next-smaller-then-keeps_pair : goal.loop-next-smaller-then-keeps_pair
loop-next-smaller-then-keeps_pair g c =
    let call = rw c.if-keeps_pair.true at c.keeps_pair.ensures in
    let on = Along-stays (KeepsAt g.F.FnMut) (TakesPair g.F.FnMut) (Retains (KeepsAt g.F.FnMut)) _ _ _ _ _ _ _ _ _ _ _ c.loop-next.invariant.walked.2 c.in-Some.next c.in-Some.pair.now c.in-Some.ensures.some
    (Retains-append (KeepsAt g.F.FnMut)) true c.keeps_pair.new.f call (Retains-one (KeepsAt g.F.FnMut) (TakesPair g.F.FnMut) _ _ _ call) in
    on.1

pub loop-next-preserved-then-keeps_pair : goal.loop-next-preserved-then-keeps_pair
loop-next-preserved-then-keeps_pair g c =
    let call = rw c.if-keeps_pair.true at c.keeps_pair.ensures in
    let on = Along-stays (KeepsAt g.F.FnMut) (TakesPair g.F.FnMut) (Retains (KeepsAt g.F.FnMut)) _ _ _ _ _ _ _ _ _ _ _ c.loop-next.invariant.walked.2 c.in-Some.next c.in-Some.pair.now c.in-Some.ensures.some
    (Retains-append (KeepsAt g.F.FnMut)) true c.keeps_pair.new.f call (Retains-one (KeepsAt g.F.FnMut) (TakesPair g.F.FnMut) _ _ _ call) in
    record { walked = (c.loop-next.invariant.walked.0, c.loop-next.invariant.walked.1, on.0); total = c.loop-next.invariant.total }

pub unlink-requires : goal.unlink-requires
unlink-requires g c =
    let w = c.loop-next.invariant.walked in
    Walked-behind c.args.pool.now c.args.link w.0 c.loop-next.pool c.loop-next.slot _ w.2.left c.loop-next.before c.loop-next.at w.2.walked c.in-Some.next c.in-Some.pair.now c.in-Some.ensures.some

pub loop-next-smaller : goal.loop-next-smaller
loop-next-smaller g c =
    let call = rw c.if-keeps_pair.false at c.keeps_pair.ensures in
    let on = Along-goes (KeepsAt g.F.FnMut) (TakesPair g.F.FnMut) (Retains (KeepsAt g.F.FnMut)) _ _ _ _ _ _ _ _ _ _ _ c.loop-next.invariant.walked.2 c.in-Some.next c.in-Some.pair.now c.in-Some.ensures.some
    (Retains-append (KeepsAt g.F.FnMut)) false c.keeps_pair.new.f call (Retains-none (KeepsAt g.F.FnMut) (TakesPair g.F.FnMut) _ _ _ call) c.unlink.result c.unlink.new.pool c.unlink.new.slot c.unlink.ensures.cut in
    on.1

pub loop-next-preserved : goal.loop-next-preserved
loop-next-preserved g c =
    let call = rw c.if-keeps_pair.false at c.keeps_pair.ensures in
    let on = Along-goes (KeepsAt g.F.FnMut) (TakesPair g.F.FnMut) (Retains (KeepsAt g.F.FnMut)) _ _ _ _ _ _ _ _ _ _ _ c.loop-next.invariant.walked.2 c.in-Some.next c.in-Some.pair.now c.in-Some.ensures.some
    (Retains-append (KeepsAt g.F.FnMut)) false c.keeps_pair.new.f call (Retains-none (KeepsAt g.F.FnMut) (TakesPair g.F.FnMut) _ _ _ call) c.unlink.result c.unlink.new.pool c.unlink.new.slot c.unlink.ensures.cut in
    record { walked = (c.loop-next.invariant.walked.0, c.loop-next.invariant.walked.1, on.0); total = omega (arith, c.loop-next.invariant.total, c.unlink.ensures.total) }

pub returns-clause-row : goal.returns-clause-row
returns-clause-row g c =
    let w = c.loop-next.invariant.walked in
    let done = Along-end (KeepsAt g.F.FnMut) (TakesPair g.F.FnMut) (Retains (KeepsAt g.F.FnMut)) _ _ _ _ _ _ _ _ _ _ _ w.2 c.in_default.ensures.none c.args.slot.now w.0 w.1 in
    (w.0, w.1, w.2.done, done.0, done.1)
