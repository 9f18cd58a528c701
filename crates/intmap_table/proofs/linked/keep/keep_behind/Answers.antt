use Rattle.std.proofs.Common.{◌∙◌, refl, arith}
use Rattle.intmap_table.proofs.Nodes.KeepingLemmas.{Keeping-start, Keeping-row, Keeping-end, Keeping-few, Keeping-behind, Keeping-stays, Keeping-goes}
use Rattle.intmap_table.proofs.linked.keep.keep_behind.Goals as goal

pub loop-bits-init : goal.loop-bits-init
loop-bits-init g c = record {
  walked = (
    c.in-Some.field-0-1.now,
    c.in-Some.ensures.some,
    Keeping-start c.args.pool.now c.in-Some.link c.in-Some.field-0-1.now c.args.bits.now c.args.place.now c.args.slot.now c.in-Some-find_behind.before c.in-Some-find_behind.at
        c.in-Some.ensures.some c.requires.behind c.in-Some-find_behind.ensures.some.1,
  );
  total = refl;
}

pub returns-in_default-get-clause-slot : goal.returns-in_default-get-clause-slot
returns-in_default-get-clause-slot g c = let w = c.loop-bits.invariant.walked in (Keeping-row _ _ w.0 _ c.args.place.now _ _ _ _ _ _ w.2 c.args.slot.now w.1).0

pub returns-in_default-get-clause-pairs : goal.returns-in_default-get-clause-pairs
returns-in_default-get-clause-pairs g c = let w = c.loop-bits.invariant.walked in (Keeping-row _ _ w.0 _ c.args.place.now _ _ _ _ _ _ w.2 c.args.slot.now w.1).1

pub returns-in_default-get-clause-ends : goal.returns-in_default-get-clause-ends
returns-in_default-get-clause-ends g c more =
    let w = c.loop-bits.invariant.walked in Keeping-end _ _ w.0 _ c.args.place.now _ _ _ _ _ _ w.2 c.in_default-get.ensures.none c.args.slot.now w.1

pub overflow_add-place : goal.overflow_add-place
overflow_add-place g c =
    let w = c.loop-bits.invariant.walked in
    let few = Keeping-few _ _ w.0 _ c.args.place.now _ _ _ _ _ _ w.2 c.in-Some-get.next c.in-Some-get.field-0-1.now c.in-Some-get.ensures.some in
    omega (arith, few)

pub unlink-requires : goal.unlink-requires
unlink-requires g c =
    let w = c.loop-bits.invariant.walked in Keeping-behind _ _ w.0 _ c.args.place.now _ _ _ _ _ _ w.2 c.in-Some-get.next c.in-Some-get.field-0-1.now c.in-Some-get.ensures.some

pub loop-bits-preserved-then-next : goal.loop-bits-preserved-then-next
loop-bits-preserved-then-next g c =
    let w = c.loop-bits.invariant.walked in
    record {
      walked = (w.0, w.1, Keeping-stays _ _ w.0 _ c.args.place.now _ _ _ _ _ _ w.2 c.in-Some-get.next c.in-Some-get.field-0-1.now c.in-Some-get.ensures.some _ c.if-next.ensures);
      total = c.loop-bits.invariant.total;
    }

pub loop-bits-preserved : goal.loop-bits-preserved
loop-bits-preserved g c =
    let w = c.loop-bits.invariant.walked in
    record {
      walked = (
        w.0,
        w.1,
        Keeping-goes _ _ w.0 _ c.args.place.now _ _ _ _ _ _ w.2 c.in-Some-get.next c.in-Some-get.field-0-1.now c.in-Some-get.ensures.some _ c.if-next.ensures c.unlink.result _ _ c.unlink.ensures.cut,
      );
      total = c.unlink.ensures.total ∙ c.loop-bits.invariant.total;
    }

pub returns-clause-slot : goal.returns-clause-slot
returns-clause-slot g c = let w = c.loop-bits.invariant.walked in (Keeping-row _ _ w.0 _ c.args.place.now _ _ _ _ _ _ w.2 c.args.slot.now w.1).0

pub returns-clause-pairs : goal.returns-clause-pairs
returns-clause-pairs g c = let w = c.loop-bits.invariant.walked in (Keeping-row _ _ w.0 _ c.args.place.now _ _ _ _ _ _ w.2 c.args.slot.now w.1).1
