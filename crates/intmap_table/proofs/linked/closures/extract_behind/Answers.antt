use Rattle.std.proofs.Common.{◌≡◌, length, refl, sym, ap, ◌∙◌, subst, arith}
use Rattle.intmap_table.specs.Picking.{PicksAt}
use Rattle.intmap_table.specs.Writes.{TakesPairMut}
use Rattle.intmap_table.specs.Tables.Nodes.{Held, node_at, row_in, IsChanged}
use Rattle.intmap_table.proofs.Nodes.PickedLemmas.{Picked-start, Picked-asks, Picked-few, Picked-behind, Picked-stays, Picked-goes, Picked-end}
use Rattle.intmap_table.proofs.linked.closures.extract_behind.Goals as goal
use Rattle.intmap_table.proofs.linked.closures.extract_behind.Goals.{After-pick}

-- the node that was asked about is the one that was read
module _ (g : _) (c : After-pick g) where
  both : Held c.pick.ensures.0 c.pick.ensures.1 ≡ Held c.in-Some.next c.in-Some.field-0-1.now
  both = sym c.pick.ensures.3 ∙ c.in-Some.ensures.some

  link : c.pick.ensures.0 ≡ c.in-Some.next
  link = let e = both in cc

  held : node_at c.loop-next.pool.nodes c.loop-next.at ≡ Held c.in-Some.next c.pick.ensures.1
  held = c.pick.ensures.3 ∙ ap (λ n. Held n c.pick.ensures.1) link

  changed : IsChanged c.loop-next.pool c.loop-next.at c.in-Some.next c.pick.ensures.2 c.pick.new.self
  changed = subst (λ n. IsChanged c.loop-next.pool c.loop-next.at n c.pick.ensures.2 c.pick.new.self) link c.pick.ensures.4

pub loop-next-init : goal.loop-next-init
loop-next-init g c = record {
  walked = (
    c.requires.filled.0,
    c.requires.filled.1,
    Picked-start (PicksAt g.F.FnMut) (TakesPairMut g.F.FnMut) c.args.pool.now c.args.link c.requires.filled.0 c.args.f.now c.args.place.now c.args.slot.now c.seek_behind-before.result.0 c.seek_behind-before.result.1
        c.requires.filled.1 c.requires.behind
        c.seek_behind-before.ensures c.requires.callable,
  );
  total = refl;
}

pub seek_behind-before-requires-clause-within : goal.seek_behind-before-requires-clause-within
seek_behind-before-requires-clause-within g c = let row = ap (λ s. length (row_in c.args.pool.now.nodes s)) c.requires.filled.1 in omega (arith, c.requires.within, row)

pub pick-requires : goal.pick-requires
pick-requires g c = (
  c.in-Some.next,
  c.in-Some.field-0-1.now,
  c.in-Some.ensures.some,
  Picked-asks (PicksAt g.F.FnMut) (TakesPairMut g.F.FnMut) _ _ _ _ c.args.place.now _ _ _ _ _ _ c.loop-next.invariant.walked.2 c.in-Some.next c.in-Some.field-0-1.now c.in-Some.ensures.some,
)

pub unlink-requires : goal.unlink-requires
unlink-requires g c =
    let at = (goal.at.unlink-requires g c).After-pick in
    Picked-behind (PicksAt g.F.FnMut) (TakesPairMut g.F.FnMut) _ _ _ _ c.args.place.now _ _ _ _ _ _ c.loop-next.invariant.walked.2 c.in-Some.next c.pick.ensures.1 (held g at) c.pick.ensures.2 c.pick.new.self c.pick.new.f (changed g at)

pub returns-then-pick-clause-step : goal.returns-then-pick-clause-step
returns-then-pick-clause-step g c =
    let at = (goal.at.returns-then-pick-clause-step g c).After-pick in
    Picked-goes (PicksAt g.F.FnMut) (TakesPairMut g.F.FnMut) _ _ _ _ c.args.place.now _ _ _ _ _ _ c.loop-next.invariant.walked.2 c.in-Some.next c.pick.ensures.1 (held g at) c.pick.ensures.2 c.pick.new.self c.pick.new.f (changed g at) (rw c.if-pick.true at c.pick.ensures.5)
    c.unlink.result c.unlink.new.pool c.unlink.new.slot c.unlink.ensures.cut c.requires.behind c.args.slot.now c.loop-next.invariant.walked.1

pub returns-then-pick-clause-on : goal.returns-then-pick-clause-on
returns-then-pick-clause-on g c = c.loop-next.invariant.walked.2.on

pub returns-then-pick-clause-total : goal.returns-then-pick-clause-total
returns-then-pick-clause-total g c = omega (arith, c.loop-next.invariant.total, c.pick.ensures.4.total, c.unlink.ensures.total)

pub overflow_add-place : goal.overflow_add-place
overflow_add-place g c =
    let few = Picked-few (PicksAt g.F.FnMut) (TakesPairMut g.F.FnMut) _ _ _ _ c.args.place.now _ _ _ _ _ _ c.loop-next.invariant.walked.2 c.in-Some.next c.in-Some.field-0-1.now c.in-Some.ensures.some in
    omega (arith, few)

pub loop-next-smaller : goal.loop-next-smaller
loop-next-smaller g c =
    let at = (goal.at.loop-next-smaller g c).After-pick in
    let on = Picked-stays (PicksAt g.F.FnMut) (TakesPairMut g.F.FnMut) _ _ _ _ c.args.place.now _ _ _ _ _ _ c.loop-next.invariant.walked.2 c.in-Some.next c.pick.ensures.1 (held g at) c.pick.ensures.2 c.pick.new.self c.pick.new.f (changed g at) (rw c.if-pick.false at c.pick.ensures.5) in
    on.1

pub loop-next-preserved : goal.loop-next-preserved
loop-next-preserved g c =
    let at = (goal.at.loop-next-preserved g c).After-pick in
    let on = Picked-stays (PicksAt g.F.FnMut) (TakesPairMut g.F.FnMut) _ _ _ _ c.args.place.now _ _ _ _ _ _ c.loop-next.invariant.walked.2 c.in-Some.next c.pick.ensures.1 (held g at) c.pick.ensures.2 c.pick.new.self c.pick.new.f (changed g at) (rw c.if-pick.false at c.pick.ensures.5) in
    record {
      walked = (c.loop-next.invariant.walked.0, c.loop-next.invariant.walked.1, on.0);
      total = c.loop-next.invariant.total ∙ sym c.pick.ensures.4.total;
    }

pub returns-clause-step : goal.returns-clause-step
returns-clause-step g c = Picked-end (PicksAt g.F.FnMut) (TakesPairMut g.F.FnMut) _ _ _ _ c.args.place.now _ _ _ _ _ _ c.loop-next.invariant.walked.2 c.in_default.ensures.none c.requires.behind c.args.slot.now c.loop-next.invariant.walked.1

pub returns-clause-on : goal.returns-clause-on
returns-clause-on g c = c.loop-next.invariant.walked.2.on
