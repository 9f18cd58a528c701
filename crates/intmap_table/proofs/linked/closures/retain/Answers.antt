use Rattle.std.proofs.Common.{◌≡◌, true, [], ◌∷◌, ◌++◌, sym, ap, ◌∙◌, subst, refl, arith}
use Rattle.intmap_table.specs.Retaining.{KeepsAt, TakesPair, Retains}
use Rattle.intmap_table.specs.Taking.{TakesEach}
use Rattle.intmap_table.specs.Tables.Nodes.{Held, chain_of, row_in, IsSlot, IsSlotSet}
use Rattle.intmap_table.proofs.LeadsLemmas.{Leads}
use Rattle.intmap_table.proofs.TakingLemmas.{TakesEach-first, TakesEach-next}
use Rattle.intmap_table.proofs.Nodes.PathLemmas.{Chain-beyond}
use Rattle.intmap_table.proofs.Nodes.RetainedLemmas.{smaller_rest, Slot-same, Slot-then, gone_more, Leads-goes_first}
use Rattle.intmap_table.proofs.linked.closures.retain.Goals as goal
use Rattle.intmap_table.proofs.linked.closures.retain.Goals.{In-Some}

-- the pairs that are left
left : (g : _) (c : In-Some g) → row_in c.loop-link.pool.nodes c.loop-link.slot ≡ c.in-Some.first.now ∷ chain_of c.loop-link.pool.nodes c.in-Some.link
left g c = ap (row_in c.loop-link.pool.nodes) c.in-Some.ensures.some

-- the closure may be called at each
callable : (g : _) (c : In-Some g) → TakesEach (KeepsAt g.F.FnMut) (TakesPair g.F.FnMut) c.loop-link.f (c.in-Some.first.now ∷ chain_of c.loop-link.pool.nodes c.in-Some.link)
callable g c = subst (TakesEach (KeepsAt g.F.FnMut) (TakesPair g.F.FnMut) c.loop-link.f) (left g c) c.loop-link.invariant.callable

pub loop-link-init : goal.loop-link-init
loop-link-init g c = record {
  gone = ([], refl);
  row = Slot-same c.args.pool.now c.args.slot.now c.requires.leads;
  callable = c.requires.callable;
  leads = λ N h run. run;
  total = omega arith;
}

pub keeps_pair-requires : goal.keeps_pair-requires
keeps_pair-requires g c =
    let at = (goal.at.keeps_pair-requires g c).In-Some in
    TakesEach-first (KeepsAt g.F.FnMut) (TakesPair g.F.FnMut) c.loop-link.f c.in-Some.first.now (chain_of c.loop-link.pool.nodes c.in-Some.link) (callable g at)

pub retain_behind-requires-clause-callable : goal.retain_behind-requires-clause-callable
retain_behind-requires-clause-callable g c =
    let at = (goal.at.retain_behind-requires-clause-callable g c).In-Some in
    TakesEach-next (KeepsAt g.F.FnMut) (TakesPair g.F.FnMut) c.loop-link.f c.keeps_pair.new.f c.in-Some.first.now c.keeps_pair.result (chain_of c.loop-link.pool.nodes c.in-Some.link) (callable g at) c.keeps_pair.ensures

pub returns-else-link-lt-NODE_LIMIT-clause-row : goal.returns-else-link-lt-NODE_LIMIT-clause-row
returns-else-link-lt-NODE_LIMIT-clause-row g c =
    let at = (goal.at.returns-else-link-lt-NODE_LIMIT-clause-row g c).In-Some in
    let loop = c.loop-link.invariant in
    let pool = c.loop-link.pool in
    let first = c.in-Some.first.now in
    let chain = subst (IsSlot pool.nodes) c.in-Some.ensures.some loop.row.is in
    let alone : row_in pool.nodes c.loop-link.slot ≡ first ∷ [] = left g at ∙ ap (λ ps. first ∷ ps) (Chain-beyond pool.nodes c.in-Some.link chain (omega (arith, c.if-link-lt-NODE_LIMIT.false))) in
    let call = rw c.if-keeps_pair.true at c.keeps_pair.ensures in (
      row_in pool.nodes c.loop-link.slot,
      loop.row,
      subst (λ L. Retains (KeepsAt g.F.FnMut) c.args.f.now (row_in c.args.pool.now.nodes c.args.slot.now) L c.keeps_pair.new.f) (sym alone)
          (loop.leads (first ∷ []) c.keeps_pair.new.f
          (subst (λ L. Retains (KeepsAt g.F.FnMut) c.loop-link.f L (first ∷ []) c.keeps_pair.new.f) (sym alone) (true, c.keeps_pair.new.f, [], call, (refl, refl), refl))),
    )

pub returns-then-link-lt-NODE_LIMIT-clause-row : goal.returns-then-link-lt-NODE_LIMIT-clause-row
returns-then-link-lt-NODE_LIMIT-clause-row g c =
    let at = (goal.at.returns-then-link-lt-NODE_LIMIT-clause-row g c).In-Some in
    let run = c.retain_behind.ensures.row in
    let loop = c.loop-link.invariant in
    let pool = c.loop-link.pool in
    let first = c.in-Some.first.now in
    let both : Held c.in-Some.link run.0 ≡ Held c.in-Some.link first = sym run.1 ∙ c.in-Some.ensures.some in
    let same : run.0 ≡ first = cc in
    let call = rw c.if-keeps_pair.true at c.keeps_pair.ensures in (
      first ∷ run.2,
      Slot-then c.args.pool.now c.args.slot.now loop.gone.0 (row_in pool.nodes c.loop-link.slot) (first ∷ run.2) pool c.loop-link.slot c.retain_behind.new.pool c.retain_behind.new.slot loop.gone.1 loop.row (rw same at run.3),
      loop.leads (first ∷ run.2) c.retain_behind.new.f
          (subst (λ L. Retains (KeepsAt g.F.FnMut) c.loop-link.f L (first ∷ run.2) c.retain_behind.new.f) (sym (left g at)) (true, c.keeps_pair.new.f, run.2, call, run.4, refl)),
    )

pub loop-link-smaller : goal.loop-link-smaller
loop-link-smaller g c =
    let at = (goal.at.loop-link-smaller g c).In-Some in
    let out = c.pop_front.ensures.row c.in-Some.first.now in
    smaller_rest (row_in c.loop-link.pool.nodes c.loop-link.slot) c.in-Some.first.now (chain_of c.loop-link.pool.nodes c.in-Some.link) (row_in c.pop_front.new.pool.nodes c.pop_front.new.slot) (left g at) out.pairs

pub loop-link-preserved : goal.loop-link-preserved
loop-link-preserved g c =
    let at = (goal.at.loop-link-preserved g c).In-Some in
    let loop = c.loop-link.invariant in
    let pool = c.loop-link.pool in
    let first = c.in-Some.first.now in
    let chain = chain_of pool.nodes c.in-Some.link in
    let all = row_in c.args.pool.now.nodes c.args.slot.now in
    let out = c.pop_front.ensures.row first in
    let now = out.pairs in
    let set : IsSlotSet pool c.loop-link.slot (row_in c.pop_front.new.pool.nodes c.pop_front.new.slot) c.pop_front.new.pool c.pop_front.new.slot = rw (c.in-Some.ensures.some, now) out in
    let call = rw c.if-keeps_pair.false at c.keeps_pair.ensures in
    let total = loop.total in
    let more = c.pop_front.ensures.total in
    let split = loop.gone.1 ∙ ap (λ L. loop.gone.0 ++ L) (left g at) in
    record {
      gone = (loop.gone.0 ++ first ∷ [], subst (λ L. all ≡ (loop.gone.0 ++ first ∷ []) ++ L) (sym now) (gone_more all loop.gone.0 first chain split));
      row = Slot-then c.args.pool.now c.args.slot.now loop.gone.0 (row_in pool.nodes c.loop-link.slot) (row_in c.pop_front.new.pool.nodes c.pop_front.new.slot) pool c.loop-link.slot c.pop_front.new.pool c.pop_front.new.slot
          loop.gone.1 loop.row set;
      callable = subst (TakesEach (KeepsAt g.F.FnMut) (TakesPair g.F.FnMut) c.keeps_pair.new.f) (sym now)
          (TakesEach-next (KeepsAt g.F.FnMut) (TakesPair g.F.FnMut) c.loop-link.f c.keeps_pair.new.f first c.keeps_pair.result chain (callable g at) c.keeps_pair.ensures);
      leads = subst (λ L. Leads (Retains (KeepsAt g.F.FnMut)) c.args.f.now all c.keeps_pair.new.f [] L) (sym now)
          (Leads-goes_first (KeepsAt g.F.FnMut) (TakesPair g.F.FnMut) c.args.f.now c.loop-link.f c.keeps_pair.new.f all [] first chain call
          (subst (λ L. Leads (Retains (KeepsAt g.F.FnMut)) c.args.f.now all c.loop-link.f [] L) (left g at) loop.leads));
      total = omega (arith, total, more);
    }
