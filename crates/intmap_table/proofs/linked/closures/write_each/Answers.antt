use Rattle.std.proofs.Common.{◌≡◌, ◌<◌, [], ◌∷◌, length, refl, sym, ap, ◌∙◌, subst}
use Rattle.intmap_table.specs.Taking.{TakesEach}
use Rattle.intmap_table.specs.Writes.{TakesPairMut, Writes, WritesAt}
use Rattle.intmap_table.specs.Tables.Nodes.{nowhere, Held, chain_of, row_in}
use Rattle.intmap_table.proofs.TakingLemmas.{TakesEach-first, TakesEach-next}
use Rattle.intmap_table.proofs.WritesLemmas.{Writes-append}
use Rattle.intmap_table.proofs.Nodes.AlongLemmas.{Along-start, Along-asks, Along-changed, Along-end}
use Rattle.intmap_table.proofs.Nodes.WalkedLemmas.{Walked-start}
use Rattle.intmap_table.proofs.linked.closures.write_each.Goals as goal
use Rattle.intmap_table.proofs.linked.closures.write_each.Goals.{In-Some, After-write}

-- the pairs of the slot
row : (g : _) (c : In-Some g) → row_in c.args.pool.now.nodes c.args.slot.now ≡ c.in-Some.field-0-1.now ∷ chain_of c.args.pool.now.nodes c.in-Some.link
row g c = ap (row_in c.args.pool.now.nodes) c.in-Some.ensures.some

-- the closure may be called at each
callable : (g : _) (c : In-Some g) → TakesEach (WritesAt g.F.FnMut) (TakesPairMut g.F.FnMut) c.args.f.now (c.in-Some.field-0-1.now ∷ chain_of c.args.pool.now.nodes c.in-Some.link)
callable g c = subst (TakesEach (WritesAt g.F.FnMut) (TakesPairMut g.F.FnMut) c.args.f.now) (row g c) c.requires.callable

pub write-requires : goal.write-requires
write-requires g c =
    let at = (goal.at.write-requires g c).In-Some in (
      c.in-Some.link,
      c.in-Some.field-0-1.now,
      c.in-Some.ensures.some,
      TakesEach-first (WritesAt g.F.FnMut) (TakesPairMut g.F.FnMut) c.args.f.now c.in-Some.field-0-1.now (chain_of c.args.pool.now.nodes c.in-Some.link) (callable g at),
    )

-- what the slot has once its first value was written
module _ (g : _) (c : After-write g) where
  both : Held c.write.ensures.0 c.write.ensures.1 ≡ Held c.in-Some.link c.in-Some.field-0-1.now
  both = sym c.write.ensures.3 ∙ c.in-Some.ensures.some

  link : c.write.ensures.0 ≡ c.in-Some.link
  link = let e = both in cc

  pair : c.write.ensures.1 ≡ c.in-Some.field-0-1.now
  pair = let e = both in cc

  call : WritesAt g.F.FnMut c.args.f.now c.in-Some.field-0-1.now c.write.ensures.2 c.write.new.f
  call = subst (λ p. WritesAt g.F.FnMut c.args.f.now p c.write.ensures.2 c.write.new.f) pair c.write.ensures.5

  slot : c.write.new.self ≡ Held c.in-Some.link (c.in-Some.field-0-1.now.0, c.write.ensures.2)
  slot = c.write.ensures.4 ∙ ap (λ l. Held l (c.write.ensures.1.0, c.write.ensures.2)) link ∙ ap (λ p. Held c.in-Some.link (p.0, c.write.ensures.2)) pair

pub loop-next-init : goal.loop-next-init
loop-next-init g c =
    let at = (goal.at.loop-next-init g c).After-write in
    let first : g.row.K.Denot × g.row.V.Denot = (c.in-Some.field-0-1.now.0, c.write.ensures.2) in
    record {
      walked = (
        first,
        nowhere,
        Along-start (WritesAt g.F.FnMut) (TakesPairMut g.F.FnMut) (Writes (WritesAt g.F.FnMut)) c.args.pool.now c.in-Some.link first c.write.new.f _ _ c.write.new.self nowhere c.in-Some.link
            (Walked-start c.args.pool.now c.in-Some.link first c.write.new.self (slot g at) (rw c.in-Some.ensures.some at c.requires.leads))
            (TakesEach-next (WritesAt g.F.FnMut) (TakesPairMut g.F.FnMut) c.args.f.now c.write.new.f c.in-Some.field-0-1.now c.write.ensures.2 (chain_of c.args.pool.now.nodes c.in-Some.link) (callable g (goal.at.loop-next-init g c).In-Some) (call g at)) (refl, refl),
      );
      total = refl;
    }

pub write-requires-in-Some-get : goal.write-requires-in-Some-get
write-requires-in-Some-get g c = (
  c.in-Some-get.next,
  c.in-Some-get.field-0-1.now,
  c.in-Some-get.ensures.some,
  Along-asks (WritesAt g.F.FnMut) (TakesPairMut g.F.FnMut) (Writes (WritesAt g.F.FnMut)) _ _ _ _ _ _ _ _ _ _ _ c.loop-next.invariant.walked.2 c.in-Some-get.next c.in-Some-get.field-0-1.now c.in-Some-get.ensures.some,
)

pub loop-next-smaller : goal.loop-next-smaller
loop-next-smaller g c =
    let asked = c.write-in-Some-get.ensures in
    let on = Along-changed (WritesAt g.F.FnMut) (TakesPairMut g.F.FnMut) (Writes (WritesAt g.F.FnMut)) _ _ _ _ _ _ _ _ _ _ _ c.loop-next.invariant.walked.2 asked.0 asked.1 asked.3
    (Writes-append (WritesAt g.F.FnMut)) asked.2 c.write-in-Some-get.new.f asked.5 (asked.1.0, asked.2) (asked.2, c.write-in-Some-get.new.f, [], asked.5, (refl, refl), refl) c.write-in-Some-get.new.self asked.4 in
    let both : Held asked.0 asked.1 ≡ Held c.in-Some-get.next c.in-Some-get.field-0-1.now = sym asked.3 ∙ c.in-Some-get.ensures.some in
    let link : asked.0 ≡ c.in-Some-get.next = cc in
    subst (λ n. length (chain_of c.write-in-Some-get.new.self.nodes n) < length (chain_of c.loop-next.pool.nodes c.loop-next.at)) link on.1

pub loop-next-preserved : goal.loop-next-preserved
loop-next-preserved g c =
    let asked = c.write-in-Some-get.ensures in
    let on = Along-changed (WritesAt g.F.FnMut) (TakesPairMut g.F.FnMut) (Writes (WritesAt g.F.FnMut)) _ _ _ _ _ _ _ _ _ _ _ c.loop-next.invariant.walked.2 asked.0 asked.1 asked.3
    (Writes-append (WritesAt g.F.FnMut)) asked.2 c.write-in-Some-get.new.f asked.5 (asked.1.0, asked.2) (asked.2, c.write-in-Some-get.new.f, [], asked.5, (refl, refl), refl) c.write-in-Some-get.new.self asked.4 in
    let both : Held asked.0 asked.1 ≡ Held c.in-Some-get.next c.in-Some-get.field-0-1.now = sym asked.3 ∙ c.in-Some-get.ensures.some in
    let link : asked.0 ≡ c.in-Some-get.next = cc in
    rw (← link) (record { walked = (c.loop-next.invariant.walked.0, c.loop-next.at, on.0); total = asked.4.total ∙ c.loop-next.invariant.total })

pub returns-clause-row : goal.returns-clause-row
returns-clause-row g c =
    let at = (goal.at.returns-clause-row g c).After-write in
    let w = c.loop-next.invariant.walked in
    let old = c.in-Some.field-0-1.now in
    let end = Along-end (WritesAt g.F.FnMut) (TakesPairMut g.F.FnMut) (Writes (WritesAt g.F.FnMut)) _ _ _ _ _ _ _ _ _ _ _ w.2 c.in_default-get.ensures.none c.args.slot.now old c.in-Some.ensures.some in
    let both : Held w.2.walked.link w.0 ≡ Held c.in-Some.link (old.0, c.write.ensures.2) = sym w.2.walked.slot ∙ slot g at in
    let first : w.0 ≡ (old.0, c.write.ensures.2) = cc in (
      w.0 ∷ w.2.done,
      end.0,
      subst (λ L. Writes (WritesAt g.F.FnMut) c.args.f.now L (w.0 ∷ w.2.done) c.loop-next.f) (sym (row g (goal.at.returns-clause-row g c).In-Some))
          (c.write.ensures.2, c.write.new.f, w.2.done, call g at, end.1, ap (λ p. p ∷ w.2.done) first),
    )
