use Rattle.std.proofs.Common.{length, false, cond, subst}
use Rattle.std.specs.Prelude.{set}
use Rattle.intmap_table.specs.Picking.{PicksAt, ExtractsBehind}
use Rattle.intmap_table.specs.Tables.Nodes.{is_empty, rows_in, row_in}
use Rattle.intmap_table.proofs.Tables.FilledLemmas.{row-within}
use Rattle.intmap_table.proofs.Nodes.LinkedLemmas.{HaveRows, IsRow, Row-of, Row-changed}
use Rattle.intmap_table.proofs.Nodes.HomeLemmas.{Home-extracted}
use Rattle.intmap_table.proofs.table.slots.closures.Slots+K+Kept+V+A.extract_at.Goals as goal
use Rattle.intmap_table.proofs.table.slots.closures.Slots+K+Kept+V+A.extract_at.Goals.{After-index_mut-slot, After-extract-found}

module _ (g : _) (c : After-index_mut-slot g) where
  row : IsRow g.K.IntKey.number_of c.self.inside.slots.items c.self.inside.pool (rows_in c.self.inside.slots.items c.self.inside.pool.nodes) c.args.index c.index_mut-slot.result.now
  row =
      let some = rw (← c.self.view_is) at c.requires.filled in
      Row-of g.K.IntKey.number_of c.self.inside.slots.items c.self.inside.pool c.self.inside.bits c.self.inside.mask c.args.index c.index_mut-slot.result.now c.self.invariant (row-within (rows_in c.self.inside.slots.items c.self.inside.pool.nodes) c.args.index some) c.index_mut-slot.ensures.value

pub extract-found-requires-clause-leads : goal.extract-found-requires-clause-leads
extract-found-requires-clause-leads g c = (row g (goal.at.extract-found-requires-clause-leads g c).After-index_mut-slot).chain

-- the slots with what is left of the row
done : (g : _) (c : After-extract-found g) → IsRow g.K.IntKey.number_of c.self.inside.slots.items c.self.inside.pool (rows_in c.self.inside.slots.items c.self.inside.pool.nodes) c.args.index c.index_mut-slot.result.now
    → HaveRows g.K.IntKey.number_of (set c.self.inside.slots.items c.args.index c.extract-found.new.slot) c.extract-found.new.pool (cond (is_empty c.extract-found.new.slot) (set c.self.inside.bits c.args.index false) c.self.inside.bits) c.self.inside.mask (set (rows_in c.self.inside.slots.items c.self.inside.pool.nodes) c.args.index c.extract-found.ensures.step.0)
done g c r =
    let some = rw (← c.self.view_is) at c.requires.filled in
    Row-changed g.K.IntKey.number_of c.self.inside.slots.items c.self.inside.pool c.self.inside.bits c.self.inside.mask c.args.index c.index_mut-slot.result.now (λ ps. c.extract-found.ensures.step.0) c.extract-found.new.pool c.extract-found.new.slot c.self.invariant r c.extract-found.ensures.step.1
    (Home-extracted g.K.IntKey.number_of (length c.self.inside.slots.items) c.args.index g.F.FnMut c.args.f.now (row_in c.self.inside.pool.nodes c.index_mut-slot.result.now) c.args.place.now c.extract-found.result c.extract-found.new.f c.extract-found.ensures.step.0 c.extract-found.new.place c.extract-found.ensures.step.2 r.own) some

pub invariant_of-self : goal.invariant_of-self
invariant_of-self g c =
    let at = (goal.at.invariant_of-self g c).After-index_mut-slot in
    rw (c.unmark_if.ensures, c.is_empty.ensures) (done g (goal.at.invariant_of-self g c).After-extract-found (row g at)).are

pub returns-clause-step : goal.returns-clause-step
returns-clause-step g c =
    let at = (goal.at.returns-clause-step g c).After-index_mut-slot in
    let r = row g at in
    let step = subst (λ ps. ExtractsBehind (PicksAt g.F.FnMut) c.args.f.now ps c.args.place.now c.extract-found.result c.extract-found.new.f c.extract-found.ensures.step.0 c.extract-found.new.place) r.is c.extract-found.ensures.step.2 in
    rw (← c.self.view_is) (c.extract-found.ensures.step.0, (done g (goal.at.returns-clause-step g c).After-extract-found r).rows, step, c.extract-found.ensures.step.3)
