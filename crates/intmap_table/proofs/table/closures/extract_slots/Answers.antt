use Rattle.std.proofs.Common.{◌≡◌, ◌+◌, ◌-◌, ◌∙◌, length, length-set, set, refl, ap, arith}
use Rattle.intmap_table.specs.Classes.{slot_number}
use Rattle.intmap_table.specs.Picking.{PicksAt}
use Rattle.intmap_table.specs.Writes.{TakesPairMut}
use Rattle.intmap_table.specs.Tables.Rows.{IsTable}
use Rattle.intmap_table.proofs.ExtractLemmas.{All-ExtractsBehind, ExtractsBehind-end}
use Rattle.intmap_table.proofs.SlotNumberLemmas.{capacity-greatest}
use Rattle.intmap_table.proofs.TakingLemmas.{TakesEach-front}
use Rattle.intmap_table.proofs.Tables.CursorLemmas.{IsInRows-next, drop-none, drop-reached, row-few, IsInRows-reached, IsReached-at}
use Rattle.intmap_table.proofs.Tables.AroundLemmas.{IsRowWord-set}
use Rattle.intmap_table.proofs.Tables.ExtractLemmas.{IsAsked, ExtractsBehind-slot, IsInRows-left, IsInRows-step, StepsFrom-slot, TakesEach-slot, joined-few, place-on}
use Rattle.intmap_table.proofs.Tables.TableLemmas.{IsTable-set_at}
use Rattle.intmap_table.proofs.table.closures.extract_slots.Goals as goal
use Rattle.intmap_table.proofs.table.closures.extract_slots.Goals.{After-extract_at-found}

pub loop-slot-init : goal.loop-slot-init
loop-slot-init g c = record {
  callable = c.requires.callable;
  table = c.requires.table;
  len = refl;
  total = refl;
  few = c.requires.count;
  word = c.marks_from-left.ensures;
  at = IsInRows-reached g.K.IntKey.number_of c.args.slots.now.rows c.requires.table _ _ _ c.requires.reached;
  steps = λ r h N k step. step;
}

module _ (g : _) (c : After-extract_at-found g) where
  -- the pairs of the slot at hand were asked about, from the place on that was reached
  asked : IsAsked (PicksAt g.F.FnMut) c.loop-slot.slots.rows c.extract_at-found.ensures.step.0
      c.in-Some.slot c.loop-slot.at.place c.loop-slot.at.passed c.extract_at-found.new.place
      (c.loop-slot.at.passed + (c.extract_at-found.new.place - c.loop-slot.at.place)) c.loop-slot.f c.extract_at-found.new.f c.extract_at-found.result
  asked =
      let done = c.extract_at-found.ensures.step in let on = c.extract_at-found.ensures.on in
      record {
        below = c.in-Some.ensures.some.within;
        at = IsInRows-next _ _ _ _ c.loop-slot.invariant.at _ c.in-Some.ensures.some;
        on = omega (arith, on);
        within = done.3;
        step = done.2;
      }

  -- what is left of the rows
  left : c.extract_at-found.new.self.rows ≡ set c.loop-slot.slots.rows c.in-Some.slot c.extract_at-found.ensures.step.0
  left = c.extract_at-found.ensures.step.1

  len : length c.extract_at-found.new.self.rows ≡ length c.loop-slot.slots.rows
  len = ap length left ∙ length-set _ _ _

  -- they are a table
  table : IsTable g.K.IntKey.number_of c.extract_at-found.new.self.rows
  table =
      let old = c.loop-slot.invariant.table in
      rw left (IsTable-set_at _ _ old _ _ asked.below
      (All-ExtractsBehind (PicksAt g.F.FnMut) (λ p. slot_number g.K.IntKey.number_of p.0 (length c.loop-slot.slots.rows) ≡ c.in-Some.slot)
      (λ f p b h q call is. ap (λ k. slot_number g.K.IntKey.number_of k (length c.loop-slot.slots.rows)) call.0 ∙ is)
      _ _ _ _ _ _ _ asked.step (old.in_place c.in-Some.slot asked.below)))

pub extract_at-found-requires : goal.extract_at-found-requires
extract_at-found-requires g c =
    let at = IsInRows-next _ _ _ _ c.loop-slot.invariant.at _ c.in-Some.ensures.some in
    record {
      filled = c.in-Some.ensures.some.filled;
      within = at.within;
      callable = (let callable = rw (drop-reached _ _ _ _ at) at c.loop-slot.invariant.callable in TakesEach-front _ (TakesPairMut g.F.FnMut) _ _ _ callable);
    }

pub overflow_add-at : goal.overflow_add-at
overflow_add-at g c =
    let here = asked g (goal.at.overflow_add-at g c).After-extract_at-found in let moved = place-on here in let few = row-few _ _ _ _ here.at in
    omega (arith, moved, few, c.loop-slot.invariant.few)

pub returns-in-Some-found : goal.returns-in-Some-found
returns-in-Some-found g c =
    let at = (goal.at.returns-in-Some-found g c).After-extract_at-found in let here = asked g at in let loop = c.loop-slot.invariant in
    record {
      step = loop.steps _ _ _ _ (rw (left g at) (ExtractsBehind-slot here _ c.in-Some-found.is));
      table = table g at;
      reached = IsReached-at _ _ (table g at) _ _ _ (rw (left g at) (IsInRows-step here));
      len = len g at ∙ loop.len;
      total = c.extract_at-found.ensures.total ∙ loop.total;
    }

pub overflow_add-at-in-Some : goal.overflow_add-at-in-Some
overflow_add-at-in-Some g c =
    let below = c.in-Some.ensures.some.within in let most = capacity-greatest _ c.loop-slot.invariant.table.capacity in omega (arith, below, most)

pub loop-slot-smaller : goal.loop-slot-smaller
loop-slot-smaller g c =
    let below = c.in-Some.ensures.some.within in let len = len g (goal.at.loop-slot-smaller g c).After-extract_at-found in
    omega (arith, below, c.in-Some.ensures.some.behind, len)

pub loop-slot-preserved : goal.loop-slot-preserved
loop-slot-preserved g c =
    let at = (goal.at.loop-slot-preserved g c).After-extract_at-found in let here = asked g at in let loop = c.loop-slot.invariant in let few = joined-few here in
    record {
      callable = rw (left g at) (TakesEach-slot here (TakesPairMut g.F.FnMut) loop.callable);
      table = table g at;
      len = len g at ∙ loop.len;
      total = c.extract_at-found.ensures.total ∙ loop.total;
      few = rw (left g at) (omega (arith, few, loop.few));
      word = rw (left g at) (IsRowWord-set c.loop-slot.slots.rows c.in-Some.slot c.extract_at-found.ensures.step.0 _ _ c.in-Some.ensures.left);
      at = rw (left g at) (IsInRows-left here c.in_default-found.is);
      steps = λ r h N k next. loop.steps r h N k (StepsFrom-slot here c.in_default-found.is r h N k (rw (left g at) at next));
    }

pub returns : goal.returns
returns g c =
    let loop = c.loop-slot.invariant in
    record {
      step = loop.steps _ _ _ _ (ExtractsBehind-end (PicksAt g.F.FnMut) _ _ _ (drop-none _ _ _ _ loop.at c.in_default.ensures.none));
      table = loop.table;
      reached = IsReached-at _ c.loop-slot.slots.rows loop.table _ _ _ loop.at;
      len = loop.len;
      total = loop.total;
    }
