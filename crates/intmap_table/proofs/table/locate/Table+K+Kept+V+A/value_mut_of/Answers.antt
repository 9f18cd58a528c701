use borrow.Follows.Closed.{read_of}
use Rattle.std.proofs.Common.{◌+◌, length, sym, ap, ◌∙◌}
use Rattle.std.specs.Option.{ghost_name_of}
use Rattle.intmap_table.specs.Tables.Slots.{Grid, joined}
use Rattle.intmap_table.proofs.Tables.TableLemmas.{IsSlot, reach-here, value_of-here}
use Rattle.intmap_table.proofs.Tables.LocationLemmas.{Grid-written, IsTable-written}
use Rattle.intmap_table.proofs.table.locate.Table+K+Kept+V+A.value_mut_of.Goals as goal
use Rattle.intmap_table.proofs.table.locate.Table+K+Kept+V+A.value_mut_of.Goals.{After-value_mut_of}

here : (g : _) (c : After-value_mut_of g) → IsSlot g.K.IntKey.number_of c.self.inside.slots.rows c.index_of-slot.result c.new-key.result
here g c = record { table = c.self.invariant; slot = c.index_of-slot.ensures.slot }

pub invariant_of-self-lent : goal.invariant_of-self-lent
invariant_of-self-lent g c _ = (λ w. IsTable-written g.K.IntKey.number_of c.self.inside.slots.rows _ _ (here g (goal.at.invariant_of-self-lent g c).After-value_mut_of) _ w, c.self.invariant)

pub returns : goal.returns
returns g c =
    let number = g.K.IntKey.number_of in
    let rows = c.self.inside.slots.rows in
    let at = here g (goal.at.returns g c).After-value_mut_of in
    let once = rw (← c.self.view_is) at c.requires.once in
    let grid : Grid g.row.K.Denot g.row.V.Denot = record { walk = joined rows; capacity = length rows; nodes = c.self.inside.slots.total } in
    rw (← c.self.view_is, ← c.new-key.ensures.value) (
      λ t. read_of (ghost_name_of c.value_mut_of.result) (λ (w : g.row.V.Denot). Grid-written number rows c.index_of-slot.result c.new-key.result at w once c.self.inside.slots.total t) grid,
      record {
        writes_back = tt;
        value = c.value_mut_of.ensures.value ∙ sym (value_of-here number rows c.index_of-slot.result c.new-key.result at);
        counted = c.value_mut_of.ensures.counted ∙ ap (λ n. c.args.steps.now + n) (sym (reach-here number rows c.index_of-slot.result c.new-key.result at));
      },
    )
