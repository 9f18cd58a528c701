use Rattle.std.proofs.Common.{◌≡◌, ◌∙◌, [], ◌∷◌, ◌++◌, None, get_or, set, sym, ap, arith}
use Rattle.intmap_table.specs.Bindings.{value_of}
use Rattle.intmap_table.specs.Classes.{slot_number}
use Rattle.intmap_table.specs.Tables.Slots.{Grid, joined}
use Rattle.intmap_table.proofs.Tables.LocationLemmas.{IsAt-added, IsTable-added}
use Rattle.intmap_table.proofs.Tables.TableLemmas.{IsSlot, walk-added, class_size-here, further-joined}
use Rattle.intmap_table.proofs.table.Table.add.Goals as goal
use Rattle.intmap_table.proofs.table.Table.add.Goals.{After-push, In-Ok}

here : (g : _) (c : After-push g) → IsSlot g.K.IntKey.number_of c.self.inside.slots.rows c.args.slot c.args.key
here g c = record {
  table = c.self.invariant;
  slot = c.requires.slot ∙ ap (λ (t : Grid _ _). slot_number g.K.IntKey.number_of c.args.key t.capacity) (sym c.self.view_is);
}

missing : (g : _) (c : After-push g) → value_of g.K.IntKey.number_of (joined c.self.inside.slots.rows) c.args.key ≡ None
missing g c = rw (← c.self.view_is) at c.requires.missing

pushed : (g : _) (c : In-Ok g) → c.push.new.self.rows ≡ set c.self.inside.slots.rows c.args.slot (get_or c.self.inside.slots.rows c.args.slot [] ++ (c.args.key, c.args.value) ∷ [])
pushed g c = rw (c.new.ensures.value, c.copied.ensures) at c.in-Ok.ensures.ok

pub returns-in-Err-clause-memory : goal.returns-in-Err-clause-memory
returns-in-Err-clause-memory g c =
    let at = here g (goal.at.returns-in-Err-clause-memory g c).After-push in
    rw (← c.self.view_is) (rw (class_size-here _ _ _ _ at) c.in-Err.ensures.memory)

pub invariant_of-self-2 : goal.invariant_of-self-2
invariant_of-self-2 g c =
    let w = goal.at.invariant_of-self-2 g c in
    rw (pushed g w.In-Ok) (IsTable-added _ _ _ _ (here g w.After-push) (missing g w.After-push) c.args.value)

pub returns-clause-at : goal.returns-clause-at
returns-clause-at g c =
    let w = goal.at.returns-clause-at g c in
    rw (pushed g w.In-Ok, c.in-Ok.ensures.place, c.key.ensures.value) (IsAt-added _ _ _ _ (here g w.After-push) (missing g w.After-push) c.args.value)

pub returns-clause-walk : goal.returns-clause-walk
returns-clause-walk g c =
    let w = goal.at.returns-clause-walk g c in
    rw (← c.self.view_is) (ap joined (pushed g w.In-Ok) ∙ walk-added _ _ _ _ (here g w.After-push) c.args.value (missing g w.After-push))

pub returns-in-Err-clause-succeeds : goal.returns-in-Err-clause-succeeds
returns-in-Err-clause-succeeds g c =
    let all = further-joined g.K.IntKey.number_of c.self.inside.slots.rows c.self.invariant in
    rw (← c.self.view_is) (λ room. c.in-Err.ensures.succeeds (omega (arith, all, room)))
