use Rattle.std.proofs.Common.{◌≡◌, ◌∙◌, [], ◌∷◌, ◌++◌, length, None, get_or, set, ap, subst}
use Rattle.intmap_table.specs.Bindings.{value_of}
use Rattle.intmap_table.specs.Locations.{IsAt}
use Rattle.intmap_table.specs.Tables.Slots.{joined}
use Rattle.intmap_table.proofs.Tables.FirstLemmas.{value_of-vacant, set-vacant}
use Rattle.intmap_table.proofs.Tables.LocationLemmas.{IsAt-added}
use Rattle.intmap_table.proofs.Tables.TableLemmas.{IsSlot, slot_of-joined, walk-added}
use Rattle.intmap_table.proofs.table.Table.fill.Goals as goal
use Rattle.intmap_table.proofs.table.Table.fill.Goals.{After-fill}

module _ (g : _) (c : After-fill g) where
  here : IsSlot g.K.IntKey.number_of c.self.inside.slots.rows c.args.slot c.args.key
  here = record { table = c.self.invariant; slot = rw (← c.self.view_is) at c.requires.slot }

  empty : get_or c.self.inside.slots.rows c.args.slot [] ≡ []
  empty = rw (slot_of-joined g.K.IntKey.number_of c.self.inside.slots.rows c.self.invariant c.args.slot) at (rw (← c.self.view_is) at c.requires.empty)

  missing : value_of g.K.IntKey.number_of (joined c.self.inside.slots.rows) c.args.key ≡ None
  missing = value_of-vacant g.K.IntKey.number_of c.self.inside.slots.rows c.args.slot c.args.key here empty

  filled : c.fill.new.self.rows ≡ set c.self.inside.slots.rows c.args.slot (get_or c.self.inside.slots.rows c.args.slot [] ++ (c.args.key, c.args.value) ∷ [])
  filled = (rw c.new.ensures.value at c.fill.ensures.rows) ∙ set-vacant g.K.IntKey.number_of c.self.inside.slots.rows c.args.slot c.args.key here empty c.args.value

pub fill-requires-clause-empty : goal.fill-requires-clause-empty
fill-requires-clause-empty g c = rw (slot_of-joined g.K.IntKey.number_of c.self.inside.slots.rows c.self.invariant c.args.slot) at (rw (← c.self.view_is) at c.requires.empty)

pub returns-clause-walk : goal.returns-clause-walk
returns-clause-walk g c =
    let w = (goal.at.returns-clause-walk g c).After-fill in
    rw (← c.self.view_is) (ap joined (filled g w) ∙ walk-added g.K.IntKey.number_of c.self.inside.slots.rows c.args.slot c.args.key (here g w) c.args.value (missing g w))

pub returns-clause-first : goal.returns-clause-first
returns-clause-first g c =
    let w = (goal.at.returns-clause-first g c).After-fill in
    let R = c.self.inside.slots.rows in
    let added = set R c.args.slot (get_or R c.args.slot [] ++ (c.args.key, c.args.value) ∷ []) in
    rw (filled g w) (subst (λ n. IsAt g.K.IntKey.number_of (joined added) (length added) (record { key = c.args.key; slot = c.args.slot; place = n })) (ap length (empty g w))
    (IsAt-added g.K.IntKey.number_of R c.args.slot c.args.key (here g w) (missing g w) c.args.value))

pub returns-clause-missing : goal.returns-clause-missing
returns-clause-missing g c = rw (← c.self.view_is) (missing g (goal.at.returns-clause-missing g c).After-fill)
