use Rattle.std.proofs.Common.{◌≡◌, ◌∷◌, ◌++◌, ◌∙◌, [], None, ap, sym}
use Rattle.intmap_table.specs.Bindings.{put_pair, value_of}
use Rattle.intmap_table.specs.Tables.Slots.{Grid, joined}
use Rattle.intmap_table.specs.Tables.Rows.{HasMoved}
use Rattle.intmap_table.specs.Walk.{walk_of}
use Rattle.intmap_table.proofs.LocationLemmas.{put_pair-new}
use Rattle.intmap_table.proofs.Tables.GrownLemmas.{IsGrown-from}
use Rattle.intmap_table.proofs.Tables.LocationLemmas.{IsAt-new}
use Rattle.intmap_table.proofs.Tables.MovedLemmas.{joined-moved, IsTable-moved}
use Rattle.intmap_table.proofs.table.Table.grow_and_add.Goals as goal
use Rattle.intmap_table.proofs.table.Table.grow_and_add.Goals.{In-Ok}

module _ (g : _) (c : In-Ok g) where
  moved : HasMoved g.K.IntKey.number_of (joined c.self.inside.slots.rows ++ (c.args.key, c.args.value) ∷ []) c.args.capacity c.grow_and_push-pushed.new.self.rows
  moved = record { capacity = c.requires.capacity; len = c.in-Ok.ensures.len; rows = rw (c.new.ensures.value, c.copied.ensures) at c.in-Ok.ensures.rows }

  missing : value_of g.K.IntKey.number_of (joined c.self.inside.slots.rows) c.args.key ≡ None
  missing = rw (← c.self.view_is) at c.requires.missing

  -- the pairs are those of the table, as it is seen, with the new one
  walk : joined c.grow_and_push-pushed.new.self.rows ≡ walk_of g.K.IntKey.number_of (put_pair g.K.IntKey.number_of c.args.self.now.walk c.args.self.now.capacity c.args.key c.args.value) c.args.capacity
  walk =
      joined-moved g.K.IntKey.number_of _ _ _ moved
      ∙ ap (λ L. walk_of g.K.IntKey.number_of L c.args.capacity)
      (ap (λ (t : Grid _ _). t.walk ++ (c.args.key, c.args.value) ∷ []) c.self.view_is
      ∙ sym (put_pair-new g.K.IntKey.number_of c.args.self.now.walk c.args.self.now.capacity c.args.key c.args.value c.requires.missing))

pub grow_and_push-pushed-requires-clause-grown : goal.grow_and_push-pushed-requires-clause-grown
grow_and_push-pushed-requires-clause-grown g c = IsGrown-from _ _ c.self.invariant.capacity c.requires.capacity (rw (← c.self.view_is) at c.requires.larger)

pub invariant_of-self-2 : goal.invariant_of-self-2
invariant_of-self-2 g c = IsTable-moved g.K.IntKey.number_of _ _ _ (moved g (goal.at.invariant_of-self-2 g c).In-Ok)

pub returns-clause-walk : goal.returns-clause-walk
returns-clause-walk g c = walk g (goal.at.returns-clause-walk g c).In-Ok

pub returns-clause-at : goal.returns-clause-at
returns-clause-at g c =
    let at = (goal.at.returns-clause-at g c).In-Ok in
    rw c.key.ensures.value (IsAt-new _ _ _ _ _ _ (moved g at) _ c.index_of-target.ensures.slot (missing g at) _ c.in-Ok.ensures.place)
