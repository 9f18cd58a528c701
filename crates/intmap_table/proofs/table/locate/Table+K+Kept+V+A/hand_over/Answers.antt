use Rattle.std.proofs.Common.{◌≡◌, Some, [], ◌∷◌, ◌++◌, ◌∙◌, get_or, length, length-set, set, ap, sym, arith, get_or-set_same}
use Rattle.std.proofs.lemmas.List.{set-set}
use Rattle.intmap_table.specs.Bindings.{value_of}
use Rattle.intmap_table.specs.Classes.{slot_number}
use Rattle.intmap_table.specs.Locations.{IsAt}
use Rattle.intmap_table.specs.Tables.Slots.{joined}
use Rattle.intmap_table.proofs.Tables.LocationLemmas.{slot-at, place-within, value_of-pair, swap_out-at}
use Rattle.intmap_table.proofs.Tables.TableLemmas.{IsSlot, row_without, within, walk-taken, walk-put, Belong-taken, IsTable-set, IsTable-put}
use Rattle.intmap_table.proofs.table.locate.Table+K+Kept+V+A.hand_over.Goals as goal
use Rattle.intmap_table.proofs.table.locate.Table+K+Kept+V+A.hand_over.Goals.{After-take_at-kept, After-put_back}

module _ (g : _) (c : After-take_at-kept g) where
  located : IsAt g.K.IntKey.number_of (joined c.self.inside.slots.rows) (length c.self.inside.slots.rows) c.args.at
  located = rw (← c.self.view_is) at c.requires.at

  slot : IsSlot g.K.IntKey.number_of c.self.inside.slots.rows c.args.at.slot c.args.at.key
  slot = slot-at _ c.self.inside.slots.rows c.args.at c.self.invariant located

  bound : value_of g.K.IntKey.number_of c.args.self.now.walk c.args.at.key ≡ Some c.take_at-kept.result.1
  bound = rw (← c.self.view_is) (value_of-pair _ c.self.inside.slots.rows c.args.at c.self.invariant located c.take_at-kept.result c.take_at-kept.ensures.value)

  -- the row of the slot is that without the key
  taken : c.take_at-kept.new.self.rows ≡ set c.self.inside.slots.rows c.args.at.slot (row_without g.K.IntKey.number_of c.self.inside.slots.rows c.args.at.slot c.args.at.key slot)
  taken =
      c.take_at-kept.ensures.rows
      ∙ ap (set c.self.inside.slots.rows c.args.at.slot) (swap_out-at _ c.self.inside.slots.rows c.args.at c.self.invariant located c.take_at-kept.result c.take_at-kept.ensures.value)

-- and then that with the pair at its end
module _ (g : _) (c : After-put_back g) (slot : IsSlot g.K.IntKey.number_of c.self.inside.slots.rows c.args.at.slot c.args.at.key) where
  put : c.take_at-kept.new.self.rows ≡ set c.self.inside.slots.rows c.args.at.slot (row_without g.K.IntKey.number_of c.self.inside.slots.rows c.args.at.slot c.args.at.key slot)
      → c.put_back.new.self.rows ≡ set c.self.inside.slots.rows c.args.at.slot (row_without g.K.IntKey.number_of c.self.inside.slots.rows c.args.at.slot c.args.at.key slot ++ (c.args.at.key, c.in-Err.back) ∷ [])
  put taken =
      let R = c.self.inside.slots.rows in let i = c.args.at.slot in let row = row_without g.K.IntKey.number_of R i c.args.at.key slot in
      c.put_back.ensures.rows ∙ (λ k. set (taken k) i (get_or (taken k) i [] ++ ((c.new-in-Err.ensures.value ∙ c.new.ensures.value) k, c.in-Err.back) ∷ []))
      ∙ ap (λ ps. set (set R i row) i (ps ++ (c.args.at.key, c.in-Err.back) ∷ [])) (get_or-set_same R i row [] (within _ _ _ _ slot)) ∙ set-set R i row _

pub take_at-kept-requires : goal.take_at-kept-requires
take_at-kept-requires g c = place-within _ c.self.inside.slots.rows c.args.at c.self.invariant (rw (← c.self.view_is) at c.requires.at)

pub hand_value-requires : goal.hand_value-requires
hand_value-requires g c = c.requires.callable c.take_at-kept.result.1 (bound g (goal.at.hand_value-requires g c).After-take_at-kept)

pub invariant_of-self : goal.invariant_of-self
invariant_of-self g c =
    let after = (goal.at.invariant_of-self g c).After-take_at-kept in
    rw (taken g after) (IsTable-set _ _ _ _ (slot g after) _ (Belong-taken _ _ _ _ (slot g after)))

pub returns-in-Ok-clause-handed : goal.returns-in-Ok-clause-handed
returns-in-Ok-clause-handed g c =
    let after = (goal.at.returns-in-Ok-clause-handed g c).After-take_at-kept in
    (c.take_at-kept.result.1, bound g after, (c.in-Ok.ensures, rw (← c.self.view_is) (ap joined (taken g after) ∙ walk-taken _ _ _ _ (slot g after))))

pub put_back-requires-clause-within : goal.put_back-requires-clause-within
put_back-requires-clause-within g c =
    let after = (goal.at.put_back-requires-clause-within g c).After-take_at-kept in
    let below = within _ _ _ _ (slot g after) in let len = ap length c.take_at-kept.ensures.rows ∙ length-set _ _ _ in omega (arith, below, len)

pub put_back-requires-clause-own : goal.put_back-requires-clause-own
put_back-requires-clause-own g c =
    let after = (goal.at.put_back-requires-clause-own g c).After-take_at-kept in
    let len = ap length c.take_at-kept.ensures.rows ∙ length-set _ _ _ in
    (λ k. slot_number g.K.IntKey.number_of ((c.new-in-Err.ensures.value ∙ c.new.ensures.value) k) (len k)) ∙ sym (slot g after).slot

pub invariant_of-self-in-Err : goal.invariant_of-self-in-Err
invariant_of-self-in-Err g c =
    let after = (goal.at.invariant_of-self-in-Err g c).After-take_at-kept in
    rw (put g (goal.at.invariant_of-self-in-Err g c).After-put_back (slot g after) (taken g after))
    (IsTable-put _ _ _ _ (slot g after) c.in-Err.back)

pub returns-in-Err-clause-handed : goal.returns-in-Err-clause-handed
returns-in-Err-clause-handed g c =
    let after = (goal.at.returns-in-Err-clause-handed g c).After-take_at-kept in
    let put = put g (goal.at.returns-in-Err-clause-handed g c).After-put_back (slot g after) (taken g after) in
    (c.take_at-kept.result.1, bound g after, (c.in-Err.back, c.in-Err.ensures, rw (← c.self.view_is) (ap joined put ∙ walk-put _ _ _ _ (slot g after) c.in-Err.back)))
