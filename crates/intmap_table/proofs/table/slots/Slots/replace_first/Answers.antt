use Rattle.std.proofs.Common.{◌≡◌, ◌<◌, ◌++◌, [], ◌∷◌, length, ap, sym, ◌∙◌, length-append, arith}
use Rattle.std.specs.Prelude.{get_or, set, swap_remove}
use Rattle.std.proofs.lemmas.List.{length-map}
use Rattle.intmap_table.specs.Classes.{slot_number}
use Rattle.intmap_table.specs.Tables.Nodes.{rows_in, row_in}
use Rattle.intmap_table.proofs.Tables.FilledLemmas.{row-within}
use Rattle.intmap_table.proofs.Nodes.LinkedLemmas.{HaveRows, IsRow, Row-of, Row-kept, home-swap_remove, home-append}
use Rattle.intmap_table.proofs.table.slots.Slots.replace_first.Goals as goal
use Rattle.intmap_table.proofs.table.slots.Slots.replace_first.Goals.{After-index_mut, After-replace_first}

module _ (g : _) (c : After-index_mut g) where
  -- the slot holds a pair
  some : 0 < length (get_or (rows_in c.self.inside.slots.items c.self.inside.pool.nodes) c.args.index [])
  some = rw (← c.self.view_is) at c.requires.some

  row : IsRow g.K.IntKey.number_of c.self.inside.slots.items c.self.inside.pool (rows_in c.self.inside.slots.items c.self.inside.pool.nodes) c.args.index c.index_mut.result.now
  row = Row-of g.K.IntKey.number_of c.self.inside.slots.items c.self.inside.pool c.self.inside.bits c.self.inside.mask c.args.index c.index_mut.result.now c.self.invariant (row-within (rows_in c.self.inside.slots.items c.self.inside.pool.nodes) c.args.index some) c.index_mut.ensures.value

pub replace_first-requires-clause-leads : goal.replace_first-requires-clause-leads
replace_first-requires-clause-leads g c = (row g (goal.at.replace_first-requires-clause-leads g c).After-index_mut).chain

-- the slots with the new row
done : (g : _) (c : After-replace_first g) → 0 < length (get_or (rows_in c.self.inside.slots.items c.self.inside.pool.nodes) c.args.index []) → IsRow g.K.IntKey.number_of c.self.inside.slots.items c.self.inside.pool (rows_in c.self.inside.slots.items c.self.inside.pool.nodes) c.args.index c.index_mut.result.now
    → HaveRows g.K.IntKey.number_of (set c.self.inside.slots.items c.args.index c.replace_first.new.slot) c.replace_first.new.pool c.self.inside.bits c.self.inside.mask (set (rows_in c.self.inside.slots.items c.self.inside.pool.nodes) c.args.index (swap_remove (get_or (rows_in c.self.inside.slots.items c.self.inside.pool.nodes) c.args.index []) 0 c.replace_first.result ++ c.args.new ∷ []))
done g c some r =
    let place : 0 < length (get_or (rows_in c.self.inside.slots.items c.self.inside.pool.nodes) c.args.index []) = rw (← c.self.view_is) at c.requires.some in
    let own = rw (← c.self.view_is) at c.requires.own in
    let all : length c.self.inside.slots.items ≡ length (rows_in c.self.inside.slots.items c.self.inside.pool.nodes) = sym (length-map c.self.inside.slots.items (row_in c.self.inside.pool.nodes)) in
    let len = ap length r.is in
    let more = length-append (swap_remove (get_or (rows_in c.self.inside.slots.items c.self.inside.pool.nodes) c.args.index []) 0 c.replace_first.result) (c.args.new ∷ []) in
    Row-kept g.K.IntKey.number_of c.self.inside.slots.items c.self.inside.pool c.self.inside.bits c.self.inside.mask c.args.index c.index_mut.result.now (λ ps. swap_remove (ps) 0 c.replace_first.result ++ c.args.new ∷ []) c.replace_first.new.pool c.replace_first.new.slot c.self.invariant r c.replace_first.ensures.row
    (home-append (λ p. slot_number g.K.IntKey.number_of p.0 (length c.self.inside.slots.items)) c.args.index (swap_remove (row_in c.self.inside.pool.nodes c.index_mut.result.now) 0 c.replace_first.result) c.args.new
    (home-swap_remove (λ p. slot_number g.K.IntKey.number_of p.0 (length c.self.inside.slots.items)) c.args.index (row_in c.self.inside.pool.nodes c.index_mut.result.now) 0 c.replace_first.result r.own (omega (arith, place, len)))
    (ap (slot_number g.K.IntKey.number_of c.args.new.0) all ∙ own))
    some (omega (arith, more))

pub invariant_of-self : goal.invariant_of-self
invariant_of-self g c =
    let at = (goal.at.invariant_of-self g c).After-index_mut in
    (done g (goal.at.invariant_of-self g c).After-replace_first (some g at) (row g at)).are

pub returns-clause-rows : goal.returns-clause-rows
returns-clause-rows g c =
    let at = (goal.at.returns-clause-rows g c).After-index_mut in
    rw (← c.self.view_is) (done g (goal.at.returns-clause-rows g c).After-replace_first (some g at) (row g at)).rows
