use Rattle.std.proofs.Common.{◌≡◌, ◌∙◌, ◌≤◌, [], ◌++◌, get_or, ℕ, List, ◌-◌, length, length-set, length-append, replicate, sym, ap, arith}
use Rattle.std.proofs.lemmas.List.{length-replicate, length-map}
use Rattle.intmap_table.specs.Tables.Nodes.{Node, empty, row_in, rows_in}
use Rattle.intmap_table.specs.Tables.Slots.{IsNextRow}
use Rattle.intmap_table.proofs.Nodes.CloneLemmas.{AreClonedBelow, Below-more, Below-passed, Below-next, Below-all}
use Rattle.intmap_table.proofs.Nodes.LinkedLemmas.{IsRow, Row-of}
use Rattle.intmap_table.proofs.Tables.FilledLemmas.{next-marked}
use Rattle.intmap_table.proofs.Tables.MarkedLemmas.{row-none}
use Rattle.intmap_table.proofs.table.slots.clone.clone_rows.Goals as goal
use Rattle.intmap_table.proofs.table.slots.clone.clone_rows.Goals.{In-Some, After-add_empty}

-- so many slots are there
filled_up : {P : Type 0} (T S : List (Node P)) (n : ℕ) → length T ≤ n → S ≡ T ++ replicate (n - length T) empty → length S ≡ n
filled_up {P = P} T S n few is =
    let added = ap length is ∙ length-append T (replicate (n - length T) empty) in
    let count = length-replicate {A = Node P} (n - length T) empty in
    omega (arith, added, count, few)

module _ (g : _) (c : In-Some g) where
  -- the next marked slot is the next one that holds a pair
  next : IsNextRow (rows_in c.args.slots.now c.args.pool.now.nodes) c.loop-index.from c.in-Some.index
  next = next-marked (rows_in c.args.slots.now c.args.pool.now.nodes) c.args.bits.now c.requires.rows.1.marked c.loop-index.from c.in-Some.index c.in-Some.ensures.some

  -- it has its row
  row : (s : _) → s ≡ get_or c.args.slots.now c.in-Some.index s → IsRow g.K.IntKey.number_of c.args.slots.now c.args.pool.now (rows_in c.args.slots.now c.args.pool.now.nodes) c.in-Some.index s
  row s read = Row-of g.K.IntKey.number_of c.args.slots.now c.args.pool.now c.args.bits.now c.requires.rows.0 c.in-Some.index s c.requires.rows.1 next.within read

module _ (g : _) (c : After-add_empty g) where
  -- all slots are there
  below : AreClonedBelow g.X.Clone.is_clone g.K.IntKey.number_of (rows_in c.args.slots.now c.args.pool.now.nodes) (length c.args.slots.now) c.loop-index.from c.add_empty.new.slots.items c.loop-index.nodes
  below = Below-more g.X.Clone.is_clone g.K.IntKey.number_of _ _ _ c.loop-index.made.items c.add_empty.new.slots.items c.loop-index.nodes _ c.loop-index.invariant.below c.add_empty.ensures.items

pub clone_slot-requires-clause-leads : goal.clone_slot-requires-clause-leads
clone_slot-requires-clause-leads g c = (row g (goal.at.clone_slot-requires-clause-leads g c).In-Some c.index-slots-index.result c.index-slots-index.is).chain

pub clone_slot-requires-clause-some : goal.clone_slot-requires-clause-some
clone_slot-requires-clause-some g c =
    let at = (goal.at.clone_slot-requires-clause-some g c).In-Some in
    let is = ap length (row g at c.index-slots-index.result c.index-slots-index.is).is in
    let some = (next g at).filled in
    omega (arith, is, some)

pub loop-index-preserved : goal.loop-index-preserved
loop-index-preserved g c =
    let at = (goal.at.loop-index-preserved g c).In-Some in
    let more = c.add_up_to.ensures.items in
    let len = length-set c.add_up_to.new.slots.items c.in-Some.index c.in_ok-made.field-0 in
    let nearest = next g at in
    record {
      below = Below-next g.X.Clone.is_clone g.K.IntKey.number_of c.args.slots.now c.args.pool.now c.in-Some.index c.index-slots-index.result c.add_up_to.new.slots.items c.loop-index.nodes c.in_ok-made.field-0 c.clone_slot.new.made
          (row g at c.index-slots-index.result c.index-slots-index.is) c.in_ok-made.ensures.row
          (Below-passed g.X.Clone.is_clone g.K.IntKey.number_of _ _ c.loop-index.from c.in-Some.index c.add_up_to.new.slots.items c.loop-index.nodes nearest.behind nearest.between
          (Below-more g.X.Clone.is_clone g.K.IntKey.number_of _ _ _ c.loop-index.made.items c.add_up_to.new.slots.items c.loop-index.nodes more.0 c.loop-index.invariant.below more.1))
          c.add_up_to.ensures.within;
      full = c.in_ok-made.ensures.none;
      few = omega (arith, len, c.add_up_to.ensures.few);
      room = omega (arith, c.add_up_to.ensures.capacity, c.loop-index.invariant.room);
      word = c.in-Some.ensures.left;
    }

pub returns-clause-linked : goal.returns-clause-linked
returns-clause-linked g c = (below g (goal.at.returns-clause-linked g c).After-add_empty).linked

pub returns-clause-rows : goal.returns-clause-rows
returns-clause-rows g c =
    let rows : List _ = rows_in c.args.slots.now c.args.pool.now.nodes in
    Below-all g.X.Clone.is_clone g.K.IntKey.number_of rows _ _ c.add_empty.new.slots.items c.loop-index.nodes (below g (goal.at.returns-clause-rows g c).After-add_empty)
    (λ j le. row-none (get_or rows j []) (sym (c.requires.rows.1.marked.own j) ∙ c.in_default.ensures.none j le))
    (filled_up c.loop-index.made.items c.add_empty.new.slots.items (length c.args.slots.now) c.loop-index.invariant.few c.add_empty.ensures.items ∙ sym (length-map c.args.slots.now (row_in c.args.pool.now.nodes)))
