use Rattle.std.proofs.Common.{◌≡◌, ◌+◌, ◌-◌, ◌≤◌, ◌++◌, [], length, ap, sym, subst, ◌∙◌, arith}
use Rattle.std.specs.Prelude.{get_or, replicate, take}
use Rattle.std.proofs.lemmas.List.{length-map}
use Rattle.intmap_table.specs.Classes.{slot_number}
use Rattle.intmap_table.specs.Tables.Growing.{blank}
use Rattle.intmap_table.specs.Tables.Nodes.{empty, further, row_in, rows_in, AreLinked}
use Rattle.intmap_table.specs.Tables.Rows.{HasMoved}
use Rattle.intmap_table.specs.Tables.Slots.{joined, AreMarked}
use Rattle.intmap_table.proofs.Tables.GrownLemmas.{grown-more}
use Rattle.intmap_table.proofs.Tables.MarkedLemmas.{get_or-of_default}
use Rattle.intmap_table.proofs.Nodes.GrowingLemmas.{length-blank, IsEnlarged, Enlarged}
use Rattle.intmap_table.proofs.Nodes.LinkedLemmas.{HaveRows, Rows-free}
use Rattle.intmap_table.proofs.table.slots.Slots.enlarge.Goals as goal
use Rattle.intmap_table.proofs.table.slots.Slots.enlarge.Goals.{After-len, After-add_empty}

-- there are no fewer slots
more : (g : _) (c : After-len g) → length c.self.inside.slots.items ≤ c.args.capacity
more g c =
    let le = grown-more (length (rows_in c.self.inside.slots.items c.self.inside.pool.nodes)) c.args.capacity (rw (← c.self.view_is) at c.requires.grown) in
    let long = length-map c.self.inside.slots.items (row_in c.self.inside.pool.nodes) in
    omega (arith, le, long)

pub overflow_sub-capacity : goal.overflow_sub-capacity
overflow_sub-capacity g c = let le = more g (goal.at.overflow_sub-capacity g c).After-len in let len = c.len.ensures in omega (arith, le, len)

pub add_empty-requires-clause-more : goal.add_empty-requires-clause-more
add_empty-requires-clause-more g c = let le = more g (goal.at.add_empty-requires-clause-more g c).After-len in let same = ap length c.reserve_exact.ensures.items in omega (arith, le, same)

module _ (g : _) (c : After-add_empty g) where
  -- the old slots and new ones
  start : IsEnlarged g.K.IntKey.number_of c.self.inside.slots.items (c.self.inside.mask + 1) c.args.capacity c.add_empty.new.slots.items
  start =
      Enlarged g.K.IntKey.number_of c.self.inside.slots.items c.self.inside.pool c.self.inside.bits c.self.inside.mask c.args.capacity c.add_empty.new.slots.items c.self.invariant (rw (← c.self.view_is) at c.requires.grown)
      (c.add_empty.ensures.items ∙ ap (λ xs. xs ++ replicate (c.args.capacity - length xs) empty) c.reserve_exact.ensures.items)

  -- without the pairs of the old ones no slot holds any
  none : HaveRows g.K.IntKey.number_of (blank 0 (c.self.inside.mask + 1) c.add_empty.new.slots.items) c.in-Ok.made.1 c.in-Ok.made.0 (c.args.capacity - 1) (replicate c.args.capacity [])
  none =
      let B = blank 0 (c.self.inside.mask + 1) c.add_empty.new.slots.items in
      let len : length B ≡ c.args.capacity = length-blank 0 (c.self.inside.mask + 1) c.add_empty.new.slots.items ∙ start.len ∙ start.all in
      rw c.in-Ok.ensures.bits (Rows-free g.K.IntKey.number_of B c.in-Ok.made.1 c.args.capacity (c.args.capacity - 1) start.none len c.requires.grown.new c.in-Ok.ensures.held start.all)

  -- the old rows
  rows : rows_in (take (c.self.inside.mask + 1) c.add_empty.new.slots.items) c.self.inside.pool.nodes ≡ rows_in c.self.inside.slots.items c.self.inside.pool.nodes
  rows = ap (λ T. rows_in T c.self.inside.pool.nodes) start.old

pub move_rows-requires-clause-grown : goal.move_rows-requires-clause-grown
move_rows-requires-clause-grown g c = (start g (goal.at.move_rows-requires-clause-grown g c).After-add_empty).grown

pub move_rows-requires-clause-len : goal.move_rows-requires-clause-len
move_rows-requires-clause-len g c = (start g (goal.at.move_rows-requires-clause-len g c).After-add_empty).len

pub move_rows-requires-clause-marks : goal.move_rows-requires-clause-marks
move_rows-requires-clause-marks g c = subst (λ R. AreMarked R c.self.inside.bits) (sym (rows g (goal.at.move_rows-requires-clause-marks g c).After-add_empty)) c.self.invariant.marked

pub move_rows-requires-clause-linked : goal.move_rows-requires-clause-linked
move_rows-requires-clause-linked g c =
    let number = g.K.IntKey.number_of in
    subst (λ T. AreLinked (λ p. slot_number number p.0 (c.self.inside.mask + 1)) T c.self.inside.pool) (sym (start g (goal.at.move_rows-requires-clause-linked g c).After-add_empty).old)
    (subst (λ C. AreLinked (λ p. slot_number number p.0 C) c.self.inside.slots.items c.self.inside.pool) (sym c.self.invariant.count) c.self.invariant.linked)

pub move_rows-requires-clause-are : goal.move_rows-requires-clause-are
move_rows-requires-clause-are g c =
    (none g (goal.at.move_rows-requires-clause-are g c).After-add_empty).are

pub move_rows-requires-clause-none : goal.move_rows-requires-clause-none
move_rows-requires-clause-none g c =
    let at = (goal.at.move_rows-requires-clause-none g c).After-add_empty in
    λ j. ap (λ R. get_or R j []) (none g at).rows ∙ get_or-of_default c.args.capacity j []

pub move_rows-requires-clause-room : goal.move_rows-requires-clause-room
move_rows-requires-clause-room g c =
    let same = ap further (rows g (goal.at.move_rows-requires-clause-room g c).After-add_empty) in
    let enough = rw (← c.self.view_is) at c.requires.room in
    let made = c.in-Ok.ensures.total in let none = c.in-Ok.ensures.held in
    omega (arith, same, enough, made, none)

pub returns-clause-placed : goal.returns-clause-placed
returns-clause-placed g c =
    let at = (goal.at.returns-clause-placed g c).After-add_empty in
    rw (← c.self.view_is) (subst (λ D. HasMoved g.K.IntKey.number_of (joined (rows_in c.self.inside.slots.items c.self.inside.pool.nodes)) D (rows_in c.move_rows.new.slots.items c.move_rows.new.pool.nodes)) (start g at).all
    (subst (λ R. HasMoved g.K.IntKey.number_of (joined R) (c.args.capacity - 1 + 1) (rows_in c.move_rows.new.slots.items c.move_rows.new.pool.nodes)) (rows g at) c.move_rows.ensures.placed))

pub returns-clause-further : goal.returns-clause-further
returns-clause-further g c =
    let same = ap further (rows g (goal.at.returns-clause-further g c).After-add_empty) in
    let none = c.in-Ok.ensures.held in
    let moved = c.move_rows.ensures.held in
    let all = c.move_rows.ensures.are.linked.held in
    rw (← c.self.view_is) (omega (arith, same, none, moved, all))

pub returns-clause-counted : goal.returns-clause-counted
returns-clause-counted g c =
    let same = ap (λ R. length (joined R)) (rows g (goal.at.returns-clause-counted g c).After-add_empty) in
    let counted = c.move_rows.ensures.counted in
    rw (← c.self.view_is) (omega (arith, same, counted))
