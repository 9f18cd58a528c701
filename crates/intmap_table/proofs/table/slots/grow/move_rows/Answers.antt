use Rattle.std.proofs.Common.{⊎_elim, ℕ, ◌≡◌, ◌<◌, ◌≤◌, ◌+◌, ◌++◌, [], length, take, ap, sym, ◌∙◌, subst, arith}
use Rattle.std.specs.Prelude.{get_or}
use Rattle.std.proofs.lemmas.List.{get_or_past, length-append, length-map, length-take-le}
use Rattle.intmap_table.specs.Classes.{slot_number}
use Rattle.intmap_table.specs.Tables.Growing.{blank}
use Rattle.intmap_table.specs.Tables.Nodes.{empty, row_in, rows_in, AreHome}
use Rattle.intmap_table.specs.Tables.Rows.{AreRows, HasMoved}
use Rattle.intmap_table.specs.Tables.Slots.{joined, IsNextRow}
use Rattle.intmap_table.proofs.Tables.AroundLemmas.{joined-taken, joined-before, next-taken}
use Rattle.intmap_table.proofs.Tables.FilledLemmas.{next-marked}
use Rattle.intmap_table.proofs.Tables.GrownLemmas.{grown-more}
use Rattle.intmap_table.proofs.Tables.MarkedLemmas.{row-none}
use Rattle.intmap_table.proofs.Nodes.GrowingLemmas.{Left-start, Left-own, Left-next, blank-all, blank-passed, row-empty}
use Rattle.intmap_table.proofs.Nodes.HomeLemmas.{Linked-own}
use Rattle.intmap_table.proofs.Nodes.NodeLemmas.{below_or_not}
use Rattle.intmap_table.proofs.Nodes.PlacedLemmas.{further-taken, further-some, further-fewer, none-before}
use Rattle.intmap_table.proofs.table.slots.grow.move_rows.Goals as goal
use Rattle.intmap_table.proofs.table.slots.grow.move_rows.Goals.{Start, In-Some, In_default}

module _ (g : _) (c : Start g) where
  -- the old slots are among all
  less : c.args.old_mask + 1 ≤ length c.args.slots.now.items
  less = let more = grown-more (c.args.old_mask + 1) (c.args.mask + 1) c.requires.grown in let len = c.requires.len in omega (arith, more, len)

  -- each pair is at home in its old slot
  own : (j : ℕ) → j < c.args.old_mask + 1 → AreHome (λ p. slot_number g.K.IntKey.number_of p.0 (c.args.old_mask + 1)) j (get_or (rows_in (take (c.args.old_mask + 1) c.args.slots.now.items) c.args.old_pool.now.nodes) j [])
  own = Left-own (λ p. slot_number g.K.IntKey.number_of p.0 (c.args.old_mask + 1)) (c.args.old_mask + 1) c.args.slots.now.items c.args.old_pool.now less c.requires.linked

module _ (g : _) (c : In-Some g) (less : c.args.old_mask + 1 ≤ length c.args.slots.now.items) where
  -- the next old row
  next : IsNextRow (rows_in (take (c.args.old_mask + 1) c.args.slots.now.items) c.args.old_pool.now.nodes) c.loop-index.from c.in-Some.index
  next = next-marked (rows_in (take (c.args.old_mask + 1) c.args.slots.now.items) c.args.old_pool.now.nodes) c.args.old_bits.now c.requires.marks c.loop-index.from c.in-Some.index c.in-Some.ensures.some

  in_old : c.in-Some.index < c.args.old_mask + 1
  in_old = let w = next.within in let n = length-map (take (c.args.old_mask + 1) c.args.slots.now.items) (row_in c.args.old_pool.now.nodes) in let len = length-take-le (c.args.old_mask + 1) c.args.slots.now.items less in omega (arith, w, n, len)

  -- it is as it was
  row : row_in c.loop-index.old_pool.nodes (get_or c.loop-index.slots.items c.in-Some.index empty) ≡ get_or (rows_in (take (c.args.old_mask + 1) c.args.slots.now.items) c.args.old_pool.now.nodes) c.in-Some.index []
  row = c.loop-index.invariant.old.rows c.in-Some.index next.behind in_old

  -- the slots before it hold no pair that hasn't moved
  passed : blank c.loop-index.from (c.args.old_mask + 1) c.loop-index.slots.items ≡ blank c.in-Some.index (c.args.old_mask + 1) c.loop-index.slots.items
  passed =
      blank-passed c.loop-index.from c.in-Some.index (c.args.old_mask + 1) c.loop-index.slots.items next.behind
      (λ j le lt. row-empty c.loop-index.old_pool.nodes (get_or c.loop-index.slots.items j empty) (c.loop-index.invariant.old.rows j le (let w = in_old in omega (arith, lt, w)) ∙ next.between j le lt))

pub loop-index-init : goal.loop-index-init
loop-index-init g c =
    let at = (goal.at.loop-index-init g c).Start in
    record {
      old = Left-start (λ p. slot_number g.K.IntKey.number_of p.0 (c.args.old_mask + 1)) (c.args.old_mask + 1) c.args.slots.now.items c.args.old_pool.now (less g at) c.requires.linked;
      word = c.marks_from-left.ensures;
      len = c.requires.len;
      are = c.requires.are;
      placed = record {
        capacity = c.requires.grown.new;
        len = (let n = length-map (blank 0 (c.args.old_mask + 1) c.args.slots.now.items) (row_in c.args.pool.now.nodes) in let count = c.requires.are.count in omega (arith, n, count));
        rows = λ j below. c.requires.none j;
      };
      held = omega arith;
      total = omega arith;
      counted = omega arith;
    }

pub move_row-requires-clause-old : goal.move_row-requires-clause-old
move_row-requires-clause-old g c =
    let at = goal.at.move_row-requires-clause-old g c in
    let w = in_old g at.In-Some (less g at.Start) in
    omega (arith, w)

pub move_row-requires-clause-within : goal.move_row-requires-clause-within
move_row-requires-clause-within g c =
    let at = goal.at.move_row-requires-clause-within g c in
    let w = in_old g at.In-Some (less g at.Start) in
    let more = grown-more (c.args.old_mask + 1) (c.args.mask + 1) c.requires.grown in
    let len = c.loop-index.invariant.len in
    omega (arith, w, more, len)

pub move_row-requires-clause-leads : goal.move_row-requires-clause-leads
move_row-requires-clause-leads g c =
    let at = goal.at.move_row-requires-clause-leads g c in
    c.loop-index.invariant.old.chains c.in-Some.index (next g at.In-Some (less g at.Start)).behind (in_old g at.In-Some (less g at.Start))

pub move_row-requires-clause-some : goal.move_row-requires-clause-some
move_row-requires-clause-some g c =
    let at = goal.at.move_row-requires-clause-some g c in
    let same = ap length (row g at.In-Some (less g at.Start)) in
    let some = (next g at.In-Some (less g at.Start)).filled in
    omega (arith, same, some)

pub move_row-requires-clause-own : goal.move_row-requires-clause-own
move_row-requires-clause-own g c =
    let at = goal.at.move_row-requires-clause-own g c in
    subst (λ ps. AreHome (λ p. slot_number g.K.IntKey.number_of p.0 (c.args.old_mask + 1)) c.in-Some.index ps) (sym (row g at.In-Some (less g at.Start)))
    (own g at.Start c.in-Some.index (in_old g at.In-Some (less g at.Start)))

pub move_row-requires-clause-are : goal.move_row-requires-clause-are
move_row-requires-clause-are g c =
    let at = goal.at.move_row-requires-clause-are g c in
    subst (λ T. AreRows g.K.IntKey.number_of T c.loop-index.pool c.loop-index.bits c.args.mask) (passed g at.In-Some (less g at.Start)) c.loop-index.invariant.are

pub move_row-requires-clause-free : goal.move_row-requires-clause-free
move_row-requires-clause-free g c =
    let at = goal.at.move_row-requires-clause-free g c in
    let number = g.K.IntKey.number_of in
    let C = c.args.old_mask + 1 in let D = c.args.mask + 1 in
    let O = take C c.args.slots.now.items in
    let R = rows_in O c.args.old_pool.now.nodes in
    let loop = c.loop-index.invariant in
    let n = next g at.In-Some (less g at.Start) in
    let w = in_old g at.In-Some (less g at.Start) in
    let len = length-take-le C c.args.slots.now.items (less g at.Start) in
    λ j part.
    let none = none-before number C D c.requires.grown R c.loop-index.from j
    (λ k under. Linked-own (λ p. slot_number number p.0 C) O c.args.old_pool.now c.requires.linked k (let b = n.behind in omega (arith, under, w, b, len))) (let b = n.behind in omega (arith, part, b)) in
    ap (λ T. get_or (rows_in T c.loop-index.pool.nodes) j []) (sym (passed g at.In-Some (less g at.Start)))
    ∙ ⊎_elim (λ under. loop.placed.rows j under ∙ none)
    (λ past. get_or_past (rows_in (blank c.loop-index.from C c.loop-index.slots.items) c.loop-index.pool.nodes) j [] (let all = loop.placed.len in omega (arith, all, past))) (below_or_not j D)

pub move_row-requires-clause-room : goal.move_row-requires-clause-room
move_row-requires-clause-room g c =
    let at = goal.at.move_row-requires-clause-room g c in
    let R = rows_in (take (c.args.old_mask + 1) c.args.slots.now.items) c.args.old_pool.now.nodes in
    let n = next g at.In-Some (less g at.Start) in
    let fewer = further-fewer R c.loop-index.from c.in-Some.index n.behind in
    let more = further-taken c.in-Some.index R in
    let all = further-some (c.in-Some.index + 1) R in
    let same = ap length (row g at.In-Some (less g at.Start)) in
    let held = c.loop-index.invariant.held in let total = c.loop-index.invariant.total in
    let enough = c.requires.room in
    omega (arith, fewer, more, all, same, held, total, enough)

pub loop-index-smaller : goal.loop-index-smaller
loop-index-smaller g c =
    let at = goal.at.loop-index-smaller g c in
    let w = in_old g at.In-Some (less g at.Start) in
    let b = (next g at.In-Some (less g at.Start)).behind in
    omega (arith, w, b)

pub loop-index-preserved : goal.loop-index-preserved
loop-index-preserved g c =
    let at = goal.at.loop-index-preserved g c in
    let number = g.K.IntKey.number_of in
    let C = c.args.old_mask + 1 in let D = c.args.mask + 1 in
    let R = rows_in (take C c.args.slots.now.items) c.args.old_pool.now.nodes in
    let i = c.in-Some.index in let from = c.loop-index.from in
    let loop = c.loop-index.invariant in
    let n = next g at.In-Some (less g at.Start) in
    let w = in_old g at.In-Some (less g at.Start) in
    let is = row g at.In-Some (less g at.Start) in
    let taken : joined (take (i + 1) R) ≡ joined (take from R) ++ get_or R i [] = joined-taken i R ∙ ap (λ L. L ++ get_or R i []) (next-taken R from i n) in
    let len = ap length taken ∙ length-append (joined (take from R)) (get_or R i []) in
    let same = ap length is in
    let fewer = further-fewer R from i n.behind in
    let more = further-taken i R in
    let filled = n.filled in
    let held = loop.held in let used = c.move_row.ensures.held in
    let total = loop.total in let grown = c.move_row.ensures.total in let counted = loop.counted in
    let before : HasMoved number (joined (take from R)) D (rows_in (blank i C c.loop-index.slots.items) c.loop-index.pool.nodes) =
    subst (λ T. HasMoved number (joined (take from R)) D (rows_in T c.loop-index.pool.nodes)) (passed g at.In-Some (less g at.Start)) loop.placed in
    let now = rows_in (blank (i + 1) C c.move_row.new.slots.items) c.move_row.new.pool.nodes in
    rw c.move_row.ensures.from (record {
      old = Left-next (λ p. slot_number number p.0 C) R from i C c.loop-index.slots.items c.loop-index.old_pool c.move_row.new.slots.items c.move_row.new.old_pool loop.old (own g at.Start) n.behind w
          (λ j behind lt. c.move_row.ensures.left j behind (omega (arith, lt))) c.move_row.ensures.spares;
      word = c.in-Some.ensures.left;
      len = c.move_row.ensures.len ∙ loop.len;
      are = c.move_row.ensures.are;
      placed = subst (λ L. HasMoved number L D now) (sym taken)
          (subst (λ ps. HasMoved number (joined (take from R) ++ ps) D now) is (c.move_row.ensures.placed (joined (take from R)) before));
      held = omega (arith, same, fewer, more, filled, held, used);
      total = omega (arith, total, grown);
      counted = omega (arith, same, len, counted, c.move_row.ensures.counted);
    })

module _ (g : _) (c : In_default g) where
  -- no old row is left
  past : (j : ℕ) → c.loop-index.from ≤ j → get_or (rows_in (take (c.args.old_mask + 1) c.args.slots.now.items) c.args.old_pool.now.nodes) j [] ≡ []
  past j le = row-none (get_or (rows_in (take (c.args.old_mask + 1) c.args.slots.now.items) c.args.old_pool.now.nodes) j []) (sym (c.requires.marks.own j) ∙ c.in_default.ensures.none j le)

  -- so all slots lead into the new nodes
  whole : blank c.loop-index.from (c.args.old_mask + 1) c.loop-index.slots.items ≡ c.loop-index.slots.items
  whole =
      blank-all c.loop-index.from (c.args.old_mask + 1) c.loop-index.slots.items
      (λ j le lt. row-empty c.loop-index.old_pool.nodes (get_or c.loop-index.slots.items j empty) (c.loop-index.invariant.old.rows j le lt ∙ past j le))

  -- and all pairs have moved
  all : joined (take c.loop-index.from (rows_in (take (c.args.old_mask + 1) c.args.slots.now.items) c.args.old_pool.now.nodes)) ≡ joined (rows_in (take (c.args.old_mask + 1) c.args.slots.now.items) c.args.old_pool.now.nodes)
  all = joined-before c.loop-index.from (rows_in (take (c.args.old_mask + 1) c.args.slots.now.items) c.args.old_pool.now.nodes) past

pub returns-clause-are : goal.returns-clause-are
returns-clause-are g c =
    subst (λ T. AreRows g.K.IntKey.number_of T c.loop-index.pool c.loop-index.bits c.args.mask) (whole g (goal.at.returns-clause-are g c).In_default) c.loop-index.invariant.are

pub returns-clause-placed : goal.returns-clause-placed
returns-clause-placed g c =
    let at = (goal.at.returns-clause-placed g c).In_default in
    subst (λ L. HasMoved g.K.IntKey.number_of L (c.args.mask + 1) (rows_in c.loop-index.slots.items c.loop-index.pool.nodes)) (all g at)
    (subst (λ T. HasMoved g.K.IntKey.number_of (joined (take c.loop-index.from (rows_in (take (c.args.old_mask + 1) c.args.slots.now.items) c.args.old_pool.now.nodes))) (c.args.mask + 1) (rows_in T c.loop-index.pool.nodes)) (whole g at) c.loop-index.invariant.placed)

pub returns-clause-held : goal.returns-clause-held
returns-clause-held g c =
    let some = further-some c.loop-index.from (rows_in (take (c.args.old_mask + 1) c.args.slots.now.items) c.args.old_pool.now.nodes) in
    let held = c.loop-index.invariant.held in
    omega (arith, some, held)

pub returns-clause-counted : goal.returns-clause-counted
returns-clause-counted g c =
    let same = ap length (all g (goal.at.returns-clause-counted g c).In_default) in
    let counted = c.loop-index.invariant.counted in
    omega (arith, same, counted)
