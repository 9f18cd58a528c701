use Rattle.std.proofs.Common.{◌≡◌, ◌+◌, ◌∙◌, ◌++◌, count_ones, ℕ, List, length, take, drop, sym, ap, arith}
use Rattle.intmap_table.specs.Keeping.{kept_by}
use Rattle.intmap_table.specs.Picking.{pairs_before}
use Rattle.intmap_table.specs.Tables.Keeping.{Says}
use Rattle.intmap_table.specs.Tables.Slots.{count_before, joined}
use Rattle.intmap_table.proofs.KeepingLemmas.{Keeps-all, kept_by-Says, left-Says, ones-Says}
use Rattle.intmap_table.proofs.RetainLemmas.{length-Retains}
use Rattle.intmap_table.proofs.Tables.CursorLemmas.{pairs_before-joined}
use Rattle.intmap_table.proofs.Tables.KeepingLemmas.{before-few}
use Rattle.intmap_table.proofs.Tables.TableLemmas.{slot_of-joined, walk_of-joined}
use Rattle.intmap_table.proofs.table.Table.keep_marked.Goals as goal
use Rattle.intmap_table.proofs.table.Table.keep_marked.Goals.{After-keep_slots}

module _ (g : _) (c : After-keep_slots g) where
  abbrev Pairs : Type 0
  Pairs = List (g.row.K.Denot × g.row.X.Denot)

  abbrev R : List Pairs
  R = c.self.inside.slots.rows

  abbrev old : Pairs
  old = joined R

  abbrev place : ℕ
  place = count_before R c.args.at.now.slot c.args.at.now.place

  abbrev asked : ℕ → Pairs
  asked n = take 64 (drop n old)

  -- where the cursor was in the rows
  before : pairs_before g.K.IntKey.number_of old (length R) c.args.at.now ≡ place
  before = pairs_before-joined g.K.IntKey.number_of R c.self.invariant c.args.at.now

  -- the pairs that were gone over are those that have a bit
  each : (c.keep_slots.ensures.rows.pairs.asked ≡ asked place) × (c.keep_slots.ensures.rows.pairs.rest ≡ drop (place + 64) old)
  each = Keeps-all (before-few R c.args.at.now.slot c.args.at.now.place) c.keep_slots.ensures.rows.pairs c.keep_slots.ensures.ends

  same : c.keep_slots.ensures.rows.pairs.asked ≡ asked (pairs_before g.K.IntKey.number_of old (length R) c.args.at.now)
  same = each.0 ∙ ap asked (sym before)

  kept : c.keep_slots.ensures.rows.pairs.kept ≡ kept_by c.args.marks (asked (pairs_before g.K.IntKey.number_of old (length R) c.args.at.now))
  kept = let k = c.keep_slots.ensures.rows.pairs in kept_by-Says _ _ k.asked k.kept k.told ∙ ap (kept_by c.args.marks) same

  -- how many bits are left, and how many of them are set
  left : 64 ≡ length c.keep_slots.ensures.rows.pairs.asked + c.keep_slots.new.bits.left
  left = let k = c.keep_slots.ensures.rows.pairs in left-Says _ _ k.asked k.kept k.told

  ones : count_ones c.args.marks ≡ length c.keep_slots.ensures.rows.pairs.kept + count_ones c.keep_slots.new.bits.word
  ones = let k = c.keep_slots.ensures.rows.pairs in ones-Says _ _ k.asked k.kept k.told

pub overflow_sub-kept : goal.overflow_sub-kept
overflow_sub-kept g c = let set = ones g c in omega (arith, set)

pub overflow_sub-result : goal.overflow_sub-result
overflow_sub-result g c = let bits = left g c in omega (arith, bits)

pub overflow_sub-result-2 : goal.overflow_sub-result-2
overflow_sub-result-2 g c =
    let at = (goal.at.overflow_sub-result-2 g c).After-keep_slots in let k = c.keep_slots.ensures.rows.pairs in
    let bits = left g at in let set = ones g at in let few = length-Retains Says _ _ k.asked k.kept k.told in
    omega (arith, bits, set, few)

pub returns-clause-walk : goal.returns-clause-walk
returns-clause-walk g c =
    let at = (goal.at.returns-clause-walk g c).After-keep_slots in let n = sym (before g at) in let J = old g at in
    rw (← c.self.view_is)
    (c.keep_slots.ensures.rows.pairs.new ∙ (λ h. take (n h) J ++ (kept g at h ++ ((each g at).1 ∙ ap (λ m. drop (m + 64) J) n) h)))

pub returns-clause-passed : goal.returns-clause-passed
returns-clause-passed g c =
    let at = (goal.at.returns-clause-passed g c).After-keep_slots in let rows = c.keep_slots.ensures.rows in
    rw (← c.self.view_is)
    (pairs_before-joined g.K.IntKey.number_of c.keep_slots.new.slots.rows rows.table c.keep_slots.new.at ∙ rows.pairs.on ∙ (λ h. sym (before g at) h + length (kept g at h)))

pub returns-clause-removed : goal.returns-clause-removed
returns-clause-removed g c =
    let at = (goal.at.returns-clause-removed g c).After-keep_slots in let k = c.keep_slots.ensures.rows.pairs in
    let bits = left g at in let set = ones g at in let few = length-Retains Says _ _ k.asked k.kept k.told in
    rw (← c.self.view_is, ← kept g at, ← same g at) (omega (arith, bits, set, few))

pub returns-clause-slot : goal.returns-clause-slot
returns-clause-slot g c =
    let at = (goal.at.returns-clause-slot g c).After-keep_slots in
    rw (← c.self.view_is, ← same g at) c.keep_slots.ensures.rows.slot

pub returns-clause-within : goal.returns-clause-within
returns-clause-within g c =
    let at = (goal.at.returns-clause-within g c).After-keep_slots in
    rw (← c.self.view_is, ← same g at, slot_of-joined g.K.IntKey.number_of c.keep_slots.new.slots.rows c.keep_slots.ensures.rows.table c.keep_slots.new.at.slot) c.keep_slots.ensures.rows.within

pub returns-clause-stays : goal.returns-clause-stays
returns-clause-stays g c =
    let at = (goal.at.returns-clause-stays g c).After-keep_slots in
    rw (← c.self.view_is, ← same g at) c.keep_slots.ensures.rows.stays

pub returns-clause-own : goal.returns-clause-own
returns-clause-own g c = walk_of-joined g.K.IntKey.number_of c.keep_slots.new.slots.rows c.keep_slots.ensures.rows.table
