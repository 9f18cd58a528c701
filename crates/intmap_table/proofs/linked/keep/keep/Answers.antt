use Rattle.std.proofs.Common.{◌≡◌, refl, arith}
use Rattle.intmap_table.specs.Tables.Nodes.{row_in}
use Rattle.intmap_table.proofs.KeepingLemmas.{Keeps-then}
use Rattle.intmap_table.proofs.Nodes.RetainedLemmas.{Slot-then}
use Rattle.intmap_table.proofs.linked.keep.keep.Goals as goal

pub returns-then-drop_front-clause-slot : goal.returns-then-drop_front-clause-slot
returns-then-drop_front-clause-slot g c =
    let front = c.drop_front.ensures.front in
    Slot-then c.args.pool.now c.args.slot.now front.0 (row_in c.drop_front.new.pool.nodes c.drop_front.new.slot) _ c.drop_front.new.pool c.drop_front.new.slot _ _ front.1 c.drop_front.ensures.slot c.keep_behind-then-drop_front.ensures.slot

pub returns-then-drop_front-clause-pairs : goal.returns-then-drop_front-clause-pairs
returns-then-drop_front-clause-pairs g c =
    let front : c.args.place.now ≡ 0 = omega (arith, c.if-place-gt0.false) in
    rw front (Keeps-then (omega arith) c.if-drop_front.ensures.pairs _ _ _ _ refl c.keep_behind-then-drop_front.ensures.pairs)
