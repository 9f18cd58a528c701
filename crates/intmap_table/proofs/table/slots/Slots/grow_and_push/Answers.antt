use Rattle.std.proofs.Common.{inl, inr, ℕ, ◌≡◌, ◌+◌, ◌<◌, ◌%◌, [], ◌∷◌, ◌++◌, length, ap, sym, subst, ◌∙◌, arith}
use Rattle.std.specs.Prelude.{cond, get_or, nat_lt}
use Rattle.std.proofs.lemmas.Bool.{cases_Bool}
use Rattle.std.proofs.lemmas.List.{get_or-set_same, length_push}
use Rattle.intmap_table.specs.Classes.{slot_number}
use Rattle.intmap_table.specs.Walk.{slot_of}
use Rattle.intmap_table.specs.Tables.Nodes.{further}
use Rattle.intmap_table.specs.Tables.Slots.{joined}
use Rattle.intmap_table.proofs.SlotNumberLemmas.{slot_number-below}
use Rattle.intmap_table.proofs.Tables.MarkedLemmas.{row-none}
use Rattle.intmap_table.proofs.Tables.GrownLemmas.{slot_number-grown}
use Rattle.intmap_table.proofs.Nodes.GrowingLemmas.{Moved-next}
use Rattle.intmap_table.proofs.table.slots.Slots.grow_and_push.Goals as goal

pub needed-room-requires-clause-part : goal.needed-room-requires-clause-part
needed-room-requires-clause-part g c =
    let C = length c.args.self.now.rows in
    ap (λ n. n % C) c.requires.target ∙ slot_number-grown g.K.IntKey.number_of C c.args.capacity c.args.pair.0 c.requires.grown ∙ sym c.requires.slot

pub put_last-requires-clause-ready : goal.put_last-requires-clause-ready
put_last-requires-clause-ready g c =
    let number = g.K.IntKey.number_of in
    let D = c.args.capacity in let j = c.args.target in
    let going = slot_of number (joined c.args.self.now.rows) D j in
    let needed = c.needed-room.ensures in
    let moved = c.in-Ok.ensures.further in let made = c.in-Ok.ensures.total in
    λ some. elim (cases_Bool (nat_lt 0 (length going))) as (λ _. further c.enlarge.new.self.rows < c.enlarge.new.self.total) [
      | inl met ↦ (let one : ◌≡◌ {A = ℕ} (cond (nat_lt 0 (length going)) 1 0) 1 = ap (λ b. cond b 1 0) met in omega (arith, needed, moved, made, one))
      | inr alone ↦
          (let below : j < D = subst (λ n. n < D) (sym c.requires.target) (slot_number-below number c.args.pair.0 D c.requires.grown.new) in
          let gone = ap length (c.in-Ok.ensures.placed.rows j below ∙ row-none going alone) in
          absurd (omega (arith, gone, some)))
    ]

pub returns-clause-rows : goal.returns-clause-rows
returns-clause-rows g c =
    let L = joined c.args.self.now.rows in
    (Moved-next g.K.IntKey.number_of c.args.capacity L c.enlarge.new.self.rows c.args.pair c.args.target c.put_last.new.self.rows c.in-Ok.ensures.placed (sym c.requires.target) c.put_last.ensures.rows).rows

pub returns-clause-place : goal.returns-clause-place
returns-clause-place g c =
    let row = get_or c.enlarge.new.self.rows c.args.target [] in
    let below : c.args.target < length c.enlarge.new.self.rows = subst (λ n. n < length c.enlarge.new.self.rows) (sym c.requires.target) (subst (λ D. slot_number g.K.IntKey.number_of c.args.pair.0 c.args.capacity < D) (sym c.in-Ok.ensures.placed.len) (slot_number-below g.K.IntKey.number_of c.args.pair.0 c.args.capacity c.requires.grown.new)) in
    ap (λ n. n + 1) c.put_last.ensures.place ∙ sym (ap (λ R. length (get_or R c.args.target [])) c.put_last.ensures.rows ∙ ap length (get_or-set_same c.enlarge.new.self.rows c.args.target (row ++ c.args.pair ∷ []) [] below) ∙ length_push row c.args.pair)
