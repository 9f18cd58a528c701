use Rattle.std.proofs.Common.{◌≡◌, ℕ, ◌-◌, ◌∙◌, List, [], ◌++◌, length, get_or, ap, arith}
use Rattle.std.proofs.lemmas.List.{length-replicate}
use Rattle.std.specs.Prelude.{replicate}
use Rattle.intmap_table.specs.Tables.Nodes.{Node, empty}
use Rattle.intmap_table.proofs.Nodes.DroppedLemmas.{Rows-dropped}
use Rattle.intmap_table.proofs.Nodes.LinkedLemmas.{Rows-none}
use Rattle.intmap_table.proofs.Tables.MarkedLemmas.{get_or-of_default}
use Rattle.intmap_table.proofs.table.slots.Slots.clear.Goals as goal
use Rattle.intmap_table.proofs.table.slots.Slots.clear.Goals.{then-needs_drop, else-needs_drop}

-- so many slots without a pair, where there were none
emptied : {P : Type 0} (slots : List (Node P)) (n : ℕ) → slots ≡ [] → slots ++ replicate (n - length slots) empty ≡ replicate n empty
emptied slots n none = let all : n - 0 ≡ n = omega arith in ap (λ xs. xs ++ replicate (n - length xs) empty) none ∙ ap (λ k. replicate k empty) all

pub invariant_of-self : goal.invariant_of-self
invariant_of-self g c =
    elim c.if-needs_drop.branch [
      | then-needs_drop w ↦ rw (c.clear_all.ensures, w.self-inside-is) (Rows-dropped g.K.IntKey.number_of c.self.inside.slots.items c.self.inside.pool c.self.inside.bits c.self.inside.mask w.drop_rows.new.slots.items w.drop_rows.new.pool c.self.invariant
          w.drop_rows.ensures.len w.drop_rows.ensures.linked w.drop_rows.ensures.empty)
      | else-needs_drop w ↦
          let none = Rows-none g.K.IntKey.number_of w.clear.new.self (length c.self.inside.slots.items) c.self.inside.mask c.self.invariant.capacity w.clear.ensures.held c.self.invariant.count in
          let slots = emptied w.truncate.new.self.items (length c.self.inside.slots.items) w.truncate.ensures.items in
          let count : w.len-count.result ≡ length c.self.inside.slots.items = omega (arith, w.len-count.ensures) in
          rw (c.clear_all.ensures, w.self-inside-is, w.add_empty.ensures.items, count, slots) (Rows-dropped g.K.IntKey.number_of c.self.inside.slots.items c.self.inside.pool c.self.inside.bits c.self.inside.mask (replicate (length c.self.inside.slots.items) empty) w.clear.new.self c.self.invariant
          (length-replicate _ _) none.are.linked (λ i. ap (λ R. get_or R i []) none.rows ∙ get_or-of_default (length c.self.inside.slots.items) i []))
    ]

pub returns-clause-empty : goal.returns-clause-empty
returns-clause-empty g c i =
    elim c.if-needs_drop.branch [
      | then-needs_drop w ↦ rw w.self-inside-is (w.drop_rows.ensures.empty i)
      | else-needs_drop w ↦
          let none = Rows-none g.K.IntKey.number_of w.clear.new.self (length c.self.inside.slots.items) c.self.inside.mask c.self.invariant.capacity w.clear.ensures.held c.self.invariant.count in
          let slots = emptied w.truncate.new.self.items (length c.self.inside.slots.items) w.truncate.ensures.items in
          let count : w.len-count.result ≡ length c.self.inside.slots.items = omega (arith, w.len-count.ensures) in
          rw (w.self-inside-is, w.add_empty.ensures.items, count, slots) (ap (λ R. get_or R i []) none.rows ∙ get_or-of_default (length c.self.inside.slots.items) i [])
    ]
