use Rattle.std.proofs.Common.{ℕ, ◌≡◌, ◌+◌, ◌-◌, ◌<◌, refl, length, ap, sym, subst, ◌∙◌, arith}
use Rattle.std.specs.Prelude.{cond, nat_lt}
use Rattle.std.proofs.Math.Nat.{mod-lt}
use Rattle.intmap_table.specs.Walk.{slot_of}
use Rattle.intmap_table.specs.Tables.Rows.{row_at}
use Rattle.intmap_table.specs.Tables.Slots.{joined}
use Rattle.intmap_table.proofs.SlotNumberLemmas.{capacity-positive}
use Rattle.intmap_table.proofs.Tables.GrownLemmas.{slot_of-old}
use Rattle.intmap_table.proofs.Nodes.HomeLemmas.{Rows-own}
use Rattle.intmap_table.proofs.Nodes.LinkedLemmas.{Row-of}
use Rattle.intmap_table.proofs.table.slots.Slots.needed.Goals as goal
use Rattle.intmap_table.proofs.table.slots.Slots.needed.Goals.{After-goes_to}

module _ (g : _) (c : After-goes_to g) where
  abbrev number : g.row.K.Denot → ℕ
  number = g.K.IntKey.number_of

  -- the slot is there
  within : c.args.index < length c.args.self.now.rows
  within = subst (λ i. i < length c.args.self.now.rows) c.requires.part (mod-lt c.args.target (capacity-positive (length c.args.self.now.rows) c.requires.grown.old))

  -- what goes to the target comes from it
  there : slot_of number (joined c.args.self.now.rows) c.args.capacity c.args.target ≡ slot_of number (row_at c.args.self.now c.args.index) c.args.capacity c.args.target
  there =
      slot_of-old number (length c.args.self.now.rows) c.args.capacity c.requires.grown c.args.self.now.rows
      (record { len = refl; own = rw (← c.self.view_is) (Rows-own number c.self.inside.slots.items c.self.inside.pool c.self.inside.bits c.self.inside.mask c.self.invariant) }) c.args.target
      ∙ ap (λ i. slot_of number (row_at c.args.self.now i) c.args.capacity c.args.target) c.requires.part

  -- whether some pair goes to the target
  goes : nat_lt 0 (length (slot_of number (joined c.args.self.now.rows) c.args.capacity c.args.target)) ≡ c.goes_to.result
  goes =
      let at = rw (← c.self.view_is) at within in
      let row = Row-of number c.self.inside.slots.items c.self.inside.pool c.self.inside.bits c.self.inside.mask c.args.index c.index.result.now c.self.invariant at c.index.ensures in
      let some = capacity-positive c.args.capacity c.requires.grown.new in
      let all : c.args.capacity - 1 + 1 ≡ c.args.capacity = omega (arith, some) in
      ap (λ ps. nat_lt 0 (length ps)) there
      ∙ rw (← c.self.view_is) (sym (rw all at c.goes_to.ensures ∙ ap (λ ps. nat_lt 0 (length (slot_of number ps c.args.capacity c.args.target))) row.is))

pub returns-then-goes_to : goal.returns-then-goes_to
returns-then-goes_to g c =
    let one = ap (λ b. cond {A = ℕ} b 1 0) (goes g (goal.at.returns-then-goes_to g c).After-goes_to ∙ c.if-goes_to.true) in
    let further = c.further-further.ensures.further in
    omega (arith, further, one)

pub returns : goal.returns
returns g c =
    let none = ap (λ b. cond {A = ℕ} b 1 0) (goes g (goal.at.returns g c).After-goes_to ∙ c.if-goes_to.false) in
    let further = c.further-further.ensures.further in
    omega (arith, further, none)
