use Rattle.std.proofs.Common.{ℕ, ◌≡◌, ◌+◌, ◌-◌, ◌%◌, ◌^◌, ◌≤◌, ap, sym, ◌∙◌, arith}
use Rattle.std.specs.Prelude.{bit_and}
use Rattle.std.proofs.Math.Nat.{mod-le}
use Rattle.std.proofs.lemmas.Nat.{and_mask}
use Rattle.intmap_table.specs.Classes.{IsCapacity}
use Rattle.intmap_table.proofs.Tables.GrownLemmas.{slot_number-grown}
use Rattle.intmap_table.proofs.table.slots.grow.moved_index_of.Goals as goal
use Rattle.intmap_table.proofs.table.slots.grow.moved_index_of.Goals.{After-masked_index_of-target}

-- a mask leaves what is left modulo the number of slots
masked : (t mask : ℕ) → IsCapacity (mask + 1) → bit_and t mask ≡ t % (mask + 1)
masked t mask cap =
    let is : mask ≡ 2 ^ cap.0 - 1 = (let e = cap.3 in omega (arith, e)) in
    ap (bit_and t) is ∙ and_mask t cap.0 ∙ ap (λ n. t % n) (sym cap.3)

module _ (g : _) (c : After-masked_index_of-target g) where
  part : c.masked_index_of-target.result % (c.args.old_mask + 1) ≡ c.args.index
  part = ap (λ n. n % (c.args.old_mask + 1)) c.masked_index_of-target.ensures.slot ∙ slot_number-grown g.K.IntKey.number_of (c.args.old_mask + 1) (c.args.mask + 1) c.args.key.now c.requires.grown ∙ c.requires.own

  same : bit_and c.masked_index_of-target.result c.args.old_mask ≡ c.args.index
  same = masked c.masked_index_of-target.result c.args.old_mask c.requires.grown.old ∙ part

  less : c.args.index ≤ c.masked_index_of-target.result
  less = let m = mod-le c.masked_index_of-target.result (c.args.old_mask + 1) in let p = part in omega (arith, m, p)

  is : c.masked_index_of-target.result - bit_and c.masked_index_of-target.result c.args.old_mask + c.args.index ≡ c.masked_index_of-target.result
  is = let s = same in let l = less in omega (arith, s, l)

pub overflow_sub-above : goal.overflow_sub-above
overflow_sub-above g c = let at = (goal.at.overflow_sub-above g c).After-masked_index_of-target in let s = same g at in let l = less g at in omega (arith, s, l)

pub overflow_add-result : goal.overflow_add-result
overflow_add-result g c = let at = (goal.at.overflow_add-result g c).After-masked_index_of-target in let e = is g at in omega (arith, e)

pub returns-clause-slot : goal.returns-clause-slot
returns-clause-slot g c = sym (is g (goal.at.returns-clause-slot g c).After-masked_index_of-target ∙ c.masked_index_of-target.ensures.slot)

pub returns-clause-part : goal.returns-clause-part
returns-clause-part g c = let at = (goal.at.returns-clause-part g c).After-masked_index_of-target in ap (λ n. n % (c.args.old_mask + 1)) (is g at) ∙ part g at

pub returns-clause-within : goal.returns-clause-within
returns-clause-within g c = let e = is g (goal.at.returns-clause-within g c).After-masked_index_of-target in omega (arith, e)
