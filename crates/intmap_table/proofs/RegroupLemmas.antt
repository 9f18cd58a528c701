-- The walk of a walk, in at least the same number of slots.
use Rattle.std.proofs.Common.{◌≡◌, ℕ, ◌+◌, ◌-◌, ◌*◌, ◌%◌, ◌^◌, ◌<◌, ◌≤◌, Bool, true, List, [], ◌∷◌, refl, sym, ap, ◌∙◌, arith}
use Rattle.std.specs.Prelude.{filter, ◌==◌}
use Rattle.std.proofs.Math.Pow.{pow_pos, mod-mod-pow}
use Rattle.std.proofs.lemmas.Nat.{mod_below, pow_below}
use Rattle.std.proofs.lemmas.Bool.{eq-eqb, eqb-true}
use Rattle.intmap_table.specs.Classes.{multiplier, IsCapacity, slot_number}
use Rattle.intmap_table.specs.Walk.{slot_of, walk_of}
use Rattle.intmap_table.proofs.WalkLemmas.{slot_of-walk_of, walk_of-same}

-- a filter doesn't see one before it that keeps all that it keeps
filter-wider : {X : Type 0} (keep wider : X → Bool) → ((x : X) → keep x ≡ true → wider x ≡ true) → (xs : List X) → filter keep (filter wider xs) ≡ filter keep xs
filter-wider keep wider own [] = refl
filter-wider keep wider own (x ∷ xs) = let h = filter-wider keep wider own xs in let o = own x in grind (arith, h, o)

-- the lesser power of two has the lesser exponent
pub exponent_from_power : (d e : ℕ) → 2 ^ d ≤ 2 ^ e → d ≤ e
exponent_from_power d e le = let more = pow_below e d in grind (arith, le, more)

-- what a number leaves modulo a power of two is what its rest modulo a greater one leaves
mod-mod-capacity : (n C D : ℕ) → IsCapacity C → IsCapacity D → C ≤ D → n % D % C ≡ n % C
mod-mod-capacity n C D small large le =
    let e : ℕ = small.0 in let more : ℕ = large.0 - e in
    let up : e ≤ large.0 = exponent_from_power e large.0 (rw (small.3, large.3) at le) in
    let sum : more + e ≡ large.0 = omega arith in
    rw (large.3, small.3, ← sum) (mod-mod-pow n more e)

module _ {K V : Type 0} (number : K → ℕ) (C D : ℕ) (small : IsCapacity C) (large : IsCapacity D) (le : C ≤ D) where
  -- the pairs of slot i of D are all in one slot of C
  pub slot_of-slot_of : (L : List (K × V)) (i : ℕ) → slot_of number (slot_of number L C (i % C)) D i ≡ slot_of number L D i
  slot_of-slot_of L i =
      filter-wider (λ p. slot_number number p.0 D == i) (λ p. slot_number number p.0 C == i % C)
      (λ p here. eq-eqb (slot_number number p.0 C) (i % C)
      (sym (mod-mod-capacity (number p.0 * multiplier) C D small large le) ∙ ap (λ n. n % C) (eqb-true (slot_number number p.0 D) i here))) L

-- the walk of a walk, in at least the same number of slots, is the walk of the list
pub walk_of-larger : {K V : Type 0} (number : K → ℕ) (L : List (K × V)) (C D : ℕ) → IsCapacity C → IsCapacity D → C ≤ D → walk_of number (walk_of number L C) D ≡ walk_of number L D
walk_of-larger number L C D small large le =
    walk_of-same number D (walk_of number L C) L (λ i _.
    let below : i % C < C = mod_below i C (rw small.3 (pow_pos small.0)) in
    sym (slot_of-slot_of number C D small large le (walk_of number L C) i)
    ∙ ap (λ M. slot_of number M D i) (slot_of-walk_of number C L (i % C) below)
    ∙ slot_of-slot_of number C D small large le L i)
