-- Slots in a table that has become longer: which of them keys have, and which of them the pairs of an old slot go to.
use Rattle.std.proofs.Common.{◌≡◌, ◌≢◌, ℕ, ◌+◌, ◌-◌, ◌*◌, ◌/◌, ◌%◌, ◌^◌, ◌<◌, ◌≤◌, Bool, false, ◌==◌, filter, List, [], ◌∷◌, get_or, refl, sym, ap, ◌∙◌, subst, arith, mul_comm, zero-add, pow_pos, All}
use Rattle.std.proofs.Math.Nat.{le-mul_of_pos_right}
use Rattle.std.proofs.lemmas.Nat.{pow-add, mod-pow-add, mod-mul-add}
use Rattle.std.proofs.lemmas.Bool.{ne_eqb}
use Rattle.std.proofs.lemmas.List.Elements.{All-weaker, All-head, All-tail}
use Rattle.intmap_table.specs.Classes.{multiplier, IsCapacity, slot_number}
use Rattle.intmap_table.specs.Walk.{slot_of}
use Rattle.intmap_table.specs.Tables.Slots.{joined}
use Rattle.intmap_table.specs.Tables.Rows.{IsGrown, IsOldRows}
use Rattle.intmap_table.proofs.SlotNumberLemmas.{slot_number-below}
use Rattle.intmap_table.proofs.ClassLemmas.{class-joined}
use Rattle.intmap_table.proofs.RegroupLemmas.{exponent_from_power, slot_of-slot_of}

module _ {K : Type 0} (number : K → ℕ) where
  -- how far past the old slots the new slot of a key is, in numbers of old slots
  abbrev part : ℕ → ℕ → K → ℕ
  part C a k = (number k * multiplier) / C % 2 ^ a

  -- the new slot of a key is so far past its old one
  pub slot_number-split : (C a : ℕ) (k : K) → IsCapacity C → slot_number number k (C * 2 ^ a) ≡ part C a k * C + slot_number number k C
  slot_number-split C a k cap =
      let e : ℕ = cap.0 in
      let x : ℕ = number k * multiplier in
      let P : ℕ → Type 0 = λ c. x % (c * 2 ^ a) ≡ (x / c % 2 ^ a) * c + x % c in
      let whole : 2 ^ e * 2 ^ a ≡ 2 ^ (a + e) = mul_comm (2 ^ e) (2 ^ a) ∙ sym (pow-add 2 a e) in
      subst P (sym cap.3) (ap (λ m. x % m) whole ∙ mod-pow-add x a e)

  -- and the old one is what the new one leaves
  pub slot_number-modulo : (C a : ℕ) (k : K) → IsCapacity C → slot_number number k (C * 2 ^ a) % C ≡ slot_number number k C
  slot_number-modulo C a k cap = ap (λ m. m % C) (slot_number-split C a k cap) ∙ mod-mul-add (part C a k) C (slot_number number k C) (slot_number-below number k C cap)

  pub slot_number-grown : (C D : ℕ) (k : K) → IsGrown C D → slot_number number k D % C ≡ slot_number number k C
  slot_number-grown C D k grown = let a : ℕ = grown.times.0 in subst (λ d. slot_number number k d % C ≡ slot_number number k C) (sym grown.times.1) (slot_number-modulo C a k grown.old)

-- numbers of slots that don't shrink are grown
pub IsGrown-from : (C D : ℕ) → IsCapacity C → IsCapacity D → C ≤ D → IsGrown C D
IsGrown-from C D old new le =
    let e : ℕ = old.0 in let f : ℕ = new.0 in
    let small : e ≤ f = exponent_from_power e f (rw (old.3, new.3) at le) in
    let sum : (f - e) + e ≡ f = omega (arith, small) in
    record {
      old = old;
      new = new;
      times = (f - e, new.3 ∙ ap (λ n. 2 ^ n) (sym sum) ∙ pow-add 2 (f - e) e ∙ mul_comm (2 ^ (f - e)) (2 ^ e) ∙ ap (λ c. c * 2 ^ (f - e)) (sym old.3));
    }

module _ {P : Type 0} where
  -- no element passes
  pub filter_none : (q : P → Bool) (L : List P) → All (λ p. q p ≡ false) L → filter q L ≡ []
  filter_none q [] all = refl
  filter_none q (p ∷ L) all = let e : q p ≡ false = All-head (λ p. q p ≡ false) p L all in let rest = filter_none q L (All-tail (λ p. q p ≡ false) p L all) in simp (e, rest)

-- grown slots are no fewer
pub grown-more : (C D : ℕ) → IsGrown C D → C ≤ D
grown-more C D grown = rw grown.times.1 (le-mul_of_pos_right C (pow_pos grown.times.0))

module _ {K X : Type 0} (number : K → ℕ) (C D : ℕ) (grown : IsGrown C D) where
  -- pairs of old slot k don't go to a part of another
  pub slot_of-elsewhere : (L : List (K × X)) (k j : ℕ) → All (λ p. slot_number number p.0 C ≡ k) L → j % C ≢ k → slot_of number L D j ≡ []
  slot_of-elsewhere L k j own apart =
      filter_none (λ p. slot_number number p.0 D == j) L
      (All-weaker (λ p. slot_number number p.0 C ≡ k) (λ p. (slot_number number p.0 D == j) ≡ false)
      (λ p here. ne_eqb (slot_number number p.0 D) j (λ q. apart (ap (λ m. m % C) (sym q) ∙ slot_number-grown number C D p.0 grown ∙ here))) L own)

  module _ (R : List (List (K × X))) (is : IsOldRows number R C) where
    -- the pairs of a slot are all of its old row
    pub slot_of-old : (j : ℕ) → slot_of number (joined R) D j ≡ slot_of number (get_or R (j % C) []) D j
    slot_of-old j =
        let row : slot_of number (joined R) C (j % C) ≡ get_or R (j % C) [] =
        rw zero-add at (class-joined (λ p. slot_number number p.0 C) 0 (j % C) R (λ k below. let w : k < C = omega (arith, below, is.len) in rw zero-add (is.own k w))) in
        sym (slot_of-slot_of number C D grown.old grown.new (grown-more C D grown) (joined R) j) ∙ ap (λ M. slot_of number M D j) row
