-- Which slot a key has: keys share one if and only if they agree modulo the number of slots.
use Rattle.std.proofs.Common.{◌≡◌, ℕ, ◌+◌, ◌-◌, ◌*◌, ◌/◌, ◌%◌, ◌^◌, ◌<◌, ◌≤◌, sym, ap, ◌∙◌, subst, arith}
use Rattle.std.specs.Prelude.{◌==◌, bit_and, ◌↔◌}
use Rattle.std.proofs.Math.Nat.{add-mul-mod_self_right, mul_assoc}
use Rattle.std.proofs.Math.Pow.{pow_pos, pow_mono}
use Rattle.std.proofs.lemmas.Nat.{mul-mod_first, pow-add, and_mask, mod_below, mod-pow-add, mod-mul-add}
use Rattle.std.proofs.lemmas.Bool.{eqb-true, eq-eqb}
use Rattle.std.proofs.lemmas.Bool.Decides.{same_from_decides}
use Rattle.intmap_table.specs.Classes.{multiplier, IsCapacity, residue, slot_number, agrees}

-- the number that undoes the multiplier modulo 2 ^ 64
abbrev inverse : ℕ
inverse = 6236490470931210493

-- multiplied by both, a number is itself modulo a power of two up to 2 ^ 64
undone : (a e : ℕ) → e < 64 → (a * multiplier * inverse) % 2 ^ e ≡ a % 2 ^ e
undone a e small =
    let rest : ℕ = 64 - e in
    let sum : rest + e ≡ 64 = omega arith in
    let whole : 2 ^ rest * 2 ^ e ≡ 2 ^ 64 = sym (pow-add 2 rest e) ∙ ap (λ n. 2 ^ n) sum in
    let product : a * multiplier * inverse ≡ a + a * 3854363081550326191 * 2 ^ 64 = omega arith in
    let turns : a * 3854363081550326191 * 2 ^ 64 ≡ a * 3854363081550326191 * 2 ^ rest * 2 ^ e =
    ap (λ n. a * 3854363081550326191 * n) (sym whole) ∙ sym (mul_assoc (a * 3854363081550326191) (2 ^ rest) (2 ^ e)) in
    ap (λ n. n % 2 ^ e) (product ∙ ap (λ n. a + n) turns) ∙ add-mul-mod_self_right a (a * 3854363081550326191 * 2 ^ rest) (2 ^ e)

-- numbers with one remainder go to one slot
slot_from_residue : (a b e : ℕ) → a % 2 ^ e ≡ b % 2 ^ e → (a * multiplier) % 2 ^ e ≡ (b * multiplier) % 2 ^ e
slot_from_residue a b e same =
    sym (mul-mod_first a multiplier (2 ^ e)) ∙ ap (λ n. (n * multiplier) % 2 ^ e) same
    ∙ mul-mod_first b multiplier (2 ^ e)

-- numbers of one slot have one remainder
residue_from_slot : (a b e : ℕ) → e < 64 → (a * multiplier) % 2 ^ e ≡ (b * multiplier) % 2 ^ e → a % 2 ^ e ≡ b % 2 ^ e
residue_from_slot a b e small same =
    sym (undone a e small) ∙ sym (mul-mod_first (a * multiplier) inverse (2 ^ e))
    ∙ ap (λ n. (n * inverse) % 2 ^ e) same
    ∙ mul-mod_first (b * multiplier) inverse (2 ^ e) ∙ undone b e small

module _ {K : Type 0} (number : K → ℕ) where
  -- two keys have one slot if and only if they agree modulo the number of slots
  pub slot_number-residue : (C : ℕ) → IsCapacity C → (a b : K) → (slot_number number a C ≡ slot_number number b C) ↔ (residue number a C ≡ residue number b C)
  slot_number-residue C cap a b =
      let e : ℕ = cap.0 in
      let P : ℕ → Type 0 = λ c. (slot_number number a c ≡ slot_number number b c) ↔ (residue number a c ≡ residue number b c) in
      subst P (sym cap.3) (residue_from_slot (number a) (number b) e cap.2, slot_from_residue (number a) (number b) e)

  -- the same as tests
  pub agrees-slot_number : (C : ℕ) → IsCapacity C → (a k : K) → agrees number C k a ≡ (slot_number number a C == slot_number number k C)
  agrees-slot_number C cap a k =
      let law = slot_number-residue C cap a k in
      same_from_decides {P = residue number a C ≡ residue number k C} (agrees number C k a) (slot_number number a C == slot_number number k C)
      (eqb-true (residue number a C) (residue number k C), eq-eqb (residue number a C) (residue number k C))
      ((λ h. law.0 (eqb-true (slot_number number a C) (slot_number number k C) h)), (λ h. eq-eqb (slot_number number a C) (slot_number number k C) (law.1 h)))

  -- a slot is one of the table's
  pub slot_number-below : (k : K) (C : ℕ) → IsCapacity C → slot_number number k C < C
  slot_number-below k C cap =
      let some : 0 < C = subst (λ c. 0 < c) (sym cap.3) (pow_pos cap.0) in mod_below (number k * multiplier) C some

-- a wrapping product and a mask give the slot
pub bit_and-mask : (n mask : ℕ) → IsCapacity (mask + 1) → bit_and ((n * multiplier) % 2 ^ 64) mask ≡ (n * multiplier) % (mask + 1)
bit_and-mask n mask cap =
    let e : ℕ = cap.0 in let rest : ℕ = 64 - e in let small : e < 64 = cap.2 in
    let x : ℕ = n * multiplier in
    let sum : rest + e ≡ 64 = omega arith in
    let some : 0 < 2 ^ e = pow_pos e in
    let low : x % 2 ^ e < 2 ^ e = mod_below x (2 ^ e) some in
    let is : mask ≡ 2 ^ e - 1 = omega (arith, cap.3) in
    ap (λ c. bit_and (x % 2 ^ 64) c) is ∙ and_mask (x % 2 ^ 64) e
    ∙ ap (λ m. x % 2 ^ m % 2 ^ e) (sym sum) ∙ ap (λ m. m % 2 ^ e) (mod-pow-add x rest e)
    ∙ mod-mul-add (x / 2 ^ e % 2 ^ rest) (2 ^ e) (x % 2 ^ e) low
    ∙ ap (λ c. x % c) (sym cap.3)

pub capacity-positive : (C : ℕ) → IsCapacity C → 0 < C
capacity-positive C cap = rw cap.3 (pow_pos cap.0)

pub capacity-greatest : (C : ℕ) → IsCapacity C → C ≤ 2 ^ 63
capacity-greatest C cap =
    let most : cap.0 ≤ 63 = (let below = cap.2 in omega (arith, below)) in
    let p : 2 ^ cap.0 ≤ 2 ^ 63 = pow_mono most in let q = cap.3 in omega (arith, p, q)
