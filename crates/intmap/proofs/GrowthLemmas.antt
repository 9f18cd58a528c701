-- Wanted capacities and least powers of two: each is one, and the functions find it.
use Rattle.std.proofs.Common.{◌≡◌, inl, inr, ℕ, ◌+◌, ◌*◌, ◌/◌, ◌^◌, ◌<◌, ◌≤◌, max, Bool, true, false, List, length, get_or, map, sym, ap, ◌∙◌, subst, arith, zero-add}
use Rattle.std.specs.Prelude.{find, unwrap_or, nat_le}
use Rattle.std.specs.List.{range_with_len, position_or_len}
use Rattle.std.specs.Int.{IsPowerOfTwo}
use Rattle.std.proofs.Math.Pow.{pow_mono, pow_pos}
use Rattle.std.proofs.Math.Nat.{mul-le-mul_left}
use Rattle.std.proofs.lemmas.Nat.{div_below, pow-add}
use Rattle.std.proofs.lemmas.Bool.{cases_lt, both_ways, le-leb, leb-true, leb-false}
use Rattle.std.proofs.lemmas.Option.{unwrap_or-slice_get}
use Rattle.std.proofs.lemmas.List.Folds.{find_at}
use Rattle.std.proofs.lemmas.List.Sums.{passes_at_first, fails_before_first}
use Rattle.std.proofs.lemmas.List.FromFn.{get_or-map-range_with_len, length-map-range_with_len}
use Rattle.intmap_table.specs.Classes.{IsCapacity}
use Rattle.intmap.specs.Growth.{IsWanted, wanted_capacity, IsLeastPower, least_power}
use Rattle.intmap_table.proofs.SlotNumberLemmas.{capacity-positive}

-- r is the value of f at the first of 0, 1, .., m - 1 that passes
record FirstHit (test : ℕ → Bool) (f : ℕ → ℕ) (m r : ℕ) : Type 0 where
  place : ℕ
  value : r ≡ f place
  hit : test (f place) ≡ true
  missed : (i : ℕ) → i < place → test (f i) ≡ false

-- if one of them passes, the search finds the first
first_hit : (test : ℕ → Bool) (f : ℕ → ℕ) (m k : ℕ) → k < m → test (f k) ≡ true → FirstHit test f m (unwrap_or (find test (map f (range_with_len 0 m))) 0)
first_hit test f m k lt passes =
    let xs : List ℕ = map f (range_with_len 0 m) in
    let j : ℕ = position_or_len test xs in
    let len : length xs ≡ m = length-map-range_with_len f 0 m in
    let at : (i : ℕ) → i < m → get_or xs i 0 ≡ f i = λ i w. get_or-map-range_with_len f 0 m i i 0 w (zero-add i) in
    let within : j < length xs = elim (cases_lt j (length xs)) [
      | inl w ↦ w
      | inr ge ↦ absurd (both_ways (test (get_or xs k 0)) (fails_before_first test xs k 0 (omega (arith, lt, len, ge))) (ap test (at k lt) ∙ passes))
    ] in
    record {
      place = j;
      value = ap (λ o. unwrap_or o 0) (find_at test xs) ∙ unwrap_or-slice_get xs j 0 ∙ at j (omega (arith, within, len));
      hit = ap test (sym (at j (omega (arith, within, len)))) ∙ passes_at_first test xs 0 within;
      missed = λ i w. ap test (sym (at i (omega (arith, within, len, w)))) ∙ fails_before_first test xs i 0 w;
    }

-- of two wanted capacities none is below the other
not_below : (C n F A B : ℕ) → IsWanted C n F A → IsWanted C n F B → B ≤ A
not_below C n F A B a b = elim (cases_lt A B) [
  | inl less ↦
      (let over = b.least a.doubled.0 (subst (λ x. x < B) a.doubled.1 less) in
      let met = subst (λ x. n * 1000 / x ≤ F) a.doubled.1 a.meets in absurd (omega (arith, over, met)))
  | inr not ↦ not
]

-- there is one wanted capacity at most
pub IsWanted-unique : (C n F A B : ℕ) → IsWanted C n F A → IsWanted C n F B → A ≡ B
IsWanted-unique C n F A B a b = let below = not_below C n F A B a b in let above = not_below C n F B A b a in omega (arith, below, above)

-- the function gives the wanted capacity
pub IsWanted-wanted_capacity : (C n F : ℕ) → IsCapacity C → n < 2 ^ 64 → IsWanted C n F (wanted_capacity C n F)
IsWanted-wanted_capacity C n F cap small =
    let test : ℕ → Bool = λ D. nat_le (n * 1000 / D) F in
    let pos : 0 < C = capacity-positive C cap in
    let none : n * 1000 / (C * 2 ^ 75) < 1 = div_below (n * 1000) (C * 2 ^ 75) 1 (omega (arith, pos)) (omega (arith, pos, small)) in
    let h : FirstHit test (λ j. C * 2 ^ j) 76 (wanted_capacity C n F) = first_hit test (λ j. C * 2 ^ j) 76 75 (omega arith) (le-leb (n * 1000 / (C * 2 ^ 75)) F (omega (arith, none))) in
    let met : n * 1000 / (C * 2 ^ h.place) ≤ F = leb-true (n * 1000 / (C * 2 ^ h.place)) F h.hit in
    record {
      doubled = (h.place, h.value);
      meets = subst (λ x. n * 1000 / x ≤ F) (sym h.value) met;
      least = λ i lt. elim (cases_lt i h.place) [
        | inl w ↦ leb-false (n * 1000 / (C * 2 ^ i)) F (h.missed i w)
        | inr ge ↦ (let m : C * 2 ^ h.place ≤ C * 2 ^ i = mul-le-mul_left C (pow_mono ge) in let v : wanted_capacity C n F ≡ C * 2 ^ h.place = h.value in absurd (let w : C * 2 ^ i < C * 2 ^ h.place = subst (λ x. C * 2 ^ i < x) v lt in omega (arith, m, w)))
      ];
    }

-- what `next_power_of_two` returns is the least
pub IsLeastPower-up : (n p : ℕ) → IsPowerOfTwo p → n ≤ p → p / 2 < max 1 n → IsLeastPower n p
IsLeastPower-up n p power enough below = record {
  power = power;
  enough = enough;
  least = λ e h. elim (cases_lt e power.0) [
    | inr ge ↦ let m : 2 ^ power.0 ≤ 2 ^ e = pow_mono ge in omega (arith, m, power.1)
    | inl lt ↦
        let m : 2 ^ (e + 1) ≤ 2 ^ power.0 = pow_mono (let w : e + 1 ≤ power.0 = omega arith in w) in
        let d : 2 ^ (e + 1) ≡ 2 ^ e * 2 = pow-add 2 e 1 in
        let some : 0 < 2 ^ e = pow_pos e in
        absurd (omega (arith, m, d, power.1, below, h, some))
  ];
}

-- a power of two from 2 up to 2^63 is a capacity
IsCapacity-power : (p : ℕ) → IsPowerOfTwo p → 2 ≤ p → p < 2 ^ 64 → IsCapacity p
IsCapacity-power p power two below =
    let k : ℕ = power.0 in
    let is : p ≡ 2 ^ k = power.1 in
    let some : 1 ≤ k = elim (cases_lt 0 k) [ inl h ↦ h | inr z ↦ (let o : k ≡ 0 = omega arith in let q = ap (λ n. 2 ^ n) o in absurd (omega (arith, is, q, two))) ] in
    let top : k < 64 = elim (cases_lt k 64) [ inl h ↦ h | inr ge ↦ (let m : 2 ^ 64 ≤ 2 ^ k = pow_mono ge in absurd (omega (arith, m, below, is))) ] in
    (k, some, top, is)

-- the next power of two, from 2 on, is a capacity
pub IsCapacity-from_next : (c p : ℕ) → c ≤ 2 ^ 63 → IsPowerOfTwo p → max c 2 ≤ p → p / 2 < max 1 (max c 2) → IsCapacity p
IsCapacity-from_next c p small power low high = IsCapacity-power p power (omega (arith, low)) (omega (arith, high, small))

-- the function gives the least power
pub IsLeastPower-least_power : (n : ℕ) → n ≤ 2 ^ 64 → IsLeastPower n (least_power n)
IsLeastPower-least_power n small =
    let h : FirstHit (nat_le n) (λ e. 2 ^ e) 65 (least_power n) = first_hit (nat_le n) (λ e. 2 ^ e) 65 64 (omega arith) (le-leb n (2 ^ 64) small) in
    let met : n ≤ 2 ^ h.place = leb-true n (2 ^ h.place) h.hit in
    record {
      power = (h.place, h.value);
      enough = subst (λ x. n ≤ x) (sym h.value) met;
      least = λ e enough. subst (λ x. x ≤ 2 ^ e) (sym h.value) (elim (cases_lt e h.place) [
        | inl w ↦ (let over : 2 ^ e < n = leb-false n (2 ^ e) (h.missed e w) in absurd (omega (arith, over, enough)))
        | inr ge ↦ pow_mono ge
      ]);
    }

-- a power of two below 2^64 and a capacity: the greater is a capacity
pub IsCapacity-max : (p C : ℕ) → IsPowerOfTwo p → p < 2 ^ 64 → IsCapacity C → IsCapacity (max p C)
IsCapacity-max p C power below cap = elim (cases_lt C p) [
  | inr le ↦ (let e : max p C ≡ C = omega arith in rw e cap)
  | inl more ↦
      (let e : max p C ≡ p = omega arith in let m : 2 ^ 1 ≤ 2 ^ cap.0 = pow_mono cap.1 in let q = cap.3 in
      rw e (IsCapacity-power p power (omega (arith, m, q, more)) below))
]

-- if a number fits, its least power of two fits
pub IsLeastPower-fits : (n p C : ℕ) → IsLeastPower n p → IsCapacity C → n ≤ C → p ≤ C
IsLeastPower-fits n p C least cap fits =
    let q = cap.3 in let m = least.least cap.0 (subst (λ c. n ≤ c) q fits) in omega (arith, m, q)
