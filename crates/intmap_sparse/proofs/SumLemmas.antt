-- Sums and counts over the numbers below a bound, and partial sums of a list.
use Rattle.std.proofs.Common.{◌≡◌, inl, inr, ℕ, zero, suc, ◌+◌, ◌<◌, ◌≤◌, Bool, true, false, cond, List, [], ◌∷◌, take, refl, sym, ap, ◌∙◌, arith}
use Rattle.std.specs.Prelude.{◌==◌, ◌↔◌, ℤ, pos, ◌+ℤ◌, FitsSigned}
use Rattle.std.specs.Int.{w128}
use Rattle.std.specs.List.{fold}
use Rattle.std.proofs.lemmas.Bool.{cases_Bool, eqb-true, eqb-false, ne_eqb}
use Rattle.std.proofs.lemmas.Int.{ints}
use Rattle.std.proofs.Math.IntN.{+ℤ_assoc, +ℤ_idl, +ℤ_idr}
use Rattle.intmap_sparse.specs.Vectors.{sum_below, count_below}

-- terms that agree have one sum
pub sum_below-ext : (f g : ℕ → ℤ) (n : ℕ) → ((i : ℕ) → i < n → f i ≡ g i) → sum_below f n ≡ sum_below g n
unfolding sum_below
sum_below-ext f g zero same = refl
sum_below-ext f g (suc n) same =
    let rest = sum_below-ext f g n (λ i below. same i (omega (arith, below))) in
    let last = same n (omega arith) in
    (λ j. rest j +ℤ last j)

-- a sum of zeros is 0
pub sum_below-zeros : (f : ℕ → ℤ) (n : ℕ) → ((i : ℕ) → f i ≡ pos 0) → sum_below f n ≡ pos 0
unfolding sum_below
sum_below-zeros f zero none = refl
sum_below-zeros f (suc n) none =
    let rest = sum_below-zeros f n none in
    (λ j. rest j +ℤ none n j)

-- the middle two of four change places
swap_middle : (a b c d : ℤ) → ((a +ℤ b) +ℤ (c +ℤ d)) ≡ ((a +ℤ c) +ℤ (b +ℤ d))
swap_middle a b c d = omega (arith, ints)

-- sums of terms add up
pub sum_below-plus : (f g : ℕ → ℤ) (n : ℕ) → sum_below (λ i. f i +ℤ g i) n ≡ (sum_below f n +ℤ sum_below g n)
unfolding sum_below
sum_below-plus f g zero = refl
sum_below-plus f g (suc n) =
    ap (λ s. s +ℤ (f n +ℤ g n)) (sum_below-plus f g n) ∙ swap_middle (sum_below f n) (sum_below g n) (f n) (g n)

-- one term among zeros below its place leaves 0
sum_below-before : (k : ℕ) (z : ℤ) (n : ℕ) → n ≤ k → sum_below (λ i. cond (k == i) z (pos 0)) n ≡ pos 0
unfolding sum_below
sum_below-before k z zero within = refl
sum_below-before k z (suc n) within =
    let rest = sum_below-before k z n (omega (arith, within)) in
    let apart : (k == n) ≡ false = ne_eqb k n (λ e. omega (arith, e, within)) in
    (λ j. rest j +ℤ cond (apart j) z (pos 0))

-- what is below the number behind n and isn't n is below n
below-other : (k n : ℕ) → k < suc n → (k == n) ≡ false → k < n
below-other k n within apart = let other = eqb-false k n apart in omega (arith, within, other)

-- one term among zeros is their sum
pub sum_below-single : (k : ℕ) (z : ℤ) (n : ℕ) → k < n → sum_below (λ i. cond (k == i) z (pos 0)) n ≡ z
unfolding sum_below
sum_below-single k z zero within = absurd (omega (arith, within))
sum_below-single k z (suc n) within = elim (cases_Bool (k == n)) [
  | inl here ↦
      (let before = sum_below-before k z n (omega (arith, eqb-true k n here)) in
      (λ j. before j +ℤ cond (here j) z (pos 0)) ∙ +ℤ_idl z)
  | inr apart ↦
      (let rest = sum_below-single k z n (below-other k n within apart) in
      (λ j. rest j +ℤ cond (apart j) z (pos 0)) ∙ +ℤ_idr z)
]

-- tests that agree count alike
pub count_below-ext : (f g : ℕ → Bool) (n : ℕ) → ((i : ℕ) → i < n → f i ≡ g i) → count_below f n ≡ count_below g n
unfolding count_below
count_below-ext f g zero same = refl
count_below-ext f g (suc n) same =
    let rest = count_below-ext f g n (λ i below. same i (omega (arith, below))) in
    let last = same n (omega arith) in
    (λ j. rest j + cond (last j) 1 0)

-- if no number passes, none is counted
pub count_below-none : (f : ℕ → Bool) (n : ℕ) → ((i : ℕ) → f i ≡ false) → count_below f n ≡ 0
unfolding count_below
count_below-none f zero none = refl
count_below-none f (suc n) none =
    let rest = count_below-none f n none in
    (λ j. rest j + cond (none n j) 1 0)

-- if one number more passes, one more is counted
pub count_below-more : (f g : ℕ → Bool) (k n : ℕ) → k < n → g k ≡ false → ((i : ℕ) → f i ≡ cond (k == i) true (g i)) → count_below f n ≡ 1 + count_below g n
unfolding count_below
count_below-more f g k zero within out more = absurd (omega (arith, within))
count_below-more f g k (suc n) within out more = elim (cases_Bool (k == n)) [
  | inl here ↦
      (let same = count_below-ext f g n (λ i below. more i ∙ ap (λ b. cond b true (g i)) (ne_eqb k i (λ e. omega (arith, e, below, eqb-true k n here)))) in
      let counts : f n ≡ true = more n ∙ ap (λ b. cond b true (g n)) here in
      let counts_not : g n ≡ false = ap g (sym (eqb-true k n here)) ∙ out in
      let one : ◌≡◌ {A = ℕ} (cond (f n) 1 0) 1 = ap (λ b. cond b 1 0) counts in
      let none : ◌≡◌ {A = ℕ} (cond (g n) 1 0) 0 = ap (λ b. cond b 1 0) counts_not in
      omega (arith, same, one, none))
  | inr apart ↦
      (let rest = count_below-more f g k n (below-other k n within apart) out more in
      let last : f n ≡ g n = more n ∙ ap (λ b. cond b true (g n)) apart in
      let alike : ◌≡◌ {A = ℕ} (cond (f n) 1 0) (cond (g n) 1 0) = ap (λ b. cond b 1 0) last in
      omega (arith, rest, alike))
]

-- a sum from a on is a and the sum
pub fold-from : (a : ℤ) (zs : List ℤ) → fold ◌+ℤ◌ a zs ≡ (a +ℤ fold ◌+ℤ◌ (pos 0) zs)
fold-from a [] = sym (+ℤ_idr a)
fold-from a (z ∷ zs) =
    fold-from (a +ℤ z) zs ∙ +ℤ_assoc a z (fold ◌+ℤ◌ (pos 0) zs)
    ∙ ap (λ s. a +ℤ s) (ap (λ y. y +ℤ fold ◌+ℤ◌ (pos 0) zs) (sym (+ℤ_idl z)) ∙ sym (fold-from (pos 0 +ℤ z) zs))

-- some partial sum from a on isn't an i128
abbrev pub IsWideFrom : ℤ → List ℤ → Type 0
IsWideFrom a zs = (i : ℕ) × (FitsSigned w128 (fold ◌+ℤ◌ a (take i zs)) → ⊥)

-- a sum that is too wide at once
pub IsWideFrom-now : (a : ℤ) (zs : List ℤ) → (FitsSigned w128 a → ⊥) → IsWideFrom a zs
IsWideFrom-now a zs wide = (0, wide)

-- the sum that is too wide is behind the first term
wide-behind : (a z : ℤ) (zs : List ℤ) (i : ℕ) → FitsSigned w128 a → (FitsSigned w128 (fold ◌+ℤ◌ a (take i (z ∷ zs))) → ⊥) → IsWideFrom (a +ℤ z) zs
wide-behind a z zs zero fits wide = absurd (wide fits)
wide-behind a z zs (suc i) fits wide = (i, wide)

-- if a is an i128, some sum is too wide if and only if one behind the first term is
pub IsWideFrom-cons : (a z : ℤ) (zs : List ℤ) → FitsSigned w128 a → IsWideFrom a (z ∷ zs) ↔ IsWideFrom (a +ℤ z) zs
IsWideFrom-cons a z zs fits = (λ wide. wide-behind a z zs wide.0 fits wide.1, λ wide. (suc wide.0, wide.1))
