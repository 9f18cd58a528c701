-- Pairs that are put into the slots of a larger table.
use Rattle.std.proofs.Common.{◌≡◌, ◌≢◌, ℕ, zero, suc, ◌+◌, ◌<◌, ◌≤◌, ◌==◌, true, false, cond, List, [], ◌∷◌, ◌++◌, length, get_or, refl, sym, ap, ◌∙◌, arith}
use Rattle.std.specs.Prelude.{nat_lt, All, take, ◌%◌, ◌-◌}
use Rattle.std.proofs.lemmas.Bool.{lt-ltb}
use Rattle.std.proofs.lemmas.List.Elements.{filter-append}
use Rattle.std.proofs.lemmas.List.Sums.{sum_by-cons}
use Rattle.intmap_table.specs.Classes.{slot_number}
use Rattle.intmap_table.specs.Walk.{slot_of}
use Rattle.intmap_table.specs.Tables.Nodes.{AreHome, further}
use Rattle.intmap_table.specs.Tables.Rows.{IsGrown}
use Rattle.intmap_table.specs.Tables.Slots.{joined}
use Rattle.intmap_table.specs.Tables.Rows.{put_second}
use Rattle.intmap_table.proofs.Tables.AroundLemmas.{joined-taken}
use Rattle.intmap_table.proofs.Tables.GrownLemmas.{slot_of-elsewhere}

module _ {P : Type 0} (home : P → ℕ) where
  pub home-put_second : (i : ℕ) (ps : List P) (p : P) → AreHome home i ps → home p ≡ i → AreHome home i (put_second ps p)
  home-put_second i [] p own e = (e, tt)
  home-put_second i (q ∷ ps) p own e = (own.0, (e, own.1))

module _ {P : Type 0} where
  pub put_second-filled : (ps : List P) (p : P) → true ≡ nat_lt 0 (length (put_second ps p))
  put_second-filled [] p = sym (lt-ltb 0 (length (p ∷ [])) (omega arith))
  put_second-filled (q ∷ ps) p = sym (lt-ltb 0 (length (q ∷ p ∷ ps)) (omega arith))

module _ {K X : Type 0} (number : K → ℕ) where
  -- a pair that goes to slot j is there
  pub first-there : (p : K × X) (ps : List (K × X)) (C j : ℕ) → slot_number number p.0 C ≡ j → 0 < length (slot_of number (p ∷ ps) C j)
  first-there p ps C j own =
      let yes : (slot_number number p.0 C == j) ≡ true = grind (arith, own) in
      let len = ap (λ b. length (cond b (p ∷ slot_of number ps C j) (slot_of number ps C j))) yes in
      omega (arith, len)

  -- one that doesn't isn't
  pub first-elsewhere : (p : K × X) (ps : List (K × X)) (C j : ℕ) → slot_number number p.0 C ≢ j → slot_of number (p ∷ ps) C j ≡ slot_of number ps C j
  first-elsewhere p ps C j apart =
      let no : (slot_number number p.0 C == j) ≡ false = grind (arith, apart) in
      ap (λ b. cond b (p ∷ slot_of number ps C j) (slot_of number ps C j)) no

module _ {P : Type 0} where
  -- how many pairs are behind the first ones of the rows up to the next one
  pub further-taken : (i : ℕ) (R : List (List P)) → further (take (i + 1) R) ≡ further (take i R) + (length (get_or R i []) - 1)
  further-taken i R = let one : i + 1 ≡ suc i = omega arith in ap (λ n. further (take n R)) one ∙ by i R
    where
      by : (i : ℕ) (R : List (List P)) → further (take (suc i) R) ≡ further (take i R) + (length (get_or R i []) - 1)
      by zero [] = omega arith
      by zero (row ∷ R) = let e = sum_by-cons (λ (ps : List P). length ps - 1) row [] in omega (arith, e)
      by (suc i) [] = omega arith
      by (suc i) (row ∷ R) =
          let e = sum_by-cons (λ (ps : List P). length ps - 1) row (take (suc i) R) in
          let f = sum_by-cons (λ (ps : List P). length ps - 1) row (take i R) in
          let h = by i R in
          omega (arith, e, f, h)

  -- those of some of the rows are no more than those of all
  pub further-some : (i : ℕ) (R : List (List P)) → further (take i R) ≤ further R
  further-some zero R = omega arith
  further-some (suc i) [] = omega arith
  further-some (suc i) (row ∷ R) =
      let e = sum_by-cons (λ (ps : List P). length ps - 1) row (take i R) in
      let f = sum_by-cons (λ (ps : List P). length ps - 1) row R in
      let h = further-some i R in
      omega (arith, e, f, h)

  pub further-fewer : (R : List (List P)) (from i : ℕ) → from ≤ i → further (take from R) ≤ further (take i R)
  further-fewer R zero i up = omega arith
  further-fewer R (suc from) zero up = absurd (omega (arith, up))
  further-fewer [] (suc from) (suc i) up = omega arith
  further-fewer (row ∷ R) (suc from) (suc i) up =
      let e = sum_by-cons (λ (ps : List P). length ps - 1) row (take from R) in
      let f = sum_by-cons (λ (ps : List P). length ps - 1) row (take i R) in
      let h = further-fewer R from i (omega (arith, up)) in
      omega (arith, e, f, h)

module _ {K X : Type 0} (number : K → ℕ) (C D : ℕ) (grown : IsGrown C D) where
  -- pairs of the rows before a row don't go to a slot of that row, or of one behind it
  pub none-before : (R : List (List (K × X))) (n j : ℕ) → ((i : ℕ) → i < n → All (λ p. slot_number number p.0 C ≡ i) (get_or R i [])) → n ≤ j % C → slot_of number (joined (take n R)) D j ≡ []
  none-before R zero j own past = refl
  none-before R (suc n) j own past =
      let last = slot_of-elsewhere number C D grown (get_or R n []) n j (own n (omega arith)) (λ e. omega (arith, e, past)) in
      let rest = none-before R n j (λ i below. own i (omega (arith, below))) (omega (arith, past)) in
      let one : suc n ≡ n + 1 = omega arith in
      ap (λ k. slot_of number (joined (take k R)) D j) one ∙ ap (λ L. slot_of number L D j) (joined-taken n R)
      ∙ filter-append (λ p. slot_number number p.0 D == j) (joined (take n R)) (get_or R n [])
      ∙ ap (λ ps. ps ++ slot_of number (get_or R n []) D j) rest ∙ last
