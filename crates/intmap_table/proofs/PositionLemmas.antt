-- The place of the first element that passes a test, and what is found and left there.
use Rattle.std.proofs.Common.{◌≡◌, ℕ, suc, ◌+◌, ◌-◌, ◌<◌, ◌≤◌, Bool, false, cond, List, [], ◌∷◌, length, get_or, set, take, Some, None, refl, sym, ap, ◌∙◌, subst, arith}
use Rattle.std.specs.Prelude.{position, swap_remove, nat_lt}
use Rattle.std.specs.List.{position_or_len, list_any}
use Rattle.std.proofs.lemmas.Bool.{ltb-true}
use Rattle.std.proofs.lemmas.Bool.Decides.{nat_tests}
use Rattle.std.proofs.lemmas.Option.{cond_some}
use Rattle.intmap_table.specs.Bindings.{last_passing, without_last, swap_out, first_value}
use Rattle.intmap_table.proofs.Tables.SwapOutLemmas.{any}

module _ {X : Type 0} (test : X → Bool) where
  position_or_len-le : (xs : List X) → position_or_len test xs ≤ length xs
  position_or_len-le [] = omega arith
  position_or_len-le (x ∷ xs) = let h = position_or_len-le xs in grind (arith, h)

  -- if none is found, the whole list is passed
  pub position_or_len-none : (xs : List X) → position test xs ≡ None → position_or_len test xs ≡ length xs
  position_or_len-none xs none = let l = position_or_len-le xs in grind (arith, nat_tests, none, l)

module _ {X : Type 0} where
  pub swap_remove-cons : (z : X) (zs : List X) (i : ℕ) (x : X) → swap_remove (z ∷ zs) i x ≡ take (length zs) (set (z ∷ zs) i (get_or (z ∷ zs) (length zs) x))
  swap_remove-cons z zs i x =
      let e : suc (length zs) - 1 ≡ length zs = omega arith in
      ap (λ n. take n (set (z ∷ zs) i (get_or (z ∷ zs) n x))) e

  pub swap_remove-behind : (y z : X) (zs : List X) (i : ℕ) (x : X) → swap_remove (y ∷ z ∷ zs) (suc i) x ≡ y ∷ swap_remove (z ∷ zs) i x
  swap_remove-behind y z zs i x = swap_remove-cons y (z ∷ zs) (suc i) x ∙ ap (λ l. y ∷ l) (sym (swap_remove-cons z zs i x))

  last_passing-any : (d z : X) (zs : List X) (e : X) → last_passing any d (z ∷ zs) ≡ get_or (z ∷ zs) (length zs) e
  last_passing-any d z [] e = refl
  last_passing-any d z (y ∷ zs) e = last_passing-any z y zs e

  without_last-any : (z : X) (zs : List X) → without_last any (z ∷ zs) ≡ take (length zs) (z ∷ zs)
  without_last-any z [] = refl
  without_last-any z (y ∷ zs) = ap (λ r. z ∷ r) (without_last-any y zs)

  pub swap_remove-first : (y x : X) (ys : List X) → x ≡ y → swap_remove (y ∷ ys) 0 x ≡ cond (list_any any ys) (last_passing any y ys ∷ without_last any ys) ys
  swap_remove-first y x [] e = refl
  swap_remove-first y x (z ∷ zs) e =
      swap_remove-cons y (z ∷ zs) 0 x ∙ simp (last_passing-any y z zs x, without_last-any z zs)

module _ {X : Type 0} (test : X → Bool) where
  swap_remove-position_or_len : (x : X) (xs : List X) → position_or_len test xs < length xs → x ≡ get_or xs (position_or_len test xs) x → swap_remove xs (position_or_len test xs) x ≡ swap_out test any xs
  swap_remove-position_or_len x [] below is = absurd (omega arith)
  swap_remove-position_or_len x (y ∷ []) below is = let first = swap_remove-first y x [] in grind (arith, below, is, first)
  swap_remove-position_or_len x (y ∷ z ∷ zs) below is =
      let first = swap_remove-first y x (z ∷ zs) in let rest = swap_remove-position_or_len x (z ∷ zs) in
      let behind = swap_remove-behind y z zs (position_or_len test (z ∷ zs)) x in grind (arith, below, is, first, rest, behind)

  -- a place that was found is the first that passes, and within the list
  pub position-within : (xs : List X) (i : ℕ) → position test xs ≡ Some i → (position_or_len test xs ≡ i) × (i < length xs)
  position-within xs i e =
      let c = cond_some (nat_lt (position_or_len test xs) (length xs)) (position_or_len test xs) i e in
      let l : position_or_len test xs < length xs = ltb-true (position_or_len test xs) (length xs) c.0 in
      (c.1, subst (λ n. n < length xs) c.1 l)

  -- the one that was found is behind the first element
  pub position-behind : (xs : List X) (y : X) (ys : List X) (i : ℕ) → xs ≡ y ∷ ys → test y ≡ false → position test ys ≡ Some i → position test xs ≡ Some (i + 1)
  position-behind xs y ys i is fails found = let p = position-within ys i found in grind (arith, nat_tests, is, fails, p.0, p.1)

  -- the last element fills the place that was found
  pub swap_remove-position : (xs : List X) (i : ℕ) (x : X) → position test xs ≡ Some i → x ≡ get_or xs i x → swap_remove xs i x ≡ swap_out test any xs
  swap_remove-position xs i x e is =
      let p = position-within xs i e in
      ap (λ n. swap_remove xs n x) (sym p.0) ∙ swap_remove-position_or_len x xs (subst (λ n. n < length xs) (sym p.0) p.1) (is ∙ ap (λ n. get_or xs n x) (sym p.0))

  swap_out-position_or_len : (in_class : X → Bool) (xs : List X) → position_or_len test xs ≡ length xs → swap_out test in_class xs ≡ xs
  swap_out-position_or_len in_class [] e = refl
  swap_out-position_or_len in_class (y ∷ ys) e = let rest = swap_out-position_or_len in_class ys in grind (arith, e, rest)

  -- none passes behind the first element, nor does that one
  pub position-no_more : (xs : List X) (y : X) (ys : List X) → xs ≡ y ∷ ys → test y ≡ false → position test ys ≡ None → position test xs ≡ None
  position-no_more xs y ys is fails none = let all = position_or_len-none test ys none in grind (arith, nat_tests, is, fails, all)

  -- if none passes, none is taken
  pub swap_out-none : (in_class : X → Bool) (xs : List X) → position test xs ≡ None → swap_out test in_class xs ≡ xs
  swap_out-none in_class xs e = swap_out-position_or_len in_class xs (position_or_len-none test xs e)

module _ {K V : Type 0} (test : K → Bool) where
  first_value-position_or_len : (L : List (K × V)) (d : K × V) → position_or_len (λ q. test q.0) L < length L → first_value test L ≡ Some (get_or L (position_or_len (λ q. test q.0) L) d).1
  first_value-position_or_len [] d below = absurd (omega arith)
  first_value-position_or_len (p ∷ L) d below = let rest = first_value-position_or_len L d in grind (arith, below, rest)

  -- the value at the place that was found
  pub first_value-position : (L : List (K × V)) (i : ℕ) (d : K × V) → position (λ q. test q.0) L ≡ Some i → first_value test L ≡ Some (get_or L i d).1
  first_value-position L i d e =
      let p = position-within (λ (q : K × V). test q.0) L i e in
      first_value-position_or_len L d (subst (λ n. n < length L) (sym p.0) p.1) ∙ ap (λ n. Some (get_or L n d).1) p.0

  first_value-all : (L : List (K × V)) → position_or_len (λ q. test q.0) L ≡ length L → first_value test L ≡ None
  first_value-all [] e = refl
  first_value-all (p ∷ L) e = let rest = first_value-all L in grind (arith, e, rest)

  -- if none is found, there is no value
  pub first_value-none : (L : List (K × V)) → position (λ q. test q.0) L ≡ None → first_value test L ≡ None
  first_value-none L e = first_value-all L (position_or_len-none (λ (q : K × V). test q.0) L e)

  position_or_len-from_none : (L : List (K × V)) → first_value test L ≡ None → position_or_len (λ q. test q.0) L ≡ length L
  position_or_len-from_none [] h = refl
  position_or_len-from_none (p ∷ L) h = let rest = position_or_len-from_none L in grind (arith, h, rest)

  -- if there is no value, none is found
  pub position-from_none : (L : List (K × V)) → first_value test L ≡ None → position (λ q. test q.0) L ≡ None
  position-from_none L h = let all = position_or_len-from_none L h in grind (arith, nat_tests, all)
