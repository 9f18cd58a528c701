-- Each key once, counts and `All`, through a walk, a removal and an insertion.
use Rattle.std.proofs.Common.{◌≡◌, ℕ, zero, suc, ◌+◌, ◌<◌, ◌≤◌, Bool, true, false, cond, List, [], ◌∷◌, ◌++◌, length, refl, sym, ◌∙◌, subst, arith}
use Rattle.std.specs.Prelude.{◌==◌, filter, All, sum_by, count_by, is_some}
use Rattle.std.specs.List.{list_any, flat_map, range_with_len}
use Rattle.std.proofs.lemmas.List.Elements.{All-nil, All-cons, All-head, All-tail, All-append, All-push, All-filter}
use Rattle.std.proofs.lemmas.List.{length_push}
use Rattle.std.proofs.lemmas.List.Sums.{sum_by-cons, sum_by-append}
use Rattle.std.proofs.lemmas.Bool.{cond_both}
use Rattle.std.proofs.lemmas.Bool.Decides.{nat_tests}
use Rattle.intmap_table.specs.Classes.{slot_number, same_key, agrees}
use Rattle.intmap_table.specs.Bindings.{last_passing, without_last, swap_out, value_of, HasDistinctKeys, take_key, put_pair}
use Rattle.intmap_table.specs.Walk.{slot_of, walk_of}

module _ {X : Type 0} (weight : X → ℕ) (is_it in_class : X → Bool) where
  -- the weight of the first element that is the one
  abbrev pub taken : List X → ℕ
  taken [] = 0
  taken (x ∷ xs) = cond (is_it x) (weight x) (taken xs)

  -- if none passes, the given element is returned
  pub last_passing-none : (d : X) (xs : List X) → list_any in_class xs ≡ false → last_passing in_class d xs ≡ d
  last_passing-none d [] h = refl
  last_passing-none d (x ∷ xs) h = let k = last_passing-none d xs in let l = last_passing-none x xs in grind (arith, h, k, l)

  -- the last of a class and the rest weigh what all weigh
  sum_by-last : (d : X) (xs : List X) → list_any in_class xs ≡ true → weight (last_passing in_class d xs) + sum_by weight (without_last in_class xs) ≡ sum_by weight xs
  sum_by-last d [] t = cc
  sum_by-last d (x ∷ xs) t =
      let rest = sum_by-last d xs in let behind = sum_by-last x xs in let none = last_passing-none x xs in
      let more = sum_by-cons weight x (without_last in_class xs) in let all = sum_by-cons weight x xs in grind (arith, t, rest, behind, none, more, all)

  -- what is left and what was taken weigh what all weighed
  pub sum_by-swap_out : (xs : List X) → sum_by weight (swap_out is_it in_class xs) + taken xs ≡ sum_by weight xs
  sum_by-swap_out [] = refl
  sum_by-swap_out (x ∷ xs) =
      let rest = sum_by-swap_out xs in let last = sum_by-last x xs in let moved = sum_by-cons weight (last_passing in_class x xs) (without_last in_class xs) in
      let more = sum_by-cons weight x (swap_out is_it in_class xs) in let all = sum_by-cons weight x xs in grind (arith, rest, last, moved, more, all)

module _ {X : Type 0} (test in_class : X → Bool) where
  -- of one that passes at most, all that pass are taken
  taken-itself : (xs : List X) → count_by test xs ≤ 1 → taken (λ y. cond (test y) 1 0) test in_class xs ≡ count_by test xs
  taken-itself [] le = refl
  taken-itself (x ∷ xs) le = let rest = taken-itself xs in let more = sum_by-cons (λ y. cond (test y) 1 0) x xs in grind (arith, rest, more, le)

  -- so none is left
  count_by-swap_out : (xs : List X) → count_by test xs ≤ 1 → count_by test (swap_out test in_class xs) ≡ 0
  count_by-swap_out xs le = let s = sum_by-swap_out (λ y. cond (test y) 1 0) test in_class xs in let t = taken-itself xs le in omega (arith, s, t)

-- a length as a sum
length-sum_by : {X : Type 0} (xs : List X) → length xs ≡ sum_by (λ _. 1) xs
length-sum_by [] = refl
length-sum_by (x ∷ xs) = let h = length-sum_by xs in let m = sum_by-cons (λ _. 1) x xs in omega (arith, h, m)

module _ {X : Type 0} (weight f : X → ℕ) where
  -- the elements of class a, then those of class a + 1, and so on for n classes
  abbrev pub classes : List X → ℕ → ℕ → List X
  classes xs a n = flat_map (λ i. filter (λ x. f x == i) xs) (range_with_len a n)

  -- the classes of no elements weigh nothing
  classes-none : (a n : ℕ) → sum_by weight (classes [] a n) ≡ 0
  classes-none a zero = refl
  classes-none a (suc n) = classes-none (a + 1) n

  -- an element of a class below these adds nothing
  classes-above : (x : X) (xs : List X) (a n : ℕ) → f x < a → sum_by weight (classes (x ∷ xs) a n) ≡ sum_by weight (classes xs a n)
  classes-above x xs a zero lt = refl
  classes-above x xs a (suc n) lt =
      let rest = classes-above x xs (a + 1) n (omega arith) in let joined = sum_by-append weight (filter (λ y. f y == a) xs) in
      let more = joined (classes (x ∷ xs) (a + 1) n) in let old = joined (classes xs (a + 1) n) in grind (arith, nat_tests, lt, rest, more, old)

  -- an element of one of these classes adds its weight
  classes-cons : (x : X) (xs : List X) (a n : ℕ) → a ≤ f x → f x < a + n → sum_by weight (classes (x ∷ xs) a n) ≡ weight x + sum_by weight (classes xs a n)
  classes-cons x xs a zero le lt = absurd (omega arith)
  classes-cons x xs a (suc n) le lt =
      let above = classes-above x xs (a + 1) n in let rest = classes-cons x xs (a + 1) n in let joined = sum_by-append weight (filter (λ y. f y == a) xs) in
      let here = sum_by-cons weight x (filter (λ y. f y == a) xs ++ classes (x ∷ xs) (a + 1) n) in
      let more = joined (classes (x ∷ xs) (a + 1) n) in let old = joined (classes xs (a + 1) n) in grind (arith, nat_tests, le, lt, above, rest, here, more, old)

  -- all classes weigh what the list weighs
  pub sum_by-classes : (xs : List X) (n : ℕ) → ((x : X) → f x < n) → sum_by weight (classes xs 0 n) ≡ sum_by weight xs
  sum_by-classes [] n below = classes-none 0 n
  sum_by-classes (x ∷ xs) n below =
      let b = below x in let h = sum_by-classes xs n below in let k = classes-cons x xs 0 n (omega arith) (omega (arith, b)) in let m = sum_by-cons weight x xs in omega (arith, h, k, m)

module _ {X : Type 0} (P : X → Type 0) where
  -- what holds of all holds of the last that passes
  All-last_passing : (test : X → Bool) (d : X) (xs : List X) → P d → All P xs → P (last_passing test d xs)
  All-last_passing test d [] h a = h
  All-last_passing test d (x ∷ xs) h a =
      All-last_passing test (cond (test x) x d) xs (cond_both (test x) x d P (λ _. All-head P x xs a) (λ _. h)) (All-tail P x xs a)

  -- what holds of all holds of all without the last that passes
  All-without_last : (test : X → Bool) (xs : List X) → All P xs → All P (without_last test xs)
  All-without_last test [] a = a
  All-without_last test (x ∷ xs) a =
      let t : All P xs = All-tail P x xs a in
      cond_both (list_any test xs) (x ∷ without_last test xs) (cond (test x) xs (x ∷ xs)) (All P)
      (λ _. All-cons P x (without_last test xs) (All-head P x xs a) (All-without_last test xs t))
      (λ _. cond_both (test x) xs (x ∷ xs) (All P) (λ _. t) (λ _. a))

  -- what holds of all holds after one is swapped out
  pub All-swap_out : (is_it in_class : X → Bool) (xs : List X) → All P xs → All P (swap_out is_it in_class xs)
  All-swap_out is_it in_class [] a = a
  All-swap_out is_it in_class (x ∷ xs) a =
      let t : All P xs = All-tail P x xs a in
      let h : P x = All-head P x xs a in
      cond_both (is_it x) (cond (list_any in_class xs) (last_passing in_class x xs ∷ without_last in_class xs) xs) (x ∷ swap_out is_it in_class xs) (All P)
      (λ _. cond_both (list_any in_class xs) (last_passing in_class x xs ∷ without_last in_class xs) xs (All P)
      (λ _. All-cons P (last_passing in_class x xs) (without_last in_class xs) (All-last_passing in_class x xs h t) (All-without_last in_class xs t))
      (λ _. t))
      (λ _. All-cons P x (swap_out is_it in_class xs) h (All-swap_out is_it in_class xs t))

  -- what holds of each part holds of the parts joined
  All-flat_map : (g : ℕ → List X) (ns : List ℕ) → ((n : ℕ) → All P (g n)) → All P (flat_map g ns)
  All-flat_map g [] h = All-nil P
  All-flat_map g (n ∷ ns) h = All-append P (g n) (flat_map g ns) (h n) (All-flat_map g ns h)

module _ {K V : Type 0} (number : K → ℕ) where
  -- the walk has as many pairs
  pub length-walk_of : (L : List (K × V)) (C : ℕ) → ((k : K) → slot_number number k C < C) → length (walk_of number L C) ≡ length L
  length-walk_of L C below =
      length-sum_by (walk_of number L C) ∙ sum_by-classes (λ _. 1) (λ p. slot_number number p.0 C) L C (λ p. below p.0) ∙ sym (length-sum_by L)

  -- no key is twice in an empty list
  pub HasDistinctKeys-nil : (L : List (K × V)) → L ≡ [] → HasDistinctKeys number L
  HasDistinctKeys-nil L e = subst (HasDistinctKeys number) (sym e) (λ k. omega arith)

  -- if no key is twice in the list, none is twice in the walk
  pub HasDistinctKeys-walk_of : (L : List (K × V)) (C : ℕ) → ((k : K) → slot_number number k C < C) → HasDistinctKeys number L → HasDistinctKeys number (walk_of number L C)
  HasDistinctKeys-walk_of L C below h k =
      let s = sum_by-classes (λ p. cond (same_key number k p.0) 1 0) (λ p. slot_number number p.0 C) L C (λ p. below p.0) in let d = h k in omega (arith, s, d)

  -- and after a removal
  pub HasDistinctKeys-take_key : (L : List (K × V)) (C : ℕ) (k : K) → HasDistinctKeys number L → HasDistinctKeys number (take_key number L C k)
  HasDistinctKeys-take_key L C k h j =
      let s = sum_by-swap_out (λ p. cond (same_key number j p.0) 1 0) (λ p. same_key number k p.0) (λ p. agrees number C k p.0) L in let d = h j in omega (arith, s, d)

  -- and after an insertion
  pub HasDistinctKeys-put_pair : (L : List (K × V)) (C : ℕ) (k : K) (v : V) → HasDistinctKeys number L → HasDistinctKeys number (put_pair number L C k v)
  HasDistinctKeys-put_pair L C k v h j =
      let T : List (K × V) = take_key number L C k in
      let d = HasDistinctKeys-take_key L C k h j in
      let s = sum_by-append (λ p. cond (same_key number j p.0) 1 0) T ((k, v) ∷ []) in
      let gone = λ (e : number k ≡ number j). subst (λ n. count_by (λ p. number p.0 == n) T ≡ 0) e
      (count_by-swap_out (λ p. same_key number k p.0) (λ p. agrees number C k p.0) L (h k)) in
      grind (arith, nat_tests, d, s, gone)

  -- a present key weighs one
  taken-value_of : (L : List (K × V)) (C : ℕ) (k : K) → taken (λ _. 1) (λ p. same_key number k p.0) (λ p. agrees number C k p.0) L ≡ cond (is_some (value_of number L k)) 1 0
  taken-value_of [] C k = refl
  taken-value_of (p ∷ L) C k = let rest = taken-value_of L C k in grind (arith, rest)

  -- a removal leaves one pair less if the key was present
  pub length-take_key : (L : List (K × V)) (C : ℕ) (k : K) → length (take_key number L C k) + cond (is_some (value_of number L k)) 1 0 ≡ length L
  length-take_key L C k =
      let s = sum_by-swap_out (λ _. 1) (λ p. same_key number k p.0) (λ p. agrees number C k p.0) L in let t = taken-value_of L C k in
      let l = length-sum_by L in let m = length-sum_by (take_key number L C k) in omega (arith, s, t, l, m)

  -- an insertion leaves one pair more if the key was absent
  pub length-put_pair : (L : List (K × V)) (C : ℕ) (k : K) (v : V) → length (put_pair number L C k v) ≡ length L + cond (is_some (value_of number L k)) 0 1
  length-put_pair L C k v = let taken = length-take_key L C k in let more = length_push (take_key number L C k) (k, v) in grind (arith, taken, more)

  module _ (P : K × V → Type 0) where
    -- what holds of all pairs holds of all after a removal
    pub All-take_key : (L : List (K × V)) (C : ℕ) (k : K) → All P L → All P (take_key number L C k)
    All-take_key L C k h = All-swap_out P (λ p. same_key number k p.0) (λ p. agrees number C k p.0) L h

    -- and after an insertion, if it holds of the new pair
    pub All-put_pair : (L : List (K × V)) (C : ℕ) (k : K) (v : V) → All P L → P (k, v) → All P (put_pair number L C k v)
    All-put_pair L C k v h p = All-push P (take_key number L C k) (k, v) (All-take_key L C k h) p

    -- and in the walk
    pub All-walk_of : (L : List (K × V)) (C : ℕ) → All P L → All P (walk_of number L C)
    All-walk_of L C h = All-flat_map P (slot_of number L C) (range_with_len 0 C) (λ i. All-filter (λ p. slot_number number p.0 C == i) P L h)
