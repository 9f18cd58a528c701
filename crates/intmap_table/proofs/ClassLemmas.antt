-- Lists by class, where f gives the class of an element: one row for each class, joined in order.
use Rattle.std.proofs.Common.{◌≡◌, ◌≢◌, ℕ, zero, suc, ◌+◌, ◌<◌, true, List, [], ◌∷◌, ◌++◌, length, map, get_or, refl, ap, ◌∙◌, subst, arith, add-zero, zero-add, append-nil}
use Rattle.std.specs.Prelude.{filter, ◌==◌, All}
use Rattle.std.specs.List.{flat_map, range_with_len}
use Rattle.std.proofs.lemmas.List.Elements.{All-head, All-tail, All-weaker, filter-append, filter_passes}
use Rattle.std.proofs.lemmas.List.FromFn.{get_or-map-range_with_len, length-map-range_with_len}
use Rattle.std.proofs.lemmas.Bool.{eqb-true}
use Rattle.std.proofs.lemmas.Bool.Decides.{nat_tests}

-- what holds along a run of numbers holds of the first, and along the rest
pub range-next : (P : ℕ → ℕ → Type 0) (a n : ℕ) → ((i : ℕ) → i < suc n → P (a + i) i) → P a 0 × ((i : ℕ) → i < n → P (a + 1 + i) (suc i))
range-next P a n all =
    (subst (λ k. P k 0) (add-zero a) (all 0 (omega arith)), λ i lt. let q : a + suc i ≡ a + 1 + i = omega arith in subst (λ k. P k (suc i)) q (all (suc i) (omega arith)))

module _ {A : Type 0} where
  -- two functions that agree at each index give one list
  pub flat_map-same : (g h : ℕ → List A) (a n : ℕ) → ((i : ℕ) → i < n → g (a + i) ≡ h (a + i)) → flat_map g (range_with_len a n) ≡ flat_map h (range_with_len a n)
  flat_map-same g h a zero same = refl
  flat_map-same g h a (suc n) same = let on = range-next (λ k _. g k ≡ h k) a n same in simp (on.0, flat_map-same g h (a + 1) n on.1)

  -- rows joined in order are the lists at their indices joined in order
  pub flat_map-rows : (g : ℕ → List A) (a : ℕ) (S : List (List A)) → ((i : ℕ) → i < length S → g (a + i) ≡ get_or S i []) → flat_map g (range_with_len a (length S)) ≡ flat_map (λ s. s) S
  flat_map-rows g a [] same = refl
  flat_map-rows g a (s ∷ S) same =
      let on = range-next (λ k i. g k ≡ get_or (s ∷ S) i []) a (length S) same in let first : g a ≡ s = on.0 in simp (first, flat_map-rows g (a + 1) S on.1)

-- what is made of each element, joined, are rows joined
pub flat_map-joined : {X A : Type 0} (g : X → List A) (xs : List X) → flat_map g xs ≡ flat_map (λ s. s) (map g xs)
flat_map-joined g [] = refl
flat_map-joined g (x ∷ xs) = ap (λ rest. g x ++ rest) (flat_map-joined g xs)

module _ {X : Type 0} (f : X → ℕ) where
  -- the elements of class i
  abbrev pub class : ℕ → List X → List X
  class i xs = filter (λ x. f x == i) xs

  -- row i, counted from a on, has elements of class i alone
  abbrev pub AreClasses : ℕ → List (List X) → Type 0
  AreClasses a S = (i : ℕ) → i < length S → All (λ x. f x ≡ a + i) (get_or S i [])

  class-whole : (i : ℕ) (xs : List X) → All (λ x. f x ≡ i) xs → class i xs ≡ xs
  class-whole i [] all = refl
  class-whole i (x ∷ xs) all =
      let here = All-head (λ x. f x ≡ i) x xs all in let rest = class-whole i xs (All-tail (λ x. f x ≡ i) x xs all) in grind (arith, nat_tests, here, rest)

  class-none : (i j : ℕ) (xs : List X) → i ≢ j → All (λ x. f x ≡ j) xs → class i xs ≡ []
  class-none i j [] apart all = refl
  class-none i j (x ∷ xs) apart all =
      let here = All-head (λ x. f x ≡ j) x xs all in let rest = class-none i j xs apart (All-tail (λ x. f x ≡ j) x xs all) in grind (arith, nat_tests, apart, here, rest)

  AreClasses-parts : (a : ℕ) (s : List X) (S : List (List X)) → AreClasses a (s ∷ S) → All (λ x. f x ≡ a) s × AreClasses (a + 1) S
  AreClasses-parts a s S all = range-next (λ k i. All (λ x. f x ≡ k) (get_or (s ∷ S) i [])) a (length S) all

  class-joined-before : (a i : ℕ) (S : List (List X)) → AreClasses a S → i < a → class i (flat_map (λ s. s) S) ≡ []
  class-joined-before a i [] all before = refl
  class-joined-before a i (s ∷ S) all before =
      let apart : i ≢ a = omega arith in let up : i < a + 1 = omega arith in
      filter-append (λ x. f x == i) s (flat_map (λ s. s) S)
      ∙ simp (class-none i a s apart (AreClasses-parts a s S all).0, class-joined-before (a + 1) i S (AreClasses-parts a s S all).1 up)

  -- a class of joined rows is its row
  pub class-joined : (a i : ℕ) (S : List (List X)) → AreClasses a S → class (a + i) (flat_map (λ s. s) S) ≡ get_or S i []
  class-joined a i [] all = refl
  class-joined a zero (s ∷ S) all =
      let up : a < a + 1 = omega arith in
      rw add-zero (filter-append (λ x. f x == a) s (flat_map (λ s. s) S)
      ∙ simp (class-whole a s (AreClasses-parts a s S all).0, class-joined-before (a + 1) a S (AreClasses-parts a s S all).1 up, append-nil))
  class-joined a (suc i) (s ∷ S) all =
      let apart : a + suc i ≢ a = omega arith in let q : a + suc i ≡ a + 1 + i = omega arith in
      filter-append (λ x. f x == a + suc i) s (flat_map (λ s. s) S)
      ∙ (simp (class-none (a + suc i) a s apart (AreClasses-parts a s S all).0) (rw q (class-joined (a + 1) i S (AreClasses-parts a s S all).1)))

  -- the classes of a list are rows of one class each
  pub AreClasses-map : (xs : List X) (n : ℕ) → AreClasses 0 (map (λ i. class i xs) (range_with_len 0 n))
  AreClasses-map xs n i below =
      let below_n : i < n = omega (arith, below, length-map-range_with_len (λ i. class i xs) 0 n) in
      let row : get_or (map (λ i. class i xs) (range_with_len 0 n)) i [] ≡ class i xs = get_or-map-range_with_len (λ i. class i xs) 0 n i i [] below_n (zero-add i) in
      let all : All (λ x. f x ≡ i) (class i xs) =
      All-weaker (λ x. (f x == i) ≡ true) (λ x. f x ≡ i) (λ x h. eqb-true (f x) i h) (class i xs) (filter_passes (λ x. f x == i) xs) in
      rw (row, zero-add) all

  -- the classes of joined rows, joined, are the rows joined
  pub flat_map-classes : (S : List (List X)) → AreClasses 0 S → flat_map (λ i. class i (flat_map (λ s. s) S)) (range_with_len 0 (length S)) ≡ flat_map (λ s. s) S
  flat_map-classes S all = flat_map-rows (λ i. class i (flat_map (λ s. s) S)) 0 S (λ i below. class-joined 0 i S all)

  -- a class of all classes in order is that class of the list
  pub class-classes : (xs : List X) (n i : ℕ) → i < n → class i (flat_map (λ i. class i xs) (range_with_len 0 n)) ≡ class i xs
  class-classes xs n i below =
      let S : List (List X) = map (λ i. class i xs) (range_with_len 0 n) in
      let e : class i (flat_map (λ s. s) S) ≡ get_or S i [] = let k = class-joined 0 i S (AreClasses-map xs n) in rw zero-add at k in
      ap (class i) (flat_map-joined (λ i. class i xs) (range_with_len 0 n)) ∙ e ∙ get_or-map-range_with_len (λ i. class i xs) 0 n i i [] below (zero-add i)
