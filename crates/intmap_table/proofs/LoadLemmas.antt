-- How many residues the keys leave is how many slots hold a pair.
use Rattle.std.proofs.Common.{◌≡◌, ◌≢◌, ℕ, zero, suc, ◌+◌, ◌-◌, ◌<◌, ◌≤◌, Bool, true, false, not, inl, inr, cond, List, [], ◌∷◌, length, get_or, map, refl, sym, ap, ◌∙◌, subst, arith, zero-add}
use Rattle.std.specs.Prelude.{◌==◌, filter, count_by, nat_lt}
use Rattle.std.specs.List.{list_any, range_with_len}
use Rattle.std.proofs.lemmas.List.{length-append}
use Rattle.std.proofs.lemmas.List.Sums.{sum_by-cons, length-filter}
use Rattle.std.proofs.lemmas.List.Filters.{length-filter_both}
use Rattle.std.proofs.lemmas.Bool.{ne_eqb, cases_Bool, cases_eq}
use Rattle.std.proofs.lemmas.Bool.Decides.{nat_tests}
use Rattle.intmap_table.proofs.ClassLemmas.{range-next}
use Rattle.intmap_table.specs.Classes.{residue, slot_number, agrees}
use Rattle.intmap_table.specs.Walk.{slot_of}
use Rattle.intmap_table.specs.Figures.{each_once, load_of}
use Rattle.intmap_table.specs.Tables.Nodes.{further}
use Rattle.intmap_table.specs.Tables.Slots.{joined}

-- whether a list has an element
abbrev pub is_filled : {X : Type 0} → List X → Bool
is_filled xs = nat_lt 0 (length xs)

-- how often n occurs in a list
abbrev pub times : ℕ → List ℕ → ℕ
times n ns = count_by (λ m. m == n) ns

-- a number that is struck occurs nowhere
times-struck : (n : ℕ) (ns : List ℕ) → times n (filter (λ m. not (m == n)) ns) ≡ 0
times-struck n [] = refl
times-struck n (m ∷ ns) = let rest = times-struck n ns in grind (arith, nat_tests, rest)

-- to strike another number changes nothing
times-struck_other : (n a : ℕ) (ns : List ℕ) → a ≢ n → times n (filter (λ m. not (m == a)) ns) ≡ times n ns
times-struck_other n a [] ne = refl
times-struck_other n a (m ∷ ns) ne =
    let rest = times-struck_other n a ns ne in
    let left = sum_by-cons (λ m. cond (m == n) 1 0) m (filter (λ m. not (m == a)) ns) in let all = sum_by-cons (λ m. cond (m == n) 1 0) m ns in
    grind (arith, nat_tests, ne, rest, left, all)

-- a number of the list occurs once
times-each_once : (n : ℕ) (ns : List ℕ) → times n (each_once ns) ≡ cond (list_any (λ m. m == n) ns) 1 0
times-each_once n [] = refl
times-each_once n (a ∷ ns) =
    let struck = subst (λ b. times n (filter (λ m. not (m == b)) (each_once ns)) ≡ 0) {x = n} {y = a} in
    let none = λ (e : n ≡ a). struck e (times-struck n (each_once ns)) in let other = times-struck_other n a (each_once ns) in
    let first = sum_by-cons (λ m. cond (m == n) 1 0) a (filter (λ m. not (m == a)) (each_once ns)) in
    let rest = times-each_once n ns in grind (arith, nat_tests, none, other, first, rest)

-- a number in front is new, or not
pub length-each_once : (n : ℕ) (ns : List ℕ) → length (each_once (n ∷ ns)) + cond (list_any (λ m. m == n) ns) 1 0 ≡ suc (length (each_once ns))
length-each_once n ns =
    let t = times-each_once n ns in let l = length-filter (λ m. m == n) (each_once ns) in
    let b = length-filter_both (λ m. m == n) (λ m. not (m == n)) (λ _. refl) (each_once ns) in omega (arith, t, l, b)

-- tests that agree at each number count alike
count_by-range_same : (g h : ℕ → Bool) (a n : ℕ) → ((i : ℕ) → i < n → g (a + i) ≡ h (a + i)) → count_by g (range_with_len a n) ≡ count_by h (range_with_len a n)
count_by-range_same g h a zero e = refl
count_by-range_same g h a (suc n) e =
    let on = range-next (λ k _. g k ≡ h k) a n e in let first = on.0 in let rest = count_by-range_same g h (a + 1) n on.1 in
    let l = sum_by-cons (λ i. cond (g i) 1 0) a (range_with_len (a + 1) n) in let m = sum_by-cons (λ i. cond (h i) 1 0) a (range_with_len (a + 1) n) in
    grind (arith, first, rest, l, m)

-- a test that passes where another does counts no fewer
count_by-range_more : (g h : ℕ → Bool) (a n : ℕ) → ((i : ℕ) → i < n → g (a + i) ≡ true → h (a + i) ≡ true) → count_by g (range_with_len a n) ≤ count_by h (range_with_len a n)
count_by-range_more g h a zero more = omega arith
count_by-range_more g h a (suc n) more =
    let on = range-next (λ k _. g k ≡ true → h k ≡ true) a n more in let first = on.0 in let rest = count_by-range_more g h (a + 1) n on.1 in
    let l = sum_by-cons (λ i. cond (g i) 1 0) a (range_with_len (a + 1) n) in let m = sum_by-cons (λ i. cond (h i) 1 0) a (range_with_len (a + 1) n) in
    elim (cases_Bool (g a)) as (λ _. count_by g (range_with_len a (suc n)) ≤ count_by h (range_with_len a (suc n))) [
      | inl met ↦ (let here = first met in grind (arith, met, here, rest, l, m))
      | inr not_met ↦ grind (arith, not_met, rest, l, m)
    ]

-- and one fewer at most, if it passes where the other does but for one number
count_by-range_but : (g h : ℕ → Bool) (j a n : ℕ) → ((i : ℕ) → i < n → a + i ≢ j → g (a + i) ≡ true → h (a + i) ≡ true) → count_by g (range_with_len a n) ≤ count_by h (range_with_len a n) + 1
count_by-range_but g h j a zero more = omega arith
count_by-range_but g h j a (suc n) more =
    let on = range-next (λ k _. k ≢ j → g k ≡ true → h k ≡ true) a n more in
    let l = sum_by-cons (λ i. cond (g i) 1 0) a (range_with_len (a + 1) n) in let m = sum_by-cons (λ i. cond (h i) 1 0) a (range_with_len (a + 1) n) in
    elim (cases_eq a j) as (λ _. count_by g (range_with_len a (suc n)) ≤ count_by h (range_with_len a (suc n)) + 1) [
      | inl here ↦ (let rest = count_by-range_more g h (a + 1) n (λ i lt. on.1 i lt (λ q. omega (arith, here, q))) in grind (arith, rest, l, m))
      | inr apart ↦
          (let first = on.0 apart in let rest = count_by-range_but g h j (a + 1) n on.1 in
          elim (cases_Bool (g a)) as (λ _. count_by g (range_with_len a (suc n)) ≤ count_by h (range_with_len a (suc n)) + 1) [
            | inl met ↦ (let there = first met in grind (arith, met, there, rest, l, m))
            | inr not_met ↦ grind (arith, not_met, rest, l, m)
          ])
    ]

-- a test that no number passes counts none
count_by-range_none : (a n : ℕ) → count_by (λ (i : ℕ). false) (range_with_len a n) ≡ 0
count_by-range_none a zero = refl
count_by-range_none a (suc n) = let h = count_by-range_none (a + 1) n in let m = sum_by-cons (λ (i : ℕ). 0) a (range_with_len (a + 1) n) in omega (arith, h, m)

module _ {X : Type 0} where
  -- numbers that stand for the elements of a list count as these
  pub count_by-range_list : (test : X → Bool) (g : ℕ → Bool) (d : X) (a : ℕ) (xs : List X) → ((i : ℕ) → i < length xs → g (a + i) ≡ test (get_or xs i d)) → count_by g (range_with_len a (length xs)) ≡ count_by test xs
  count_by-range_list test g d a [] e = refl
  count_by-range_list test g d a (x ∷ xs) e =
      let on = range-next (λ k i. g k ≡ test (get_or (x ∷ xs) i d)) a (length xs) e in let first : g a ≡ test x = on.0 in
      let rest = count_by-range_list test g d (a + 1) xs on.1 in
      let l = sum_by-cons (λ i. cond (g i) 1 0) a (range_with_len (a + 1) (length xs)) in let m = sum_by-cons (λ x. cond (test x) 1 0) x xs in
      grind (arith, first, rest, l, m)

-- the pairs behind the first ones of their rows, and the rows that hold some, are all pairs
pub further-filled : {P : Type 0} (R : List (List P)) → further R + count_by is_filled R ≡ length (joined R)
further-filled [] = refl
further-filled (row ∷ R) =
    let rest = further-filled R in let l = sum_by-cons (λ ps. length ps - 1) row R in let m = sum_by-cons (λ ps. cond (is_filled ps) 1 0) row R in
    let n = length-append row (joined R) in grind (arith, nat_tests, rest, l, m, n)

module _ {X : Type 0} (f : X → ℕ) (x : X) (xs : List X) where
  -- whether class i has an element
  abbrev has : List X → ℕ → Bool
  has ys i = is_filled (filter (λ y. f y == i) ys)

  -- an element of a class below these fills none of them
  has-above : (a n : ℕ) → f x < a → count_by (has (x ∷ xs)) (range_with_len a n) ≡ count_by (has xs) (range_with_len a n)
  has-above a n lt = count_by-range_same (has (x ∷ xs)) (has xs) a n (λ i _. let t = ne_eqb (f x) (a + i) (λ e. omega arith) in simp t)

  -- the class of an element in front is new, or not
  has-cons : (a n : ℕ) → a ≤ f x → f x < a + n → count_by (has (x ∷ xs)) (range_with_len a n) + cond (has xs (f x)) 1 0 ≡ suc (count_by (has xs) (range_with_len a n))
  has-cons a zero le lt = absurd (omega arith)
  has-cons a (suc n) le lt =
      let more = sum_by-cons (λ i. cond (has (x ∷ xs) i) 1 0) a (range_with_len (a + 1) n) in
      let old = sum_by-cons (λ i. cond (has xs i) 1 0) a (range_with_len (a + 1) n) in
      let above = has-above (a + 1) n in let rest = has-cons (a + 1) n in grind (arith, nat_tests, le, lt, more, old, above, rest)

module _ {K V : Type 0} (number : K → ℕ) (C : ℕ) (spread : (a k : K) → agrees number C k a ≡ (slot_number number a C == slot_number number k C)) where
  -- a residue is among those left if its slot has a pair
  among : (k : K) (L : List (K × V)) → list_any (λ m. m == residue number k C) (map (λ p. residue number p.0 C) L) ≡ is_filled (slot_of number L C (slot_number number k C))
  among k [] = refl
  among k (p ∷ L) = let rest = among k L in let same = spread p.0 k in grind (arith, nat_tests, rest, same)

  module _ (below : (k : K) → slot_number number k C < C) where
    -- the load is the number of slots that have a pair
    pub load_of-slots : (L : List (K × V)) → load_of number L C ≡ count_by (λ i. is_filled (slot_of number L C i)) (range_with_len 0 C)
    load_of-slots [] = sym (count_by-range_none 0 C)
    load_of-slots (p ∷ L) =
        let h = load_of-slots L in let b = below p.0 in let found = among p.0 L in
        let once = length-each_once (residue number p.0 C) (map (λ q. residue number q.0 C) L) in
        let slots = has-cons (λ q. slot_number number q.0 C) p L 0 C (omega arith) (omega (arith, b)) in grind (arith, h, once, slots, found)

    -- a list whose slots hold a pair where those of another do has no smaller load
    pub load_of-more : (L M : List (K × V)) → ((i : ℕ) → i < C → is_filled (slot_of number L C i) ≡ true → is_filled (slot_of number M C i) ≡ true) → load_of number L C ≤ load_of number M C
    load_of-more L M more =
        let l = load_of-slots L in let m = load_of-slots M in
        let less = count_by-range_more (λ i. is_filled (slot_of number L C i)) (λ i. is_filled (slot_of number M C i)) 0 C (λ i lt. rw zero-add (more i lt)) in
        omega (arith, l, m, less)

    -- and one that is smaller by one at most, if this is so but for slot j
    pub load_of-but : (L M : List (K × V)) (j : ℕ) → ((i : ℕ) → i < C → i ≢ j → is_filled (slot_of number L C i) ≡ true → is_filled (slot_of number M C i) ≡ true) → load_of number L C ≤ load_of number M C + 1
    load_of-but L M j more =
        let l = load_of-slots L in let m = load_of-slots M in
        let less = count_by-range_but (λ i. is_filled (slot_of number L C i)) (λ i. is_filled (slot_of number M C i)) j 0 C (λ i lt. rw zero-add (more i lt)) in
        omega (arith, l, m, less)

    -- lists with the same slots have the same load
    pub load_of-same : (L M : List (K × V)) → ((i : ℕ) → i < C → slot_of number L C i ≡ slot_of number M C i) → load_of number L C ≡ load_of number M C
    load_of-same L M e =
        load_of-slots L
        ∙ count_by-range_same (λ i. is_filled (slot_of number L C i)) (λ i. is_filled (slot_of number M C i)) 0 C (λ i lt. rw zero-add (ap is_filled (e i lt)))
        ∙ sym (load_of-slots M)

    -- the load is the number of rows that have a pair
    pub load_of-rows : (S : List (List (K × V))) (L : List (K × V)) → C ≡ length S → ((i : ℕ) → i < C → slot_of number L C i ≡ get_or S i []) → load_of number L C ≡ count_by is_filled S
    load_of-rows S L e rows =
        load_of-slots L
        ∙ ap (λ n. count_by (λ i. is_filled (slot_of number L C i)) (range_with_len 0 n)) e
        ∙ count_by-range_list is_filled (λ i. is_filled (slot_of number L C i)) [] 0 S (λ i lt. rw zero-add (ap is_filled (rows i (let w : i < C = omega (arith, lt, e) in w))))
