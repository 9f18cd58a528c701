-- How few keys a look-up compares, and how many slots hold a pair, if no keys share one.
use Rattle.std.proofs.Common.{◌≡◌, inl, inr, length, ℕ, ◌%◌, ◌+◌, ◌*◌, ◌/◌, ◌<◌, ◌≤◌, Bool, true, List, [], ◌∷◌, Option, Some, None, refl, sym, ap, ◌∙◌, arith}
use Rattle.std.specs.Prelude.{◌==◌, count_by, MatchOption, All, map, filter, not}
use Rattle.std.proofs.Math.Nat.{div-add-mod, mod-eq_of_lt, mul-le-mul_left}
use Rattle.std.proofs.lemmas.Bool.{cases_Bool, cases_order, eqb-true, eq-eqb}
use Rattle.std.proofs.lemmas.List.{length-map}
use Rattle.std.proofs.lemmas.List.Elements.{All-nil, All-cons, All-head, All-tail}
use Rattle.std.proofs.lemmas.Bool.Decides.{nat_tests}
use Rattle.intmap.proofs.CountLemmas.{count_by-cons}
use Rattle.intmap_table.specs.Classes.{same_key, agrees, residue}
use Rattle.intmap_table.specs.Bindings.{HasDistinctKeys, value_of}
use Rattle.intmap_table.specs.Figures.{each_once, load_of}
use Rattle.intmap.specs.Growth.{IsNext, is_due}
use Rattle.intmap_table.specs.Reach.{through_first, class_size, reach}
use Rattle.intmap.proofs.LoadFactorLemmas.{IsWanted-more}
use Rattle.intmap_table.proofs.MappedLemmas.{count_by-map}

-- up to the first that stops, no more pass than of all
count_by-through_first : {X : Type 0} (test stop : X → Bool) (xs : List X) → count_by test (through_first stop xs) ≤ count_by test xs
count_by-through_first test stop [] = omega arith
count_by-through_first test stop (x ∷ xs) =
    let rest = count_by-through_first test stop xs in
    let all = count_by-cons test x xs in let some = count_by-cons test x (through_first stop xs) in let one = count_by-cons test x [] in
    grind (arith, rest, all, some, one)

-- if each that passes one test passes another, no more pass the one
count_by-within : {X : Type 0} (P : X → Type 0) (one other : X → Bool) → ((x : X) → P x → one x ≡ true → other x ≡ true) → (xs : List X) → All P xs → count_by one xs ≤ count_by other xs
count_by-within P one other within [] all = omega arith
count_by-within P one other within (x ∷ xs) all =
    let rest = count_by-within P one other within xs (All-tail P x xs all) in
    let here = within x (All-head P x xs all) in
    let few = count_by-cons one x xs in let more = count_by-cons other x xs in
    grind (arith, rest, here, few, more)

-- a number that isn't there is filtered out for nothing
filter-missing : (n : ℕ) (ns : List ℕ) → count_by (λ m. m == n) ns ≡ 0 → filter (λ m. not (m == n)) ns ≡ ns
filter-missing n [] none = refl
filter-missing n (m ∷ ns) none = let rest = filter-missing n ns in let more = count_by-cons (λ i. i == n) m ns in grind (arith, rest, more, none)

-- numbers of which none is there twice all stay
each_once-distinct : (ns : List ℕ) → ((n : ℕ) → count_by (λ m. m == n) ns ≤ 1) → each_once ns ≡ ns
each_once-distinct [] once = refl
each_once-distinct (m ∷ ns) once =
    let more = λ (n : ℕ). count_by-cons (λ i. i == n) m ns in
    let rest : each_once ns ≡ ns = each_once-distinct ns (λ n. let d = more n in let o = once n in omega (arith, d, o)) in
    let own : (m == m) ≡ true = eq-eqb m m refl in
    let none : count_by (λ i. i == m) ns ≡ 0 = (let d = more m in let o = once m in grind (arith, d, o, own)) in
    ap (λ ms. m ∷ filter (λ i. not (i == m)) ms) rest ∙ ap (λ ms. m ∷ ms) (filter-missing m ns none)

-- numbers of C in a row that agree modulo C are the same
same-in_row : (a C x y : ℕ) → (a ≤ x) × (x < a + C) → (a ≤ y) × (y < a + C) → x % C ≡ y % C → x ≡ y
same-in_row a C x y first second agree =
    let one : C * (x / C) + x % C ≡ x = div-add-mod x C in
    let other : C * (y / C) + y % C ≡ y = div-add-mod y C in
    let low = first.0 in
    let high = first.1 in
    let least = second.0 in
    let most = second.1 in
    elim (cases_order (x / C) (y / C)) [
      | inl same ↦ sym one ∙ ap (λ q. C * q + x % C) same ∙ ap (λ r. C * (y / C) + r) agree ∙ other
      | inr (inl less) ↦
          (let m : C * (x / C + 1) ≤ C * (y / C) = mul-le-mul_left C (let z : x / C + 1 ≤ y / C = omega (arith, less) in z) in
          absurd (omega (arith, m, one, other, agree, low, most)))
      | inr (inr less) ↦
          (let m : C * (y / C + 1) ≤ C * (x / C) = mul-le-mul_left C (let z : y / C + 1 ≤ x / C = omega (arith, less) in z) in
          absurd (omega (arith, m, one, other, agree, least, high)))
    ]

module _ {K V : Type 0} (number : K → ℕ) where
  -- a look-up compares no more keys than share the slot
  pub reach-within_class : (L : List (K × V)) (C : ℕ) (k : K) → reach number L C k ≤ class_size number L C k
  reach-within_class L C k = count_by-through_first (λ p. agrees number C k p.0) (λ p. same_key number k p.0) L

  -- of distinct keys the rest is distinct
  pub HasDistinctKeys-tail : (p : K × V) (L : List (K × V)) → HasDistinctKeys number (p ∷ L) → HasDistinctKeys number L
  HasDistinctKeys-tail p L once k = let all = once k in let more = count_by-cons (λ q. same_key number k q.0) p L in omega (arith, all, more)

  -- keys below the capacity have numbers of a row that begins with 0
  pub in_row-below : (L : List (K × V)) (C : ℕ) → All (λ p. number p.0 < C) L → All (λ p. (0 ≤ number p.0) × (number p.0 < 0 + C)) L
  in_row-below [] C below = All-nil (λ p. (0 ≤ number p.0) × (number p.0 < 0 + C))
  in_row-below (p ∷ L) C below =
      let small = All-head (λ q. number q.0 < C) p L below in
      All-cons (λ q. (0 ≤ number q.0) × (number q.0 < 0 + C)) p L (omega arith, omega (arith, small)) (in_row-below L C (All-tail (λ q. number q.0 < C) p L below))

  -- distinct keys whose numbers stand in a row as long as the capacity leave each residue once at most
  residues-distinct : (L : List (K × V)) (C a n : ℕ) → HasDistinctKeys number L → All (λ p. (a ≤ number p.0) × (number p.0 < a + C)) L → count_by (λ p. residue number p.0 C == n) L ≤ 1
  residues-distinct [] C a n once near = omega arith
  residues-distinct (p ∷ L) C a n once near =
      let all = count_by-cons (λ q. residue number q.0 C == n) p L in
      let more = count_by-cons (λ q. same_key number p.0 q.0) p L in
      let rest = All-tail (λ q. (a ≤ number q.0) × (number q.0 < a + C)) p L near in
      let fewer = residues-distinct L C a n (HasDistinctKeys-tail p L once) rest in
      let one = once p.0 in
      let own = All-head (λ q. (a ≤ number q.0) × (number q.0 < a + C)) p L near in
      let within = λ (here : number p.0 % C ≡ n). count_by-within (λ q. (a ≤ number q.0) × (number q.0 < a + C)) (λ q. residue number q.0 C == n) (λ q. same_key number p.0 q.0)
      (λ q there same. eq-eqb (number q.0) (number p.0) (same-in_row a C (number q.0) (number p.0) there own (eqb-true (number q.0 % C) n same ∙ sym here))) L rest in
      grind (arith, nat_tests, all, more, fewer, one, within)

  -- so at most one of them shares a slot with any key
  pub class_size-in_row : (L : List (K × V)) (C a : ℕ) (k : K) → HasDistinctKeys number L → All (λ p. (a ≤ number p.0) × (number p.0 < a + C)) L → class_size number L C k ≤ 1
  class_size-in_row L C a k once near = residues-distinct L C a (residue number k C) once near

  -- as of distinct keys below the capacity
  pub class_size-below : (L : List (K × V)) (C : ℕ) (k : K) → HasDistinctKeys number L → All (λ p. number p.0 < C) L → class_size number L C k ≤ 1
  class_size-below L C k once below = class_size-in_row L C 0 k once (in_row-below L C below)

  -- no key is the same as an absent one
  pub same-absent : (L : List (K × V)) (k : K) → value_of number L k ≡ None → count_by (λ p. same_key number k p.0) L ≡ 0
  same-absent [] k missing = refl
  same-absent (p ∷ L) k missing = let rest = same-absent L k in let more = count_by-cons (λ q. same_key number k q.0) p L in grind (arith, missing, rest, more)

  -- an absent one below the capacity shares its slot with none of them
  pub class_size-absent : (L : List (K × V)) (C : ℕ) (k : K) → All (λ p. number p.0 < C) L → number k < C → value_of number L k ≡ None → class_size number L C k ≡ 0
  class_size-absent L C k below small missing =
      let within : class_size number L C k ≤ count_by (λ q. same_key number k q.0) L =
      count_by-within (λ q. number q.0 < C) (λ q. agrees number C k q.0) (λ q. same_key number k q.0)
      (λ q few same. eq-eqb (number q.0) (number k) (sym (mod-eq_of_lt few) ∙ eqb-true (number q.0 % C) (number k % C) same ∙ mod-eq_of_lt small)) L below in
      let none = same-absent L k missing in omega (arith, within, none)

  -- and they fill as many slots as there are keys
  pub load_of-below : (L : List (K × V)) (C : ℕ) → HasDistinctKeys number L → All (λ p. number p.0 < C) L → load_of number L C ≡ length L
  load_of-below L C once below =
      ap length (each_once-distinct (map (λ p. residue number p.0 C) L)
      (λ n. let c = count_by-map (λ (p : K × V). residue number p.0 C) (λ m. m == n) L in let h = residues-distinct L C 0 n once (in_row-below L C below) in omega (arith, c, h)))
      ∙ length-map L (λ p. residue number p.0 C)

-- no key leaves fewer slots
pub capacity-not_less : {V : Type 0} (o : Option V) (C n F D : ℕ) → MatchOption o (IsNext C n F D) (λ _. D ≡ C) → C ≤ D
capacity-not_less (Some v) C n F D same = omega (arith, same)
capacity-not_less None C n F D next = elim (cases_Bool (is_due n)) [
  | inl due ↦ IsWanted-more C n F D (rw due at next)
  | inr not ↦ (let same : D ≡ C = rw not at next in omega arith)
]
