-- The value of each key after a walk, a removal and an insertion.
use Rattle.std.proofs.Common.{◌≡◌, inl, inr, ℕ, ◌<◌, ◌≤◌, Bool, true, false, cond, List, [], ◌∷◌, ◌++◌, Option, Some, None, refl, sym, ap, ◌∙◌, arith}
use Rattle.std.specs.Prelude.{◌==◌, count_by, All}
use Rattle.std.specs.List.{list_any}
use Rattle.std.proofs.lemmas.Bool.{cases_Bool, eqb-true, eq-eqb, cond-true, cond-false}
use Rattle.std.proofs.lemmas.Bool.Decides.{nat_tests}
use Rattle.std.proofs.lemmas.Grind.{common_steps}
use Rattle.std.proofs.lemmas.List.Elements.{All-nil, All-cons}
use Rattle.std.proofs.lemmas.List.Sums.{sum_by-cons}
use Rattle.intmap_table.specs.Classes.{slot_number, same_key, agrees}
use Rattle.intmap_table.specs.Bindings.{first_value, last_passing, without_last, swap_out, value_of, HasDistinctKeys, take_key, put_pair, Updates}
use Rattle.intmap_table.specs.Walk.{walk_of}
use Rattle.intmap_table.proofs.DistinctLemmas.{last_passing-none}
use Rattle.intmap_table.proofs.WalkLemmas.{slot_of-walk_of, value_of-slot_of}

module _ {K V : Type 0} (test : K → Bool) where
  -- if no key passes, nothing is found
  pub first_value-unmatched : (L : List (K × V)) → count_by (λ p. test p.0) L ≡ 0 → first_value test L ≡ None
  first_value-unmatched [] none = refl
  first_value-unmatched (p ∷ L) none =
      let more = sum_by-cons (λ (q : K × V). cond (test q.0) 1 0) p L in let rest = first_value-unmatched L in grind (arith, more, rest, none)

  -- with the last of a class in front, the same is found
  first_value-last : (in_class : K × V → Bool) (d : K × V) (L : List (K × V)) → list_any in_class L ≡ true → count_by (λ p. test p.0) L ≤ 1
      → first_value test (last_passing in_class d L ∷ without_last in_class L) ≡ first_value test L
  first_value-last in_class d [] some once = let w : false ≡ true = some in cc
  first_value-last in_class d (p ∷ L) some once =
      let more = sum_by-cons (λ (q : K × V). cond (test q.0) 1 0) p L in
      let rest = first_value-last in_class (cond (in_class p) p d) L in
      let none = first_value-unmatched L in
      let last = last_passing-none (λ _. 1) in_class in_class p L in
      grind (arith, more, rest, none, last, some, once)

  -- with another key swapped out, the same is found
  first_value-other_out : (is_it in_class : K × V → Bool) → ((p : K × V) → is_it p ≡ true → test p.0 ≡ false) → (L : List (K × V)) → count_by (λ p. test p.0) L ≤ 1
      → first_value test (swap_out is_it in_class L) ≡ first_value test L
  first_value-other_out is_it in_class apart [] once = refl
  first_value-other_out is_it in_class apart (p ∷ L) once =
      let more = sum_by-cons (λ (q : K × V). cond (test q.0) 1 0) p L in
      let rest = first_value-other_out is_it in_class apart L in
      let last = first_value-last in_class p L in
      let other = apart p in
      grind (arith, more, rest, last, other, once)

  -- with the key itself swapped out, nothing is found
  first_value-itself_out : (in_class : K × V → Bool) (L : List (K × V)) → count_by (λ p. test p.0) L ≤ 1 → first_value test (swap_out (λ p. test p.0) in_class L) ≡ None
  first_value-itself_out in_class [] once = refl
  first_value-itself_out in_class (p ∷ L) once =
      let more = sum_by-cons (λ (q : K × V). cond (test q.0) 1 0) p L in
      let rest = first_value-itself_out in_class L in
      let last = first_value-last in_class p L in
      let none = first_value-unmatched L in
      grind (arith, more, rest, last, none, once)

  -- a pair behind pairs in which nothing is found is found if its key passes
  pub first_value-behind_none : (L : List (K × V)) (p : K × V) → first_value test L ≡ None → first_value test (L ++ p ∷ []) ≡ cond (test p.0) (Some p.1) None
  first_value-behind_none [] p none = refl
  first_value-behind_none (q ∷ L) p none = let rest = first_value-behind_none L p in grind (arith, rest, none)

  -- a pair at the end whose key doesn't pass changes nothing
  first_value-other_behind : (L : List (K × V)) (p : K × V) → test p.0 ≡ false → first_value test (L ++ p ∷ []) ≡ first_value test L
  first_value-other_behind [] p other = simp other
  first_value-other_behind (q ∷ L) p other = let rest = first_value-other_behind L p in grind (arith, rest, other)

module _ {K V : Type 0} (number : K → ℕ) where
  -- if no key from n on is present, the keys of all pairs are below n
  pub All-unbound : (L : List (K × V)) (n : ℕ) → ((q : K) → n ≤ number q → value_of number L q ≡ None) → All (λ p. number p.0 < n) L
  All-unbound [] n none = All-nil (λ p. number p.0 < n)
  All-unbound (p ∷ L) n none =
      let here = none p.0 in
      let below : number p.0 < n = grind (arith, common_steps, nat_tests, here) in
      All-cons (λ p. number p.0 < n) p L below (All-unbound L n (λ q above. let h = none q above in grind (arith, common_steps, nat_tests, h)))

  -- in a walk each key has the value that it has in the list
  pub value_of-walk_of : (L : List (K × V)) (C : ℕ) (q : K) → slot_number number q C < C → value_of number (walk_of number L C) q ≡ value_of number L q
  value_of-walk_of L C q below =
      sym (value_of-slot_of number C (walk_of number L C) q)
      ∙ ap (λ M. value_of number M q) (slot_of-walk_of number C L (slot_number number q C) below) ∙ value_of-slot_of number C L q

  -- a removal leaves its key without a value, and each other key with its own
  pub value_of-take_key : (L : List (K × V)) (C : ℕ) (k q : K) → HasDistinctKeys number L → value_of number (take_key number L C k) q ≡ cond (same_key number k q) None (value_of number L q)
  value_of-take_key L C k q once = elim (cases_Bool (same_key number k q)) [
    | inl same ↦
        (let e : number q ≡ number k = eqb-true (number q) (number k) same in
        let gone : value_of number (take_key number L C k) k ≡ None = first_value-itself_out (same_key number k) (λ p. agrees number C k p.0) L (once k) in
        rw same (ap (λ n. first_value (λ r. number r == n) (take_key number L C k)) e ∙ gone))
    | inr apart ↦
        rw apart (first_value-other_out (same_key number q) (λ p. same_key number k p.0) (λ p. agrees number C k p.0)
        (λ p is. grind (arith, nat_tests, apart, is)) L (once q))
  ]

  -- an insertion leaves its key with the value, and each other key with its own
  pub value_of-put_pair : (L : List (K × V)) (C : ℕ) (k q : K) (v : V) → HasDistinctKeys number L → value_of number (put_pair number L C k v) q ≡ cond (same_key number k q) (Some v) (value_of number L q)
  value_of-put_pair L C k q v once =
      let taken = value_of-take_key L C k q once in let T = take_key number L C k in
      let found = first_value-behind_none (same_key number q) T (k, v) in let kept = first_value-other_behind (same_key number q) T (k, v) in
      grind (arith, nat_tests, taken, found, kept)

  -- if each key has its value, so have the key itself and any other
  pub Updates-from : (L M : List (K × V)) (k : K) (w : Option V) → ((q : K) → value_of number M q ≡ cond (same_key number k q) w (value_of number L q)) → Updates number L M k w
  Updates-from L M k w each = (
    each,
    each k ∙ cond-true (same_key number k k) w (value_of number L k) (eq-eqb (number k) (number k) refl),
    (λ q apart. each q ∙ cond-false (same_key number k q) w (value_of number L q) apart),
  )

  -- if nothing changed, the key has the value that it had
  pub Updates-same : (L M : List (K × V)) (k : K) (w : Option V) → M ≡ L → w ≡ value_of number L k → Updates number L M k w
  Updates-same L M k w same had =
      Updates-from L M k w (λ q. ap (λ N. value_of number N q) same ∙ elim (cases_Bool (same_key number k q)) as (λ _. value_of number L q ≡ cond (same_key number k q) w (value_of number L q)) [
        | inl is ↦ rw is (ap (λ n. first_value (λ r. number r == n) L) (eqb-true (number q) (number k) is) ∙ sym had)
        | inr apart ↦ rw apart refl
      ])
