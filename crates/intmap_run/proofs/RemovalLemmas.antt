-- The function that removes a key gives the list that the relation describes, and no other.
use Rattle.std.proofs.Common.{◌≡◌, ◌≢◌, inl, inr, ℕ, Bool, true, false, All, List, [], ◌∷◌, ◌++◌, refl, sym, ap, ◌∙◌, arith}
use Rattle.std.specs.Prelude.{cond, ◌↔◌, ◌==◌}
use Rattle.std.specs.List.{list_any}
use Rattle.std.proofs.lemmas.Bool.{cases_Bool, eqb-true, eq-eqb, ne_eqb}
use Rattle.std.proofs.lemmas.List.Elements.{All-nil, All-cons}
use Rattle.std.proofs.lemmas.List.Folds.{list_any_none}
use Rattle.intmap.specs.Bindings.{last_passing, without_last, swap_out, take_key}
use Rattle.intmap.specs.Classes.{residue, same_key, agrees}
use Rattle.intmap_run.specs.Removals.{FillsHole, Takes}

module _ {X : Type 0} (f : X → ℕ) (a : ℕ) where
  -- the numbers of elements are all others if and only if none passes the test
  All-others : (xs : List X) → list_any (λ x. f x == a) xs ≡ false → All (λ x. f x ≢ a) xs
  All-others [] none = All-nil (λ x. f x ≢ a)
  All-others (x ∷ xs) none =
      let other : (f x == a) ≡ false = grind (arith, none) in
      let rest : list_any (λ x. f x == a) xs ≡ false = grind (arith, none) in
      All-cons (λ x. f x ≢ a) x xs (λ same. let yes : (f x == a) ≡ true = eq-eqb (f x) a same in cc) (All-others xs rest)

  list_any-others : (xs : List X) → All (λ x. f x ≢ a) xs → list_any (λ x. f x == a) xs ≡ false
  list_any-others xs others = list_any_none (λ x. f x == a) xs (λ i d in_range. ne_eqb (f _) a (others i d in_range))

module _ {X : Type 0} (test : X → Bool) where
  -- a list, cut at its first element that passes
  record FirstCut (xs : List X) : Type 0 where
    before : List X
    first : X
    behind : List X
    are : xs ≡ before ++ first ∷ behind
    none : list_any test before ≡ false
    passes : test first ≡ true

  first_cut-step : (x : X) (xs : List X) (b : Bool) → test x ≡ b → list_any test (x ∷ xs) ≡ true → (list_any test xs ≡ true → FirstCut xs) → FirstCut (x ∷ xs)
  first_cut-step x xs true e some rec = record { before = []; first = x; behind = xs; are = refl; none = refl; passes = e }
  first_cut-step x xs false e some rec =
      let r = rec (grind (arith, e, some)) in
      let none = r.none in
      record { before = x ∷ r.before; first = r.first; behind = r.behind; are = ap (λ l. x ∷ l) r.are; none = grind (arith, e, none); passes = r.passes }

  first_cut : (xs : List X) → list_any test xs ≡ true → FirstCut xs
  first_cut [] some = let no : false ≡ true = some in cc
  first_cut (x ∷ xs) some = first_cut-step x xs (test x) refl some (first_cut xs)

  -- a list, cut at its last element that passes
  record LastCut (xs : List X) : Type 0 where
    front : List X
    last : X
    rest : List X
    are : xs ≡ front ++ last ∷ rest
    passes : test last ≡ true
    none : list_any test rest ≡ false

  last_cut-step : (x : X) (xs : List X) (b : Bool) → list_any test xs ≡ b → list_any test (x ∷ xs) ≡ true → (list_any test xs ≡ true → LastCut xs) → LastCut (x ∷ xs)
  last_cut-step x xs true e some rec =
      let r = rec e in
      record { front = x ∷ r.front; last = r.last; rest = r.rest; are = ap (λ l. x ∷ l) r.are; passes = r.passes; none = r.none }
  last_cut-step x xs false e some rec = record { front = []; last = x; rest = xs; are = refl; passes = grind (arith, e, some); none = e }

  last_cut : (xs : List X) → list_any test xs ≡ true → LastCut xs
  last_cut [] some = let no : false ≡ true = some in cc
  last_cut (x ∷ xs) some = last_cut-step x xs (list_any test xs) refl some (last_cut xs)

  -- of a list that is cut at its last element that passes
  list_any-at : (front : List X) (last : X) (rest : List X) → test last ≡ true → list_any test (front ++ last ∷ rest) ≡ true
  list_any-at [] last rest passes = grind (arith, passes)
  list_any-at (x ∷ front) last rest passes = let h = list_any-at front last rest passes in grind (arith, h)

  last_passing-none : (d : X) (xs : List X) → list_any test xs ≡ false → last_passing test d xs ≡ d
  last_passing-none d [] none = refl
  last_passing-none d (x ∷ xs) none = let h = last_passing-none d xs in grind (arith, none, h)

  last_passing-at : (d : X) (front : List X) (last : X) (rest : List X) → test last ≡ true → list_any test rest ≡ false → last_passing test d (front ++ last ∷ rest) ≡ last
  last_passing-at d [] last rest passes none = last_passing-none (cond (test last) last d) rest none ∙ ap (λ b. cond b last d) passes
  last_passing-at d (x ∷ front) last rest passes none = last_passing-at (cond (test x) x d) front last rest passes none

  without_last-at : (front : List X) (last : X) (rest : List X) → test last ≡ true → list_any test rest ≡ false → without_last test (front ++ last ∷ rest) ≡ front ++ rest
  without_last-at [] last rest passes none = simp (none, passes)
  without_last-at (x ∷ front) last rest passes none = simp (list_any-at front last rest passes, without_last-at front last rest passes none)

module _ {X : Type 0} (is_it in_class : X → Bool) where
  -- what stands behind the hole afterwards
  abbrev filled : X → List X → List X
  filled x behind = cond (list_any in_class behind) (last_passing in_class x behind ∷ without_last in_class behind) behind

  filled-none : (x : X) (behind : List X) → list_any in_class behind ≡ false → filled x behind ≡ behind
  filled-none x behind none = ap (λ b. cond b (last_passing in_class x behind ∷ without_last in_class behind) behind) none

  filled-at : (x : X) (front : List X) (last : X) (rest : List X) → in_class last ≡ true → list_any in_class rest ≡ false → filled x (front ++ last ∷ rest) ≡ last ∷ (front ++ rest)
  filled-at x front last rest passes none =
      simp (list_any-at in_class front last rest passes, last_passing-at in_class x front last rest passes none, without_last-at in_class front last rest passes none)

  swap_out-none : (L : List X) → list_any is_it L ≡ false → swap_out is_it in_class L ≡ L
  swap_out-none [] none = refl
  swap_out-none (x ∷ xs) none = let h = swap_out-none xs in grind (arith, none, h)

  swap_out-at : (before : List X) (x : X) (behind : List X) → list_any is_it before ≡ false → is_it x ≡ true → swap_out is_it in_class (before ++ x ∷ behind) ≡ before ++ filled x behind
  swap_out-at [] x behind none is = simp is
  swap_out-at (y ∷ before) x behind none is =
      let a : is_it y ≡ false = grind (arith, none) in
      let b : list_any is_it before ≡ false = grind (arith, none) in
      simp (a, swap_out-at before x behind b is)

module _ {K V : Type 0} (number : K → ℕ) (C : ℕ) (k : K) where
  abbrev is_it : K × V → Bool
  is_it p = same_key number k p.0

  abbrev in_class : K × V → Bool
  in_class p = agrees number C k p.0

  FillsHole-filled : (before : List (K × V)) (x : K × V) (behind : List (K × V)) → FillsHole number before behind C k (before ++ filled is_it in_class x behind)
  FillsHole-filled before x behind = elim (cases_Bool (list_any in_class behind)) [
    | inl some ↦
        (let r = last_cut in_class behind some in
        inr (
          r.front,
          r.last,
          r.rest,
          r.are,
          eqb-true (residue number r.last.0 C) (residue number k C) r.passes,
          All-others (λ p. residue number p.0 C) (residue number k C) r.rest r.none,
          ap (λ l. before ++ filled is_it in_class x l) r.are ∙ ap (λ l. before ++ l) (filled-at is_it in_class x r.front r.last r.rest r.passes r.none),
        ))
    | inr none ↦ inl (All-others (λ p. residue number p.0 C) (residue number k C) behind none, ap (λ l. before ++ l) (filled-none is_it in_class x behind none))
  ]

  -- what the function gives is described
  Takes-take_key : (L : List (K × V)) → Takes number L C k (take_key number L C k)
  Takes-take_key L = elim (cases_Bool (list_any is_it L)) [
    | inl some ↦
        (let r = first_cut is_it L some in
        let left : take_key number L C k ≡ r.before ++ filled is_it in_class r.first r.behind =
        ap (swap_out is_it in_class) r.are ∙ swap_out-at is_it in_class r.before r.first r.behind r.none r.passes in
        inr (
          r.before,
          r.first,
          r.behind,
          r.are,
          All-others (λ p. number p.0) (number k) r.before r.none,
          eqb-true (number r.first.0) (number k) r.passes,
          rw left (FillsHole-filled r.before r.first r.behind),
        ))
    | inr none ↦ inl (All-others (λ p. number p.0) (number k) L none, swap_out-none is_it in_class L none)
  ]

  -- and nothing else is
  take_key-Takes : (L M : List (K × V)) → Takes number L C k M → M ≡ take_key number L C k
  take_key-Takes L M (inl h) = h.1 ∙ sym (swap_out-none is_it in_class L (list_any-others (λ p. number p.0) (number k) L h.0))
  take_key-Takes L M (inr h) =
      let whole : take_key number L C k ≡ h.0 ++ filled is_it in_class h.1 h.2 =
      ap (swap_out is_it in_class) h.3
      ∙ swap_out-at is_it in_class h.0 h.1 h.2 (list_any-others (λ p. number p.0) (number k) h.0 h.4) (eq-eqb (number h.1.0) (number k) h.5) in
      elim h.6 as (λ _. M ≡ take_key number L C k) [
        | inl alone ↦
            alone.1 ∙ ap (λ l. h.0 ++ l) (sym (filled-none is_it in_class h.1 h.2 (list_any-others (λ p. residue number p.0 C) (residue number k C) h.2 alone.0))) ∙ sym whole
        | inr fills ↦
            (let none = list_any-others (λ p. residue number p.0 C) (residue number k C) fills.2 fills.5 in
            let passes : in_class fills.1 ≡ true = eq-eqb (residue number fills.1.0 C) (residue number k C) fills.4 in
            let left : filled is_it in_class h.1 h.2 ≡ fills.1 ∷ (fills.0 ++ fills.2) =
            ap (filled is_it in_class h.1) fills.3 ∙ filled-at is_it in_class h.1 fills.0 fills.1 fills.2 passes none in
            fills.6 ∙ ap (λ l. h.0 ++ l) (sym left) ∙ sym whole)
      ]

  -- the relation and the function say the same
  pub Takes-is : (L M : List (K × V)) → Takes number L C k M ↔ (M ≡ take_key number L C k)
  Takes-is L M = (take_key-Takes L M, λ same. rw same (Takes-take_key L))
