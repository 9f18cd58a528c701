-- What a map is once bits said which of some pairs stay.
use Rattle.std.proofs.Common.{◌≡◌, ℕ, ◌+◌, ◌/◌, ◌%◌, ◌≤◌, ◌==◌, Bool, true, false, cond, List, [], ◌∷◌, ◌++◌, None, length, take, drop, refl, sym, ap, ◌∙◌, subst, arith, length-append}
use Rattle.std.specs.Prelude.{count_by, not}
use Rattle.std.specs.List.{list_any}
use Rattle.std.proofs.lemmas.Bool.Decides.{nat_tests}
use Rattle.std.proofs.lemmas.List.{take-append-drop, drop-drop}
use Rattle.std.proofs.lemmas.List.Sums.{sum_by-append}
use Rattle.intmap_table.specs.Bindings.{value_of, HasDistinctKeys}
use Rattle.intmap_table.specs.Classes.{same_key}
use Rattle.intmap_table.specs.Keeping.{dropped_by, kept_by}
use Rattle.intmap_table.specs.Retaining.{Retains, kept_from}
use Rattle.intmap_table.specs.Walk.{walk_of}
use Rattle.intmap_table.proofs.BindingLemmas.{first_value-unmatched}
use Rattle.intmap_table.proofs.RetainLemmas.{Retains-append}
use Rattle.intmap.specs.Consistency.{IsConsistent}
use Rattle.intmap.proofs.CountLemmas.{count_by-cons}
use Rattle.intmap.proofs.ExtendLemmas.{value_of-append}
use Rattle.intmap.proofs.RetainLemmas.{IsConsistent-Retains}

-- if none passes a test, not any does
list_any-none : {X : Type 0} (test : X → Bool) (L : List X) → count_by test L ≡ 0 → list_any test L ≡ false
list_any-none test [] none = refl
list_any-none test (x ∷ L) none = let all = count_by-cons test x L in let rest = list_any-none test L in grind (arith, none, all, rest)

module _ {S X : Type 0} (says : S → X → Bool) (next : S → X → S) where
  abbrev kept : S → List X → List X
  kept s L = kept_from says next s L

  abbrev dropped : S → List X → List X
  dropped s L = kept_from (λ s x. not (says s x)) next s L

  -- each element stays or is dropped
  count_by-kept : (test : X → Bool) (s : S) (L : List X) → count_by test (kept s L) + count_by test (dropped s L) ≡ count_by test L
  count_by-kept test s [] = refl
  count_by-kept test s (x ∷ L) =
      let rest = count_by-kept test (next s x) L in let all = count_by-cons test x L in
      let stays = count_by-cons test x (kept (next s x) L) in let goes = count_by-cons test x (dropped (next s x) L) in
      grind (arith, rest, all, stays, goes)

  length-kept : (s : S) (L : List X) → length (kept_from says next s L) + length (kept_from (λ s x. not (says s x)) next s L) ≡ length L
  length-kept s [] = refl
  length-kept s (x ∷ L) = let rest = length-kept (next s x) L in grind (arith, rest)

  -- as a closure leaves some
  abbrev pub Any : Unit {0} → X → Bool → Unit {0} → Type 0
  Any f x b g = Unit {0}

  Retains-any : (s : S) (L : List X) → Retains Any tt L (kept s L) tt
  Retains-any s [] = (refl, refl)
  Retains-any s (x ∷ L) = (says s x, tt, kept (next s x) L, tt, Retains-any (next s x) L, refl)

  Retains-same : (L : List X) → Retains Any tt L L tt
  Retains-same [] = (refl, refl)
  Retains-same (x ∷ L) = (true, tt, L, tt, Retains-same L, refl)

  Retains-part : (s : S) (A L B : List X) → Retains Any (tt {0}) (A ++ (L ++ B)) (A ++ (kept s L ++ B)) (tt {0})
  Retains-part s A L B =
      Retains-append Any tt tt tt A (L ++ B) A (kept s L ++ B) (Retains-same A) (Retains-append Any tt tt tt L B (kept s L) B (Retains-any s L) (Retains-same B))

module _ {S K V : Type 0} (number : K → ℕ) (says : S → K × V → Bool) (next : S → K × V → S) (q : K) where
  abbrev of : K × V → Bool
  of p = same_key number q p.0

  -- the keys of dropped pairs are absent, and the others have their values
  value_of-kept : (s : S) (L : List (K × V)) → count_by (λ p. same_key number q p.0) L ≤ 1
      → value_of number (kept says next s L) q ≡ cond (list_any (λ p. same_key number q p.0) (dropped says next s L)) None (value_of number L q)
  value_of-kept s [] once = refl
  value_of-kept s (p ∷ L) once =
      let all = count_by-cons of p L in let rest = value_of-kept (next s p) L in let both = count_by-kept says next of (next s p) L in
      let gone = first_value-unmatched (same_key number q) (kept says next (next s p) L) in let none = list_any-none of (dropped says next (next s p) L) in
      grind (arith, once, all, rest, both, gone, none)

  value_of-part : (s : S) (A L B : List (K × V)) → count_by (λ p. same_key number q p.0) (A ++ (L ++ B)) ≤ 1
      → value_of number (A ++ (kept_from says next s L ++ B)) q ≡ cond (list_any (λ p. same_key number q p.0) (kept_from (λ s p. not (says s p)) next s L)) None (value_of number (A ++ (L ++ B)) q)
  value_of-part s A L B once =
      let counted = sum_by-append (λ (p : K × V). cond (of p) 1 0) A (L ++ B) in let counted_rest = sum_by-append (λ (p : K × V). cond (of p) 1 0) L B in
      let both = count_by-kept says next of s L in let none = list_any-none of (dropped says next s L) in
      let here = value_of-kept s L (omega (arith, once, counted, counted_rest)) in
      let front = first_value-unmatched (same_key number q) A in let behind = first_value-unmatched (same_key number q) B in
      let before = value_of-append number A (L ++ B) q in let before_rest = value_of-append number L B q in
      let after = value_of-append number A (kept says next s L ++ B) q in let after_rest = value_of-append number (kept says next s L) B q in
      grind (arith, nat_tests, once, counted, counted_rest, both, none, here, front, behind, before, before_rest, after, after_rest)

-- a list in three parts: those before place n, the next 64, and those behind
parts_64 : {X : Type 0} (n : ℕ) (L : List X) → L ≡ take n L ++ (take 64 (drop n L) ++ drop (n + 64) L)
parts_64 n L =
    sym (take-append-drop n L) ∙ ap (λ Z. take n L ++ Z) (sym (take-append-drop 64 (drop n L)) ∙ ap (λ Z. take 64 (drop n L) ++ Z) (drop-drop 64 n L))

-- M is L with the next 64 elements from place n on kept or dropped, as the bits of a word say
module _ {K V : Type 0} (number : K → ℕ) (word n : ℕ) (L M : List (K × V)) (left : M ≡ take n L ++ (kept_by word (take 64 (drop n L)) ++ drop (n + 64) L)) where
  abbrev bit : ℕ → K × V → Bool
  bit bits _ = bits % 2 == 1

  abbrev behind : ℕ → K × V → ℕ
  behind bits _ = bits / 2

  length-dropped : length (kept_by word (take 64 (drop n L))) + length (dropped_by word (take 64 (drop n L))) ≡ length (take 64 (drop n L))
  length-dropped = length-kept bit behind word (take 64 (drop n L))

  -- so many are dropped, if so many are not kept
  pub length-removed : (removed : ℕ) → removed + length (kept_by word (take 64 (drop n L))) ≡ length (take 64 (drop n L)) → removed ≡ length (dropped_by word (take 64 (drop n L)))
  length-removed removed count = let both = length-dropped in omega (arith, both, count)

  -- M is shorter by those that are dropped
  pub length-left : length M + length (dropped_by word (take 64 (drop n L))) ≡ length L
  length-left =
      let whole = ap length (parts_64 n L) in let sum = length-append (take n L) (take 64 (drop n L) ++ drop (n + 64) L) in let rest = length-append (take 64 (drop n L)) (drop (n + 64) L) in
      let new = ap length left in let new_sum = length-append (take n L) (kept_by word (take 64 (drop n L)) ++ drop (n + 64) L) in let new_rest = length-append (kept_by word (take 64 (drop n L))) (drop (n + 64) L) in
      let both = length-dropped in
      omega (arith, whole, sum, rest, new, new_sum, new_rest, both)

  -- the keys of those are absent, and each other key has its value
  pub value_of-left : HasDistinctKeys number L → (q : K)
      → value_of number M q ≡ cond (list_any (λ p. same_key number q p.0) (dropped_by word (take 64 (drop n L)))) None (value_of number L q)
  value_of-left once q =
      let whole = parts_64 n L in
      ap (λ Z. value_of number Z q) left
      ∙ value_of-part number bit behind q word (take n L) (take 64 (drop n L)) (drop (n + 64) L) (subst (λ Z. count_by (λ p. same_key number q p.0) Z ≤ 1) whole (once q))
      ∙ ap (λ Z. cond (list_any (λ p. same_key number q p.0) (dropped_by word (take 64 (drop n L)))) None (value_of number Z q)) (sym whole)

  -- and what a map keeps agrees
  pub IsConsistent-left : (is_valid : K → Type 0) (C D E m m' most B N N' : ℕ) → D ≡ C → walk_of number M D ≡ M → m' ≡ length M → B ≤ N' → IsConsistent number is_valid L C E m most B N
      → IsConsistent number is_valid M D E m' most B N'
  IsConsistent-left is_valid C D E m m' most B N N' =
      IsConsistent-Retains number is_valid (Any bit behind) tt tt L M C D E m m' most B N N'
      (subst (λ Z. Retains (Any bit behind) (tt {0}) Z M (tt {0})) (sym (parts_64 n L))
      (subst (λ Z. Retains (Any bit behind) (tt {0}) (take n L ++ (take 64 (drop n L) ++ drop (n + 64) L)) Z (tt {0})) (sym left)
      (Retains-part bit behind word (take n L) (take 64 (drop n L)) (drop (n + 64) L))))
