-- What a call at a cursor leaves of a map.
use Rattle.std.proofs.Common.{◌≡◌, ℕ, ◌+◌, ◌-◌, ◌≤◌, Bool, true, cond, List, [], ◌∷◌, ◌++◌, Option, None, Some, length, take, drop, append-nil, length-append, refl, sym, ap, ◌∙◌, subst, arith}
use Rattle.std.specs.Prelude.{count_by, is_some}
use Rattle.std.proofs.lemmas.Bool.Decides.{nat_tests}
use Rattle.std.proofs.lemmas.List.{take-append-drop}
use Rattle.std.proofs.lemmas.List.Sums.{sum_by-append}
use Rattle.intmap.proofs.CountLemmas.{count_by-cons}
use Rattle.intmap.proofs.ExtendLemmas.{value_of-append}
use Rattle.intmap_table.specs.Bindings.{value_of, HasDistinctKeys, Updates}
use Rattle.intmap_table.specs.Classes.{same_key}
use Rattle.intmap_table.specs.Picking.{ExtractsBehind}
use Rattle.intmap_table.specs.Walk.{walk_of}
use Rattle.intmap.specs.Consistency.{IsConsistent}
use Rattle.intmap.proofs.ExtractLemmas.{IsConsistent-Extracts}
use Rattle.intmap_table.proofs.BindingLemmas.{Updates-from, first_value-unmatched}
use Rattle.intmap_table.proofs.ExtractLemmas.{length-ExtractsBehind}

-- one is removed, or none
pub length-cut : {F X : Type 0} (R : F → X → Bool → F → X → Type 0) (f g : F) (L M : List X) (i j : ℕ) (r : Option X) → ExtractsBehind R f L i r g M j → length M + cond (is_some r) 1 0 ≡ length L
length-cut R f g L M i j r step = let all = length-ExtractsBehind R f g L M i j r step in grind (arith, all)

module _ {K V : Type 0} (number : K → ℕ) where
  -- a pair that is cut out leaves its key without a value, and each other key with its own
  pub Updates-cut : (L M A R : List (K × V)) (p : K × V) → L ≡ A ++ p ∷ R → M ≡ A ++ R → HasDistinctKeys number L → Updates number L M p.0 None
  Updates-cut L M A R p whole less once =
      Updates-from number L M p.0 None (λ q.
      let all = subst (λ N. count_by (λ r. same_key number q r.0) N ≤ 1) whole (once q) in
      let counted = sum_by-append (λ (r : K × V). cond (same_key number q r.0) 1 0) A (p ∷ R) in let here = count_by-cons (λ (r : K × V). same_key number q r.0) p R in
      let front = first_value-unmatched (same_key number q) A in let behind = first_value-unmatched (same_key number q) R in
      let before = ap (λ N. value_of number N q) whole ∙ value_of-append number A (p ∷ R) q in let after = ap (λ N. value_of number N q) less ∙ value_of-append number A R q in
      grind (arith, nat_tests, all, counted, here, front, behind, before, after))

  -- the pair p behind the first i of L is cut out, which leaves M with j before
  module _ (L M : List (K × V)) (i j : ℕ) (p : K × V) (first : drop i L ≡ p ∷ drop j M) (before : take j M ≡ take i L) where
    parts : L ≡ take i L ++ p ∷ drop j M
    parts = sym (take-append-drop i L) ∙ ap (λ Z. take i L ++ Z) first

    left : M ≡ take i L ++ drop j M
    left = sym (take-append-drop j M) ∙ ap (λ Z. Z ++ drop j M) before

    pub Updates-parts : HasDistinctKeys number L → Updates number L M p.0 None
    Updates-parts = Updates-cut L M (take i L) (drop j M) p parts left

    pub length-parts : length M + 1 ≡ length L
    length-parts =
        let all = ap length parts ∙ length-append (take i L) (p ∷ drop j M) in let rest = ap length left ∙ length-append (take i L) (drop j M) in
        omega (arith, all, rest)

    -- as a closure that picks it and leaves it as it is removes it
    picked : ExtractsBehind (λ (f : Unit {0}) q b g r. r ≡ q) tt L i (Some p) tt M j
    picked = ([], rw first (true, tt, p, refl, (refl, refl, refl, refl)), before ∙ sym (append-nil (take i L)))

    pub IsConsistent-parts : (is_valid : K → Type 0) (C D E n most B N N' : ℕ) → D ≡ C → walk_of number M D ≡ M → B ≤ N' → IsConsistent number is_valid L C E n most B N
        → IsConsistent number is_valid M D E (n - 1) most B N'
    IsConsistent-parts is_valid C D E n most B N N' same own memory old =
        IsConsistent-Extracts number is_valid (λ f q b g r. r ≡ q) (λ f q b g r is. ap (λ h. h.0) is) tt tt L M i j (Some p) C D E n (n - 1) most B N N' picked same own
        (let len = length-parts in omega (arith, len, old.count)) memory old
