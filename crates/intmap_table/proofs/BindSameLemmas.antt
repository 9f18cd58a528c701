-- What lists that bind keys alike have in common: equal options, and tests that each present key passes.
use Rattle.std.proofs.Common.{◌≡◌, ℕ, ◌==◌, Bool, true, cond, List, [], ◌∷◌, Option, Some, None, refl, sym, ◌∙◌, inl, inr}
use Rattle.std.specs.Prelude.{◌⊎◌}
use Rattle.std.proofs.lemmas.Bool.{cases_Bool, true≢false, eqb-true}
use Rattle.std.specs.Cmp.{IsPartialEquivalence, first_so, second_so}
use Rattle.std.specs.List.{list_all}
use Rattle.std.specs.Option.{option_eq}
use Rattle.intmap_table.specs.Classes.{same_key}
use Rattle.intmap_table.specs.Bindings.{value_of, BindSame}

module _ {V : Type 0} (equal : V → V → Bool) where
  -- comparing an option with none is symmetric
  pub option_eq-none : (o : Option V) → option_eq equal None o ≡ option_eq equal o None
  option_eq-none None = refl
  option_eq-none (Some v) = refl

  -- comparing options is symmetric if comparing values is
  pub option_eq-symm : ((x y : V) → equal x y ≡ equal y x) → (o p : Option V) → option_eq equal o p ≡ option_eq equal p o
  option_eq-symm symm None p = option_eq-none p
  option_eq-symm symm (Some x) None = refl
  option_eq-symm symm (Some x) (Some y) = symm x y

  -- comparing options is transitive if comparing values is
  pub option_eq-trans : ((x y z : V) → equal x y ≡ true → equal y z ≡ true → equal x z ≡ true)
      → (o p q : Option V) → option_eq equal o p ≡ true → option_eq equal p q ≡ true → option_eq equal o q ≡ true
  option_eq-trans trans None None q first second = second
  option_eq-trans trans None (Some y) q first second = absurd (true≢false (sym first))
  option_eq-trans trans (Some x) None q first second = absurd (true≢false (sym first))
  option_eq-trans trans (Some x) (Some y) None first second = second
  option_eq-trans trans (Some x) (Some y) (Some z) first second = trans x y z first second

  -- an option is equal to itself if each value is
  pub option_eq-refl : ((x : V) → equal x x ≡ true) → (o : Option V) → option_eq equal o o ≡ true
  option_eq-refl same None = refl
  option_eq-refl same (Some x) = same x

module _ {K V : Type 0} (number : K → ℕ) where
  -- keys with one number have one value
  pub value_of-same_number : (L : List (K × V)) (j k : K) → number j ≡ number k → value_of number L j ≡ value_of number L k
  value_of-same_number [] j k same = refl
  value_of-same_number (p ∷ L) j k same = λ i. cond (number p.0 == same i) (Some p.1) (value_of-same_number L j k same i)

  -- a test of numbers that each pair's key passes is passed by each present key
  pub unbound-or_passing : (test : K → Bool) → ((j k : K) → number j ≡ number k → test j ≡ test k) → (L : List (K × V)) (k : K)
      → list_all (λ p. test p.0) L ≡ true → (value_of number L k ≡ None) ⊎ (test k ≡ true)
  unbound-or_passing test alike [] k all = inl refl
  unbound-or_passing test alike (p ∷ L) k all = elim (cases_Bool (same_key number k p.0)) as (λ _. (value_of number (p ∷ L) k ≡ None) ⊎ (test k ≡ true)) [
    | inl is ↦ inr (alike k p.0 (sym (eqb-true (number p.0) (number k) is)) ∙ first_so (test p.0) _ all)
    | inr apart ↦ rw apart (unbound-or_passing test alike L k (second_so (test p.0) _ all))
  ]

module _ {K V : Type 0} (number : K → ℕ) (equal : V → V → Bool) where
  -- having the same bindings is transitive
  pub BindSame-trans : IsPartialEquivalence equal → (L M N : List (K × V)) → BindSame number equal L M → BindSame number equal M N → BindSame number equal L N
  BindSame-trans values L M N first second k = option_eq-trans equal values.trans (value_of number L k) (value_of number M k) (value_of number N k) (first k) (second k)
