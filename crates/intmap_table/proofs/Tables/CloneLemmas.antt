-- What clones of lists of pairs have in common with the lists that they were made of.
use Rattle.std.proofs.Common.{◌≡◌, ℕ, Bool, true, false, cond, List, [], ◌∷◌, ◌++◌, Some, None, refl, sym, subst}
use Rattle.std.specs.Prelude.{MatchOption}
use Rattle.std.specs.List.{AllZip}
use Rattle.std.specs.Map.{keys_of}
use Rattle.intmap_table.specs.Bindings.{value_of}
use Rattle.intmap_table.specs.Classes.{same_key}
use Rattle.intmap_table.specs.Cloning.{IsPairClone, BindsClones}

module _ {P Q : Type 0} (R : P → Q → Type 0) where
  -- two runs alike, one behind the other
  pub AllZip-append : (xs us : List P) (ys vs : List Q) → AllZip R xs ys → AllZip R us vs → AllZip R (xs ++ us) (ys ++ vs)
  AllZip-append [] us [] vs all more = more
  AllZip-append [] us (y ∷ ys) vs all more = absurd all
  AllZip-append (x ∷ xs) us [] vs all more = absurd all
  AllZip-append (x ∷ xs) us (y ∷ ys) vs all more = (all.0, AllZip-append xs us ys vs all.1 more)

module _ {K X : Type 0} (clones : X → X → Type 0) where
  -- the pairs of one list are those of the other with clones of their values
  abbrev pub AreClones : List (K × X) → List (K × X) → Type 0
  AreClones L M = AllZip (IsPairClone clones) L M

  -- clones have the keys
  pub keys_of-AreClones : (L M : List (K × X)) → AreClones L M → keys_of L ≡ keys_of M
  keys_of-AreClones [] [] all = refl
  keys_of-AreClones [] (q ∷ M) all = absurd all
  keys_of-AreClones (p ∷ L) [] all = absurd all
  keys_of-AreClones (p ∷ L) (q ∷ M) all = λ i. sym all.0.0 i ∷ keys_of-AreClones L M all.1 i

module _ {K V : Type 0} (clones : V → V → Type 0) where
  -- each key has a clone of its value
  pub BindsClones-AreClones : (number : K → ℕ) (L M : List (K × V)) → AreClones clones L M → BindsClones number clones L M
  BindsClones-AreClones number [] [] all k = refl
  BindsClones-AreClones number [] (q ∷ M) all k = absurd all
  BindsClones-AreClones number (p ∷ L) [] all k = absurd all
  BindsClones-AreClones number (p ∷ L) (q ∷ M) all k =
      let Binds : Bool → Bool → Type 0 = λ a b.
      MatchOption (cond a (Some p.1) (value_of number L k)) (cond b (Some q.1) (value_of number M k) ≡ None)
      (λ v. (w : V) × (cond b (Some q.1) (value_of number M k) ≡ Some w) × clones v w) in
      subst (λ j. Binds (same_key number k p.0) (same_key number k j)) (sym all.0.0) (elim (same_key number k p.0) as (λ b. Binds b b) [
        | true ↦ (q.1, refl, all.0.1)
        | false ↦ BindsClones-AreClones number L M all.1 k
      ])
