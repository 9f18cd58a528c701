-- The laws of the equality of maps: it compares bindings, and is an equivalence if the equality of values is one.
-- They are proved among the definitions, since the `impl`s of `PartialEq` and `Eq` cite two of them.
pub use Rattle.intmap_table.proofs.BindSameLemmas.{unbound-or_passing}
use Rattle.std.specs.Prelude.{◌≡◌, ◌⊎◌, ◌↔◌, ℕ, Bool, true, ◌&&◌, List, None, IsTrue}
use Rattle.std.proofs.Common.{sym, ap, ◌∙◌, inl, inr}
use Rattle.std.proofs.lemmas.List.Sums.{list_all-from_AllPass}
use Rattle.std.specs.Cmp.{IsPartialEquivalence, IsEquivalence, equiv, partial_equiv_from_equiv, first_so, second_so}
use Rattle.std.specs.Option.{option_eq}
use Rattle.intmap_table.specs.Bindings.{value_of, BindSame}
use Rattle.intmap_table.proofs.BindSameLemmas.{option_eq-none, option_eq-symm, option_eq-refl, value_of-same_number, BindSame-trans}
use Rattle.intmap.specs.Equality.{are_present_alike, maps_equal}
use Rattle.intmap.specs.Map.{MapState}
use Rattle.std.proofs.Math.Bool.{and_comm}

module _ {K V : Type 0} (number : K → ℕ) (equal : V → V → Bool) where
  -- each key present in L has equal values in L and M
  pub unbound-or_alike : (L M : List (K × V)) (k : K) → are_present_alike number equal L M ≡ true
      → (value_of number L k ≡ None) ⊎ (option_eq equal (value_of number L k) (value_of number M k) ≡ true)
  unbound-or_alike L M k all =
      unbound-or_passing number (λ q. option_eq equal (value_of number L q) (value_of number M q))
      (λ j q same. λ i. option_eq equal (value_of-same_number number L j q same i) (value_of-same_number number M j q same i)) L k all

  -- if each key of either has equal values in both, any key has
  BindSame-from_both : (L M : List (K × V)) → are_present_alike number equal L M ≡ true → are_present_alike number equal M L ≡ true → BindSame number equal L M
  BindSame-from_both L M there back k = at (unbound-or_alike L M k there) (unbound-or_alike M L k back)
    where
      at : (value_of number L k ≡ None) ⊎ (option_eq equal (value_of number L k) (value_of number M k) ≡ true)
          → (value_of number M k ≡ None) ⊎ (option_eq equal (value_of number M k) (value_of number L k) ≡ true)
          → option_eq equal (value_of number L k) (value_of number M k) ≡ true
      at (inr same) other = same
      at (inl none) (inl missing) = λ i. option_eq equal (none i) (missing i)
      at (inl none) (inr same) =
          ap (λ o. option_eq equal o (value_of number M k)) none ∙ option_eq-none equal (value_of number M k)
          ∙ ap (option_eq equal (value_of number M k)) (sym none) ∙ same

  -- equal maps have the same keys, each with equal values
  pub BindSame-from_equal : (m n : MapState K V) → maps_equal number equal m n ≡ true → BindSame number equal m.walk n.walk
  BindSame-from_equal m n both = BindSame-from_both m.walk n.walk (first_so (are_present_alike number equal m.walk n.walk) _ both) (second_so (are_present_alike number equal m.walk n.walk) _ both)

  -- if any key has equal values in both, each key of L has
  pub are_present_alike-from_BindSame : (L M : List (K × V)) → BindSame number equal L M → are_present_alike number equal L M ≡ true
  are_present_alike-from_BindSame L M same = list_all-from_AllPass (λ p. option_eq equal (value_of number L p.0) (value_of number M p.0)) L (λ i d below. same _)

  -- maps that have the same bindings both ways are equal
  maps_equal-from_BindSame : (m n : MapState K V) → BindSame number equal m.walk n.walk → BindSame number equal n.walk m.walk → maps_equal number equal m n ≡ true
  maps_equal-from_BindSame m n there back =
      ap (λ b. b && are_present_alike number equal n.walk m.walk) (are_present_alike-from_BindSame m.walk n.walk there) ∙ are_present_alike-from_BindSame n.walk m.walk back

  -- equality of maps is symmetric
  maps_equal-symm : (m n : MapState K V) → maps_equal number equal m n ≡ maps_equal number equal n m
  maps_equal-symm m n = and_comm (are_present_alike number equal m.walk n.walk) (are_present_alike number equal n.walk m.walk)

  -- equality of maps is symmetric and transitive if the equality of values is
  pub IsPartialEquivalence-maps_equal : IsPartialEquivalence equal → IsPartialEquivalence (maps_equal number equal)
  IsPartialEquivalence-maps_equal values = record {
    symm = maps_equal-symm;
    trans = λ l m n first second.
        maps_equal-from_BindSame l n
        (BindSame-trans number equal values l.walk m.walk n.walk (BindSame-from_equal l m first) (BindSame-from_equal m n second))
        (BindSame-trans number equal values n.walk m.walk l.walk (BindSame-from_equal n m (maps_equal-symm n m ∙ second)) (BindSame-from_equal m l (maps_equal-symm m l ∙ first)));
  }

  -- and an equivalence if the equality of values is
  pub IsEquivalence-maps_equal : IsEquivalence equal → IsEquivalence (maps_equal number equal)
  IsEquivalence-maps_equal values =
      equiv (IsPartialEquivalence-maps_equal (partial_equiv_from_equiv values))
      (λ m. let same : BindSame number equal m.walk m.walk = λ k. option_eq-refl equal values.refl (value_of number m.walk k) in maps_equal-from_BindSame m m same same)

  -- maps are equal if and only if they have the same keys, each with equal values
  pub maps_equal-iff_BindSame : IsPartialEquivalence equal → (m n : MapState K V) → IsTrue (maps_equal number equal m n) ↔ BindSame number equal m.walk n.walk
  maps_equal-iff_BindSame values m n = (
    BindSame-from_equal m n,
    λ same. maps_equal-from_BindSame m n same (λ k. option_eq-symm equal values.symm (value_of number n.walk k) (value_of number m.walk k) ∙ same k),
  )
