-- The laws of the equality of vectors: it compares the values at every place, and so is an equivalence.
-- They are proved among the definitions, since the `impl`s of `PartialEq` and `Eq` cite the last two.
use Rattle.std.specs.Prelude.{◌≡◌, ◌⊎◌, true, ◌&&◌, None, ℤ, pos, unwrap_or}
use Rattle.std.proofs.Common.{refl, sym, ◌∙◌, inl, inr}
use Rattle.std.proofs.lemmas.Bool.Decides.{Decides-int_eq}
use Rattle.std.proofs.lemmas.List.Sums.{list_all-from_AllPass}
use Rattle.std.specs.Cmp.{IsPartialEquivalence, IsEquivalence, equiv, first_so, second_so}
use Rattle.std.specs.Ordering.{int_eq}
use Rattle.intmap.specs.Bindings.{value_of}
use Rattle.intmap.specs.Laws.EqualityLaws.{unbound-or_passing}
use Rattle.intmap_sparse.specs.Vectors.{Vector, value_at, HaveSameValues, are_same_along, vectors_equal}
use Rattle.std.proofs.Math.Bool.{and_comm}

-- equal integers are one
int_eq-true : (x y : ℤ) → int_eq x y ≡ true → x ≡ y
int_eq-true x y same = (Decides-int_eq x y).0 same

-- an integer is equal to itself
int_eq-same : (x y : ℤ) → x ≡ y → int_eq x y ≡ true
int_eq-same x y same = (Decides-int_eq x y).1 same

-- equal vectors have the same values
pub HaveSameValues-from_equal : (v w : Vector) → vectors_equal v w ≡ true → HaveSameValues v.walk w.walk
HaveSameValues-from_equal v w both place =
    at
    (unbound-or_passing (λ key. key) (λ p. int_eq (value_at v.walk p) (value_at w.walk p)) (λ j k same i. int_eq (value_at v.walk (same i)) (value_at w.walk (same i))) v.walk place (first_so (are_same_along v.walk w.walk) (are_same_along w.walk v.walk) both))
    (unbound-or_passing (λ key. key) (λ p. int_eq (value_at w.walk p) (value_at v.walk p)) (λ j k same i. int_eq (value_at w.walk (same i)) (value_at v.walk (same i))) w.walk place (second_so (are_same_along v.walk w.walk) (are_same_along w.walk v.walk) both))
  where
    at : (value_of (λ key. key) v.walk place ≡ None) ⊎ (int_eq (value_at v.walk place) (value_at w.walk place) ≡ true)
        → (value_of (λ key. key) w.walk place ≡ None) ⊎ (int_eq (value_at w.walk place) (value_at v.walk place) ≡ true)
        → value_at v.walk place ≡ value_at w.walk place
    at (inr same) other = int_eq-true _ _ same
    at (inl none) (inr same) = sym (int_eq-true _ _ same)
    at (inl none) (inl missing) = λ i. unwrap_or ((none ∙ sym missing) i) (pos 0)

-- vectors with the same values are equal
pub equal-from_HaveSameValues : (v w : Vector) → HaveSameValues v.walk w.walk → vectors_equal v w ≡ true
equal-from_HaveSameValues v w same =
    let there : are_same_along v.walk w.walk ≡ true = list_all-from_AllPass (λ pair. int_eq (value_at v.walk pair.0) (value_at w.walk pair.0)) v.walk (λ i d below. int_eq-same _ _ (same _)) in
    let back : are_same_along w.walk v.walk ≡ true = list_all-from_AllPass (λ pair. int_eq (value_at w.walk pair.0) (value_at v.walk pair.0)) w.walk (λ i d below. int_eq-same _ _ (sym (same _))) in
    (λ i. there i && back i)

-- equality of vectors is symmetric and transitive
pub IsPartialEquivalence-vectors_equal : IsPartialEquivalence vectors_equal
IsPartialEquivalence-vectors_equal = record {
  symm = λ v w. and_comm (are_same_along v.walk w.walk) (are_same_along w.walk v.walk);
  trans = λ u v w first second.
      equal-from_HaveSameValues u w (λ place. HaveSameValues-from_equal u v first place ∙ HaveSameValues-from_equal v w second place);
}

-- equality of vectors is an equivalence
pub IsEquivalence-vectors_equal : IsEquivalence vectors_equal
IsEquivalence-vectors_equal = equiv IsPartialEquivalence-vectors_equal (λ v. equal-from_HaveSameValues v v (λ place. refl))
