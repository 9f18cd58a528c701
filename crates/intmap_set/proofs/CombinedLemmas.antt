-- Two sets: what membership says of the lists that are made of both, and when one of these is empty.
use Rattle.std.proofs.Common.{◌≡◌, ◌∙◌, ℕ, Bool, true, false, cond, List, ◌++◌, refl, sym, ap, filter, length}
use Rattle.std.proofs.lemmas.Bool.{eqb-true, true≢false}
use Rattle.std.proofs.lemmas.List.Folds.{list_any-append}
use Rattle.std.proofs.lemmas.Map.Views.{any-filter_same}
use Rattle.std.proofs.Math.Bool.{and_comm, or_comm}
use Rattle.std.specs.Borrow.{Bor}
use Rattle.std.specs.Iterator.{YieldsFirstBy}
use Rattle.std.specs.Prelude.{◌↔◌, ◌&&◌, ◌||◌, not, nat_lt, Option, Some, None, is_some, IsTrue}
use Rattle.intmap.specs.Classes.{same_key}
use Rattle.intmap_set.specs.Sets.{holds}
use Rattle.intmap_set.specs.Combined.{IsDifference, IsDisjoint, IsIntersection, IsSubset, IsSymmetricDifference, IsUnion, common_of, difference_of, intersection_of, symmetric_difference_of, union_of}
use Rattle.intmap_set.proofs.MemberLemmas.{holds-same_number, same_key-itself}

-- what passes neither way round
or-not : (b c : Bool) → (b || (c && not b)) ≡ (b || c)
or-not true c = refl
or-not false true = refl
or-not false false = refl

-- one of two alone
one_alone : (b c : Bool) → ((b && not c) || (c && not b)) ≡ cond b (not c) c
one_alone true true = refl
one_alone true false = refl
one_alone false true = refl
one_alone false false = refl

-- not one without the other
pub without-other : (b c : Bool) → (b && not c) ≡ false ↔ (b ≡ true → c ≡ true)
without-other true true = (λ no is. refl, λ so. refl)
without-other true false = (λ no is. absurd (true≢false no), λ so. absurd (true≢false (sym (so refl))))
without-other false c = (λ no is. absurd (true≢false (sym is)), λ so. refl)

-- not one with the other
pub with-other : (b c : Bool) → (b && c) ≡ false ↔ (b ≡ true → c ≡ false)
with-other true c = (λ no is. no, λ so. so refl)
with-other false c = (λ no is. absurd (true≢false (sym is)), λ so. refl)

module _ {K : Type 0} (number : K → ℕ) where
  -- a test of numbers keeps the members that pass it
  holds-filter : (test : K → Bool) → ((j k : K) → number j ≡ number k → test j ≡ test k) → (V : List K) (q : K)
      → holds number (filter test V) q ≡ (holds number V q && test q)
  holds-filter test alike V q =
      any-filter_same (same_key number q) test (test q) (λ k is. alike k q (eqb-true (number k) (number q) is)) V ∙ and_comm (test q) (holds number V q)

  -- the members that V has and W hasn't
  pub IsDifference-difference_of : (V W : List K) → IsDifference number V W (difference_of number V W)
  IsDifference-difference_of V W q = holds-filter (λ k. not (holds number W k)) (λ j k same. ap not (holds-same_number number W j k same)) V q

  -- the members that both have
  pub IsIntersection-common_of : (V W : List K) → IsIntersection number V W (common_of number V W)
  IsIntersection-common_of V W q = holds-filter (holds number W) (holds-same_number number W) V q

  -- and in the order of the shorter one
  pub IsIntersection-intersection_of : (V W : List K) → IsIntersection number V W (intersection_of number V W)
  IsIntersection-intersection_of V W q = at (nat_lt (length W) (length V))
    where
      at : (b : Bool) → holds number (cond b (common_of number W V) (common_of number V W)) q ≡ (holds number V q && holds number W q)
      at true = IsIntersection-common_of W V q ∙ and_comm (holds number W q) (holds number V q)
      at false = IsIntersection-common_of V W q

  -- the members of V and then those that W has alone
  pub holds-joined : (V W : List K) → IsUnion number V W (V ++ difference_of number W V)
  holds-joined V W q =
      list_any-append (same_key number q) V (difference_of number W V)
      ∙ ap (λ b. holds number V q || b) (IsDifference-difference_of W V q) ∙ or-not (holds number V q) (holds number W q)

  -- the members of W and then those that V has alone
  pub holds-joined_first : (V W : List K) → IsUnion number V W (W ++ difference_of number V W)
  holds-joined_first V W q = holds-joined W V q ∙ or_comm (holds number W q) (holds number V q)

  -- the members of either
  pub IsUnion-union_of : (V W : List K) → IsUnion number V W (union_of number V W)
  IsUnion-union_of V W q = at (nat_lt (length V) (length W))
    where
      at : (b : Bool) → holds number (cond b (W ++ difference_of number V W) (V ++ difference_of number W V)) q ≡ (holds number V q || holds number W q)
      at true = holds-joined_first V W q
      at false = holds-joined V W q

  -- the members of one alone
  pub IsSymmetricDifference-symmetric_difference_of : (V W : List K) → IsSymmetricDifference number V W (symmetric_difference_of number V W)
  IsSymmetricDifference-symmetric_difference_of V W q =
      list_any-append (same_key number q) (difference_of number V W) (difference_of number W V)
      ∙ (λ i. IsDifference-difference_of V W q i || IsDifference-difference_of W V q i) ∙ one_alone (holds number V q) (holds number W q)

  -- an iterator gives nothing if and only if nothing is a member of what is left
  pub none-given : (L M : List K) (r : Option (Bor K)) (b : Bool) → is_some r ≡ not b → YieldsFirstBy (λ key. key.now) (λ rest. rest) L r M → IsTrue b ↔ ((q : K) → holds number L q ≡ false)
  none-given L M None true is gives = (λ yes q. ap (λ N. holds number N q) gives.0, λ none. refl)
  none-given L M None false is gives = absurd (true≢false (sym is))
  none-given L M (Some x) true is gives = absurd (true≢false is)
  none-given L M (Some x) false is gives = (
    λ no. absurd (true≢false (sym no)),
    λ none. absurd (true≢false (sym (ap (λ b. b || holds number M x.now) (same_key-itself number x.now)) ∙ sym (ap (λ N. holds number N x.now) gives) ∙ none x.now)),
  )

  -- no member of V is absent from W if and only if V is a subset
  pub IsSubset-from_none : (V W M : List K) (r : Option (Bor K)) (b : Bool) → is_some r ≡ not b → YieldsFirstBy (λ key. key.now) (λ rest. rest) (difference_of number V W) r M
      → IsTrue b ↔ IsSubset number V W
  IsSubset-from_none V W M r b is gives =
      let none = none-given (difference_of number V W) M r b is gives in let each = IsDifference-difference_of V W in (
        λ yes q. (without-other (holds number V q) (holds number W q)).0 (sym (each q) ∙ none.0 yes q),
        λ sub. none.1 (λ q. each q ∙ (without-other (holds number V q) (holds number W q)).1 (sub q)),
      )

  -- no member is in both if and only if they are disjoint
  pub IsDisjoint-from_none : (V W M : List K) (r : Option (Bor K)) (b : Bool) → is_some r ≡ not b → YieldsFirstBy (λ key. key.now) (λ rest. rest) (intersection_of number V W) r M
      → IsTrue b ↔ IsDisjoint number V W
  IsDisjoint-from_none V W M r b is gives =
      let none = none-given (intersection_of number V W) M r b is gives in let each = IsIntersection-intersection_of V W in (
        λ yes q. (with-other (holds number V q) (holds number W q)).0 (sym (each q) ∙ none.0 yes q),
        λ apart. none.1 (λ q. each q ∙ (with-other (holds number V q) (holds number W q)).1 (apart q)),
      )
