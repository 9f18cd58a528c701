-- Values at places: what the pairs of a walk give over all places.
use Rattle.std.proofs.Common.{◌≡◌, inl, inr, ℕ, ◌^◌, ◌<◌, Bool, true, false, cond, List, [], ◌∷◌, length, Option, Some, None, refl, sym, ap, ◌∙◌, subst, arith}
use Rattle.std.specs.Prelude.{◌==◌, ◌↔◌, All, not, ℤ, pos, ◌+ℤ◌, ◌*ℤ◌, unwrap_or, is_some, FitsSigned}
use Rattle.std.specs.Int.{w128}
use Rattle.std.specs.List.{fold}
use Rattle.std.specs.Ordering.{int_eq}
use Rattle.std.proofs.lemmas.Bool.{cases_Bool, eqb-true, eq-eqb}
use Rattle.std.proofs.lemmas.Bool.Decides.{Decides-int_eq}
use Rattle.std.proofs.lemmas.List.Elements.{All-head, All-tail}
use Rattle.std.proofs.Math.IntN.{+ℤ_idl, +ℤ_idr, *ℤ_comm, zero-*ℤ}
use Rattle.intmap.specs.Bindings.{value_of, HasDistinctKeys}
use Rattle.intmap.specs.Map.{MapState, IsMap}
use Rattle.intmap.proofs.CostLemmas.{HasDistinctKeys-tail}
use Rattle.intmap.proofs.EqualityLemmas.{value_of-first, value_of-rest}
use Rattle.intmap_sparse.specs.Vectors.{IsVector, value_at, HasNoZeros, HaveSameValues, is_nonzero, sum_below, count_below, product, products_along}
use Rattle.intmap_sparse.proofs.SumLemmas.{sum_below-ext, sum_below-zeros, sum_below-plus, sum_below-single, count_below-none, count_below-more, fold-from, IsWideFrom, IsWideFrom-now, IsWideFrom-cons}

-- a value or 0, by whether it was found first
unwrap_or-cond : (b : Bool) (z : ℤ) (o : Option ℤ) → unwrap_or (cond b (Some z) o) (pos 0) ≡ cond b z (unwrap_or o (pos 0))
unwrap_or-cond true z o = refl
unwrap_or-cond false z o = refl

-- the value at a place is the value of the first pair, if it is the pair's place, and otherwise what is behind it
value_at-cons : (p : ℕ × ℤ) (V : List (ℕ × ℤ)) (place : ℕ) → value_at (p ∷ V) place ≡ cond (p.0 == place) p.1 (value_at V place)
value_at-cons p V place = unwrap_or-cond (p.0 == place) p.1 (value_of (λ key. key) V place)

-- behind the first pair its place has the value 0
value_at-behind : (p : ℕ × ℤ) (V : List (ℕ × ℤ)) → HasDistinctKeys (λ key. key) (p ∷ V) → (place : ℕ) → (p.0 == place) ≡ true → value_at V place ≡ pos 0
value_at-behind p V once place here = ap (λ o. unwrap_or o (pos 0)) (value_of-rest (λ key. key) p V once place here)

-- a product at a place is the first pair's, if it is the pair's place, and the product behind it
product-cons : (p : ℕ × ℤ) (V W : List (ℕ × ℤ)) → HasDistinctKeys (λ key. key) (p ∷ V) → (place : ℕ)
    → (value_at (p ∷ V) place *ℤ value_at W place) ≡ (cond (p.0 == place) (p.1 *ℤ value_at W p.0) (pos 0) +ℤ (value_at V place *ℤ value_at W place))
product-cons p V W once place =
    ap (λ z. z *ℤ value_at W place) (value_at-cons p V place)
    ∙ elim (cases_Bool (p.0 == place)) [
      | inl here ↦
          (let same = eqb-true p.0 place here in
          let gone = ap (λ z. z *ℤ value_at W place) (value_at-behind p V once place here) ∙ zero-*ℤ (value_at W place) in
          (λ i. cond (here i) p.1 (value_at V place) *ℤ value_at W (sym same i))
          ∙ sym (+ℤ_idr (p.1 *ℤ value_at W p.0))
          ∙ (λ i. cond (sym here i) (p.1 *ℤ value_at W p.0) (pos 0) +ℤ sym gone i))
      | inr apart ↦
          ((λ i. cond (apart i) p.1 (value_at V place) *ℤ value_at W place)
          ∙ sym (+ℤ_idl (value_at V place *ℤ value_at W place))
          ∙ (λ i. cond (sym apart i) (p.1 *ℤ value_at W p.0) (pos 0) +ℤ (value_at V place *ℤ value_at W place)))
    ]

-- the products along a walk sum to the product over all places
pub fold-products_along : (V W : List (ℕ × ℤ)) (n : ℕ) → HasDistinctKeys (λ key. key) V → All (λ pair. pair.0 < n) V
    → fold ◌+ℤ◌ (pos 0) (products_along V W) ≡ sum_below (λ place. value_at V place *ℤ value_at W place) n
fold-products_along [] W n once below = sym (sum_below-zeros (λ place. pos 0 *ℤ value_at W place) n (λ place. zero-*ℤ (value_at W place)))
fold-products_along (p ∷ V) W n once below =
    let within = All-head (λ (q : ℕ × ℤ). q.0 < n) p V below in
    let rest = fold-products_along V W n (HasDistinctKeys-tail (λ key. key) p V once) (All-tail (λ (q : ℕ × ℤ). q.0 < n) p V below) in
    let term = p.1 *ℤ value_at W p.0 in
    fold-from (pos 0 +ℤ term) (products_along V W)
    ∙ (λ i. +ℤ_idl term i +ℤ rest i)
    ∙ ap (λ s. s +ℤ sum_below (λ place. value_at V place *ℤ value_at W place) n) (sym (sum_below-single p.0 term n within))
    ∙ sym (sum_below-plus (λ place. cond (p.0 == place) term (pos 0)) (λ place. value_at V place *ℤ value_at W place) n)
    ∙ sym (sum_below-ext (λ place. value_at (p ∷ V) place *ℤ value_at W place) _ n (λ place below_n. product-cons p V W once place))

-- the product is the same both ways
pub product-turned : (V W : List (ℕ × ℤ)) → product V W ≡ product W V
product-turned V W =
    sum_below-ext (λ place. value_at V place *ℤ value_at W place) (λ place. value_at W place *ℤ value_at V place) _ (λ place below. *ℤ_comm (value_at V place) (value_at W place))

-- a value other than 0 passes the test, and 0 doesn't
pub is_nonzero-true : (z : ℤ) → (z ≡ pos 0 → ⊥) → is_nonzero z ≡ true
is_nonzero-true z other = elim (cases_Bool (int_eq z (pos 0))) [
  | inl same ↦ absurd (other ((Decides-int_eq z (pos 0)).0 same))
  | inr apart ↦ ap not apart
]

-- no zeros are stored behind the first pair
HasNoZeros-tail : (p : ℕ × ℤ) (V : List (ℕ × ℤ)) → HasDistinctKeys (λ key. key) (p ∷ V) → HasNoZeros (p ∷ V) → HasNoZeros V
HasNoZeros-tail p V once none place zero = elim (cases_Bool (p.0 == place)) [
  | inl here ↦ (let gone = value_of-rest (λ key. key) p V once place here in cc)
  | inr apart ↦ none place (ap (λ b. cond b (Some p.1) (value_of (λ key. key) V place)) apart ∙ zero)
]

-- of a value other than 0 and another one the test is passed by the first, and by the other if that passes it
is_nonzero-cond : (b : Bool) (y z : ℤ) → is_nonzero y ≡ true → is_nonzero (cond b y z) ≡ cond b true (is_nonzero z)
is_nonzero-cond true y z passes = passes
is_nonzero-cond false y z passes = refl

-- the number of places with a value other than 0 is the number of stored places
pub count_below-length : (V : List (ℕ × ℤ)) (n : ℕ) → HasDistinctKeys (λ key. key) V → All (λ pair. pair.0 < n) V → HasNoZeros V
    → count_below (λ place. is_nonzero (value_at V place)) n ≡ length V
count_below-length [] n once below none = count_below-none (λ place. is_nonzero (pos 0)) n (λ place. refl)
count_below-length (p ∷ V) n once below none =
    let within = All-head (λ (q : ℕ × ℤ). q.0 < n) p V below in
    let rest = count_below-length V n (HasDistinctKeys-tail (λ key. key) p V once) (All-tail (λ (q : ℕ × ℤ). q.0 < n) p V below) (HasNoZeros-tail p V once none) in
    let here = is_nonzero-true p.1 (λ zero. none p.0 (value_of-first (λ key. key) p V ∙ ap Some zero)) in
    let more = count_below-more (λ place. is_nonzero (value_at (p ∷ V) place)) (λ place. is_nonzero (value_at V place)) p.0 n within
    (ap is_nonzero (value_at-behind p V once p.0 (eq-eqb p.0 p.0 refl)))
    (λ place. ap is_nonzero (value_at-cons p V place) ∙ is_nonzero-cond (p.0 == place) p.1 (value_at V place) here) in
    omega (arith, rest, more)

-- what a map without zeros is as a vector
pub IsVector-map : (m : MapState ℕ ℤ) → IsMap (λ key. key) (λ key. key < 2 ^ 64) m → HasNoZeros m.walk → IsVector m.walk
IsVector-map m map none = record { distinct = map.distinct; places = map.keys; no_zeros = none }

-- a place is stored if and only if its value isn't 0
pub is_nonzero-value_at : (V : List (ℕ × ℤ)) (place : ℕ) → HasNoZeros V → is_nonzero (value_at V place) ≡ is_some (value_of (λ key. key) V place)
is_nonzero-value_at V place none = at (value_of (λ key. key) V place) (none place)
  where
    at : (o : Option ℤ) → (o ≡ Some (pos 0) → ⊥) → is_nonzero (unwrap_or o (pos 0)) ≡ is_some o
    at None other = refl
    at (Some z) other = is_nonzero-true z (λ zero. other (ap Some zero))

-- if nothing is stored, every value is 0
pub HaveSameValues-empty : (V : List (ℕ × ℤ)) → (length V == 0) ≡ true → HaveSameValues V []
HaveSameValues-empty [] none place = refl
HaveSameValues-empty (p ∷ V) none place = absurd (let e = eqb-true (length (p ∷ V)) 0 none in omega (arith, e))

-- and if every value is 0, nothing is stored
pub length-zeros : (V : List (ℕ × ℤ)) → HasNoZeros V → HaveSameValues V [] → (length V == 0) ≡ true
length-zeros [] none zeros = refl
length-zeros (p ∷ V) none zeros =
    let found = ap (λ o. unwrap_or o (pos 0)) (value_of-first (λ key. key) p V) in
    absurd (none p.0 (value_of-first (λ key. key) p V ∙ ap Some (sym found ∙ zeros p.0)))

-- what is left to be summed once the first of the pairs that were left is
module _ (R S W : List (ℕ × ℤ)) (p : ℕ × ℤ) (a b : ℤ) (steps : R ≡ p ∷ S) (adds : b ≡ (a +ℤ (p.1 *ℤ value_at W p.0))) where
  -- the sum is the same
  pub fold-rest : (total : ℤ) → fold ◌+ℤ◌ a (products_along R W) ≡ total → fold ◌+ℤ◌ b (products_along S W) ≡ total
  fold-rest total left =
      ap (λ s. fold ◌+ℤ◌ s (products_along S W)) adds ∙ sym (ap (λ V. fold ◌+ℤ◌ a (products_along V W)) steps) ∙ left

  -- and so is whether some partial sum is too wide
  pub IsWideFrom-rest : (Q : Type 0) → FitsSigned w128 a → IsWideFrom a (products_along R W) ↔ Q → IsWideFrom b (products_along S W) ↔ Q
  IsWideFrom-rest Q fits wide =
      let behind = IsWideFrom-cons a (p.1 *ℤ value_at W p.0) (products_along S W) fits in (
        λ rest. wide.0 (subst (λ V. IsWideFrom a (products_along V W)) (sym steps) (behind.1 (subst (λ s. IsWideFrom s (products_along S W)) adds rest))),
        λ q. subst (λ s. IsWideFrom s (products_along S W)) (sym adds) (behind.0 (subst (λ V. IsWideFrom a (products_along V W)) steps (wide.1 q))),
      )

-- if the next sum is too wide, some partial sum is
pub wide-next : (R S W : List (ℕ × ℤ)) (p : ℕ × ℤ) (a : ℤ) (Q : Type 0) → R ≡ p ∷ S → FitsSigned w128 a
    → (FitsSigned w128 (a +ℤ (p.1 *ℤ value_at W p.0)) → ⊥) → IsWideFrom a (products_along R W) ↔ Q → Q
wide-next R S W p a Q steps fits wider wide =
    let next = a +ℤ (p.1 *ℤ value_at W p.0) in
    (IsWideFrom-rest R S W p a next steps refl Q fits wide).0 (IsWideFrom-now next (products_along S W) wider)
