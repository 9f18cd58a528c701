-- What calls of a vector are: a failure of its map, and a product as the code computes it.
use Rattle.std.proofs.Common.{◌≡◌, ℕ, ◌+◌, ◌^◌, ◌<◌, ◌≤◌, length, true, cond, refl, sym, ap, ◌∙◌, subst, arith}
use Rattle.std.proofs.lemmas.Bool.{eq-eqb, true≢false}
use Rattle.std.proofs.Math.IntN.{+ℤ_idl}
use Rattle.std.specs.Prelude.{◌≢◌, ◌↔◌, ◌==◌, ℤ, pos, negsuc, ◌+ℤ◌, ◌*ℤ◌, FitsSigned, Option, None, Some, IsNone, unwrap_or, unsigned_abs, Result, Ok, Err, IsErrAnd, IsErrOf}
use Rattle.std.specs.Int.{w64, w128}
use Rattle.std.proofs.Common.{to_z, of_z}
use Rattle.std.proofs.lemmas.Int.{to_z-of_z, fits_signed_mul}
use Rattle.intmap.specs.declared.refusal.Cause.{Cause}
use Rattle.intmap.specs.declared.refusal.Cause.TheVariants.{Memory, TooLarge}
use Rattle.intmap.specs.Bindings.{put_pair, take_key, value_of}
use Rattle.intmap.specs.Growth.{IsNext}
use Rattle.intmap.specs.Map.{MapState, IsOutOfRange, after_insert, after_remove}
use Rattle.intmap.specs.Reach.{class_size}
use Rattle.intmap.specs.Walk.{walk_of}
use Rattle.intmap_sparse.specs.Vectors.{Vector, is_nonzero, value_at, vector_of, with_value, IsBeyondRange, load_factor}
use Rattle.intmap_sparse.specs.Causes.{sparse_cause}
use Rattle.intmap_sparse.specs.declared.cause.SparseCause.{SparseCause}
use Rattle.intmap_sparse.specs.declared.cause.SparseCause.TheVariants as sparse

-- a result that fails with a cause is that failure
refused-as : (r : Result ℤ Cause) (cause : Cause) → IsErrAnd r (λ e. e ≡ cause) → r ≡ Err cause
refused-as (Ok x) cause is = absurd is
refused-as (Err e) cause is = ap Err is

-- causes of one failure are equal
same-cause : (d e : Cause) → ◌≡◌ {A = Result ℤ Cause} (Err d) (Err e) → d ≡ e
same-cause d e same = cc

-- a failure of the map as too large is one of the vector
pub refused-too_large : (r : Result ℤ Cause) (cause : Cause) (m : MapState ℕ ℤ) (v : Vector) (place : ℕ) (value : ℤ)
    → IsErrAnd r (λ e. e ≡ cause) → (cause ≡ TooLarge) ↔ IsOutOfRange (λ key. key) m.walk m.capacity m.factor place
    → vector_of m ≡ v → m.factor ≡ load_factor → (value ≡ pos 0 → ⊥)
    → IsErrOf r TooLarge ↔ ((value ≢ pos 0) × IsBeyondRange v place)
refused-too_large r cause m v place value is iff seen factor nonzero =
    let err = refused-as r cause is in (
      λ too_large. (
        nonzero,
        subst (λ u. IsBeyondRange u place) seen
            (subst (λ F. IsOutOfRange (λ key. key) m.walk m.capacity F place) factor (iff.0 (same-cause cause TooLarge (sym err ∙ too_large)))),
      ),
      λ beyond. err ∙ ap Err (iff.1 (subst (λ F. IsOutOfRange (λ key. key) m.walk m.capacity F place) (sym factor)
          (subst (λ u. IsBeyondRange u place) (sym seen) beyond.1))),
    )

-- and so is one for want of memory
pub refused-memory : (r : Result ℤ Cause) (cause : Cause) (m : MapState ℕ ℤ) (v : Vector) (place : ℕ) → IsErrAnd r (λ e. e ≡ cause)
    → (cause ≡ Memory → IsNext m.capacity (length m.walk + 1) m.factor m.capacity → 0 < class_size (λ key. key) m.walk m.capacity place)
    → vector_of m ≡ v → m.factor ≡ load_factor
    → IsErrOf r Memory → IsNext v.capacity (length v.walk + 1) load_factor v.capacity → 0 < class_size (λ key. key) v.walk v.capacity place
refused-memory r cause m v place is due seen factor memory =
    let shared = due (same-cause cause Memory (sym (refused-as r cause is) ∙ memory)) in
    subst (λ u. IsNext u.capacity (length u.walk + 1) load_factor u.capacity → 0 < class_size (λ key. key) u.walk u.capacity place) seen
    (subst (λ F. IsNext m.capacity (length m.walk + 1) F m.capacity → 0 < class_size (λ key. key) m.walk m.capacity place) factor shared)

-- beyond the range the value is 0, so a sum is what is added
sum-beyond : (v : Vector) (place : ℕ) (delta sum : ℤ) → sum ≡ (value_at v.walk place +ℤ delta) → IsBeyondRange v place → sum ≡ delta
sum-beyond v place delta sum is beyond = is ∙ ap (λ z. z +ℤ delta) (at (value_of (λ key. key) v.walk place) beyond.0) ∙ +ℤ_idl delta
  where
    at : (o : Option ℤ) → IsNone o → unwrap_or o (pos 0) ≡ pos 0
    at None none = refl
    at (Some z) none = absurd (true≢false none)

-- so a sum that can't be set for being too large is one that can't be added
pub added-too_large : (v : Vector) (place : ℕ) (delta sum : ℤ) → sum ≡ (value_at v.walk place +ℤ delta) → (P Q : Type 0) → (P → Q) → (Q → P)
    → P ↔ ((sum ≢ pos 0) × IsBeyondRange v place) → Q ↔ ((delta ≢ pos 0) × IsBeyondRange v place)
added-too_large v place delta sum is P Q there back iff = (
  λ q. let out = iff.0 (back q) in (λ zero. out.0 (sum-beyond v place delta sum is out.1 ∙ zero), out.1),
  λ out. there (iff.1 (λ zero. out.0 (sym (sum-beyond v place delta sum is out.1) ∙ zero), out.1)),
)

-- a cause of the vector that is too large is one of the map
pub too_large-as : (r : Result ℤ SparseCause) (cause : Cause) → IsErrAnd r (λ e. e ≡ sparse_cause cause) → IsErrOf r sparse.TooLarge → ◌≡◌ {A = Result ℤ Cause} (Err cause) (Err TooLarge)
too_large-as (Ok x) cause is large = absurd is
too_large-as (Err e) TooLarge is large = refl
too_large-as (Err e) Memory is large = cc

-- and the other way round
pub as-too_large : (r : Result ℤ SparseCause) (cause : Cause) → IsErrAnd r (λ e. e ≡ sparse_cause cause) → ◌≡◌ {A = Result ℤ Cause} (Err cause) (Err TooLarge) → IsErrOf r sparse.TooLarge
as-too_large (Ok x) cause is large = absurd is
as-too_large (Err e) cause is large = ap Err (is ∙ ap sparse_cause (same-cause cause TooLarge large))

-- what a removal leaves is the vector with 0 at the place
pub with_value-removed : (m after : MapState ℕ ℤ) (v : Vector) (place : ℕ) (value : ℤ)
    → FitsSigned w64 value → of_z w64 value ≡ of_z w64 (pos 0) → vector_of m ≡ v → after ≡ after_remove (λ key. key) m place
    → vector_of after ≡ with_value v place value after.capacity
with_value-removed m after v place value fits zero seen removed =
    let is : value ≡ pos 0 = sym (to_z-of_z w64 value fits) ∙ ap (to_z w64) zero in
    subst (λ z. vector_of after ≡ with_value v place z after.capacity) (sym is)
    (subst (λ u. vector_of after ≡ with_value u place (pos 0) after.capacity) seen
    (subst (λ n. vector_of n ≡ with_value (vector_of m) place (pos 0) n.capacity) (sym removed)
    (λ i. record { walk = walk_of (λ key. key) (take_key (λ key. key) m.walk m.capacity place) m.capacity; capacity = m.capacity; reserved = cond (sym (eq-eqb m.capacity m.capacity refl) i) m.reserved 0 })))

-- what an insertion leaves is the vector with a value other than 0 at the place
pub with_value-inserted : (m after : MapState ℕ ℤ) (v : Vector) (place : ℕ) (value : ℤ)
    → FitsSigned w64 value → is_nonzero value ≡ true → vector_of m ≡ v
    → after ≡ after_insert (λ key. key) m place (to_z w64 (of_z w64 value)) after.capacity
    → vector_of after ≡ with_value v place value after.capacity
with_value-inserted m after v place value fits nonzero seen inserted =
    ap vector_of (inserted ∙ ap (λ z. after_insert (λ key. key) m place z after.capacity) (to_z-of_z w64 value fits))
    ∙ (λ i. record {
      walk = walk_of (λ key. key) (cond (sym nonzero i) (put_pair (λ key. key) m.walk m.capacity place value) (take_key (λ key. key) m.walk m.capacity place)) after.capacity;
      capacity = after.capacity;
      reserved = cond (after.capacity == m.capacity) m.reserved 0;
    })
    ∙ ap (λ u. with_value u place value after.capacity) seen

-- an i64 is an i128
wide : (z : ℤ) → FitsSigned w64 z → FitsSigned w128 z
wide z fits = let below = fits.sfits in record { sfits = omega (arith, below) }

-- and at most 2^63 in size
size : (z : ℤ) → FitsSigned w64 z → unsigned_abs z ≤ 2 ^ 63
size (pos n) fits = let below = fits.sfits in omega (arith, below)
size (negsuc n) fits = let below = fits.sfits in omega (arith, below)

-- an i64 as an i128 is itself
widened : (z : ℤ) → FitsSigned w64 z → to_z w128 (of_z w128 (to_z w64 (of_z w64 z))) ≡ z
widened z fits = ap (λ x. to_z w128 (of_z w128 x)) (to_z-of_z w64 z fits) ∙ to_z-of_z w128 z (wide z fits)

-- the product of two values, as i128
pub widened-product : (y z : ℤ) → FitsSigned w64 y → FitsSigned w64 z
    → to_z w128 (of_z w128 (to_z w128 (of_z w128 (to_z w64 (of_z w64 y))) *ℤ to_z w128 (of_z w128 (to_z w64 (of_z w64 z))))) ≡ (y *ℤ z)
widened-product y z first second =
    let left = widened y first in let right = widened z second in
    (λ i. to_z w128 (of_z w128 (left i *ℤ right i)))
    ∙ to_z-of_z w128 (y *ℤ z) (fits_signed_mul w128 y z (2 ^ 63) (2 ^ 63) (size y first) (size z second) (omega arith))
