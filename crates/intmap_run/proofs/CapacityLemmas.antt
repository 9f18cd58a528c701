-- What calls leave of a capacity: a capacity, and none smaller.
use Rattle.std.proofs.Common.{◌≡◌, ◌≢◌, inl, inr, ℕ, ◌+◌, ◌*◌, ◌^◌, ◌<◌, ◌≤◌, max, Option, Some, None, refl, sym, ap, ◌∙◌, arith}
use Rattle.std.specs.Prelude.{◌⊎◌, MatchOption, IsNone}
use Rattle.std.proofs.Math.Pow.{pow_mono}
use Rattle.std.proofs.lemmas.Nat.{pow-add}
use Rattle.std.proofs.lemmas.Bool.{cases_lt, cases_Bool}
use Rattle.intmap.specs.Classes.{IsCapacity}
use Rattle.intmap.specs.Growing.{IsEnough}
use Rattle.intmap.specs.Growth.{IsWanted, IsNext, is_due, NeedsTooMuch}
use Rattle.intmap.proofs.GrowthLemmas.{IsCapacity-max}
use Rattle.intmap.proofs.LoadFactorLemmas.{IsWanted-more}

-- D is a capacity, and C isn't greater
pub record IsLarger (C D : ℕ) : Type 0 where
  pub capacity : IsCapacity D
  pub more : C ≤ D

-- the capacity itself
IsLarger-same : (C D : ℕ) → IsCapacity C → D ≡ C → IsLarger C D
IsLarger-same C D cap same = record { capacity = rw same cap; more = omega (arith, same) }

-- a doubling up to 2^63 is a capacity
IsCapacity-doubled : (C j : ℕ) → IsCapacity C → C * 2 ^ j ≤ 2 ^ 63 → IsCapacity (C * 2 ^ j)
IsCapacity-doubled C j cap le =
    let e : ℕ = cap.0 in
    let first : 1 ≤ e = cap.1 in
    let is : C * 2 ^ j ≡ 2 ^ (e + j) = ap (λ c. c * 2 ^ j) cap.3 ∙ sym (pow-add 2 e j) in
    let top : e + j < 64 = elim (cases_lt (e + j) 64) [
      | inl lt ↦ lt
      | inr ge ↦ (let m : 2 ^ 64 ≤ 2 ^ (e + j) = pow_mono ge in absurd (omega (arith, m, is, le)))
    ] in
    (e + j, omega (arith, first), top, is)

-- a wanted capacity that isn't too much
pub IsLarger-wanted : (C n F D : ℕ) → IsCapacity C → IsWanted C n F D → D ≤ 2 ^ 63 → IsLarger C D
IsLarger-wanted C n F D cap wanted le =
    let is : D ≡ C * 2 ^ wanted.doubled.0 = wanted.doubled.1 in
    record {
      capacity = rw is (IsCapacity-doubled C wanted.doubled.0 cap (omega (arith, is, le)));
      more = IsWanted-more C n F D wanted;
    }

-- the capacity that follows a new key, if it isn't too much
IsLarger-next : (C n F D : ℕ) → IsCapacity C → IsNext C n F D → (NeedsTooMuch (IsNext C n F) → ⊥) → IsLarger C D
IsLarger-next C n F D cap next in_range = elim (cases_Bool (is_due n)) [
  | inl due ↦ IsLarger-wanted C n F D cap (rw due at next) (elim (cases_lt (2 ^ 63) D) [ inl lt ↦ absurd (in_range (D, next, lt)) | inr le ↦ le ])
  | inr not ↦ IsLarger-same C D cap (rw not at next)
]

-- the capacity after a key was inserted, if that was in range
pub IsLarger-after : {V : Type 0} (o : Option V) (C n F D : ℕ) → IsCapacity C → MatchOption o (IsNext C n F D) (λ _. D ≡ C) → (IsNone o × ((2 ^ 64 ≤ n) ⊎ NeedsTooMuch (IsNext C n F)) → ⊥) → IsLarger C D
IsLarger-after None C n F D cap next in_range = IsLarger-next C n F D cap next (λ much. in_range (refl, inr much))
IsLarger-after (Some v) C n F D cap same in_range = IsLarger-same C D cap same

-- if it changed, the key was new
pub IsCapacityAfter-changed : {V : Type 0} (o : Option V) (C n F D : ℕ) → MatchOption o (IsNext C n F D) (λ _. D ≡ C) → D ≢ C → (o ≡ None) × IsNext C n F D
IsCapacityAfter-changed None C n F D next apart = (refl, next)
IsCapacityAfter-changed (Some v) C n F D same apart = absurd (apart same)

-- the capacity that a reservation of n slots leaves, if that was in range
pub IsLarger-reserved : (C n D : ℕ) → IsCapacity C → IsEnough C n D → IsLarger C D
IsLarger-reserved C n D cap enough =
    let le : enough.power ≤ 2 ^ 63 = enough.least.least 63 enough.in_range in
    let is = enough.capacity in
    let turned : D ≡ max enough.power C = omega (arith, is) in
    record { capacity = rw turned (IsCapacity-max enough.power C enough.least.power (omega (arith, le)) cap); more = omega (arith, is) }
