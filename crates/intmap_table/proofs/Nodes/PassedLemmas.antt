-- Searches of a list whose rest is left.
use Rattle.std.proofs.Common.{◌≡◌, ℕ, ◌+◌, Bool, true, false, List, [], ◌∷◌, length, Some, None, arith}
use Rattle.std.specs.Prelude.{position}
use Rattle.std.specs.List.{position_or_len}
use Rattle.std.proofs.lemmas.Bool.{lt-ltb, le-ltb}
use Rattle.intmap_table.specs.Reach.{through_first}

module _ {X : Type 0} (test : X → Bool) where
  -- none of the first i elements passes, and these are left
  pub record Passed (xs : List X) (i : ℕ) (left : List X) : Type 0 where
    pub place : position_or_len test xs ≡ i + position_or_len test left
    pub reached : length (through_first test xs) ≡ i + length (through_first test left)
    pub len : length xs ≡ i + length left

  pub Passed-start : (xs : List X) → Passed xs 0 xs
  Passed-start xs = record { place = omega arith; reached = omega arith; len = omega arith }

  pub Passed-next : (xs : List X) (i : ℕ) (left : List X) (x : X) (more : List X) → Passed xs i left → left ≡ x ∷ more → test x ≡ false → Passed xs (i + 1) more
  Passed-next xs i left x more h is fails = record {
    place = (let a = rw (is, fails) at h.place in omega (arith, a));
    reached = (let b = rw (is, fails) at h.reached in omega (arith, b));
    len = (let d = rw is at h.len in omega (arith, d));
  }

  pub position-found : (xs : List X) (i : ℕ) (left : List X) (x : X) (more : List X) → Passed xs i left → left ≡ x ∷ more → test x ≡ true → position test xs ≡ Some i
  position-found xs i left x more h is passes =
      let a = rw (is, passes) at h.place in
      let d = rw is at h.len in
      let e : position_or_len test xs ≡ i = omega (arith, a) in simp (e, lt-ltb i (length xs) (omega (arith, d)))

  pub reached-found : (xs : List X) (i : ℕ) (left : List X) (x : X) (more : List X) → Passed xs i left → left ≡ x ∷ more → test x ≡ true → length (through_first test xs) ≡ i + 1
  reached-found xs i left x more h is passes = let b = rw (is, passes) at h.reached in omega (arith, b)

  pub position-none : (xs : List X) (i : ℕ) (left : List X) → Passed xs i left → left ≡ [] → position test xs ≡ None
  position-none xs i left h none =
      let a = rw none at h.place in
      let d = rw none at h.len in
      let e : position_or_len test xs ≡ i + 0 = omega (arith, a) in simp (e, le-ltb (i + 0) (length xs) (omega (arith, d)))

  pub reached-none : (xs : List X) (i : ℕ) (left : List X) → Passed xs i left → left ≡ [] → length (through_first test xs) ≡ i
  reached-none xs i left h none = let b = rw none at h.reached in omega (arith, b)
