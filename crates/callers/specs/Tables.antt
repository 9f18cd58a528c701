-- What callers say of the structs around maps.
use Rattle.std.specs.Prelude.{◌<◌, ◌≡◌, ◌≤◌, All, IsSome, List, None, Option, Some, ℕ, is_some, length, true}
use Rattle.intmap.specs.Unsigned.{value_at}
use Rattle.callers.specs.declared.tables.NotAdded.{NotAdded}
use Rattle.callers.specs.declared.tables.NotAdded.TheVariants.{Refused, Taken}

module _ {V : Type 0} where
  -- the id has a value
  abbrev pub IsTaken : NotAdded V → Type 0
  IsTaken (Taken v) = Unit {0}
  IsTaken (Refused refused) = ⊥

  -- the value comes back
  abbrev pub GivesBack : V → NotAdded V → Type 0
  GivesBack value (Taken v) = v ≡ value
  GivesBack value (Refused refused) = refused.value ≡ value

-- the keys of the pairs are the numbers below the number of pairs, and each pair has a slot of its own among C
pub record IsDense {V : Type 0} (W : List (ℕ × V)) (C : ℕ) : Type 0 where
  pub room : length W ≤ C
  pub below : All (λ p. p.0 < C) W
  pub given : (n : ℕ) → n < length W → IsSome (value_at W n)
  pub not_given : (n : ℕ) → length W ≤ n → value_at W n ≡ None

-- the two maps of an interner: from codes to ids, and from ids to codes
pub record Interned : Type 0 where
  pub ids : List (ℕ × ℕ)
  pub codes : List (ℕ × ℕ)

-- the code of each id leads back to it, and so does the id of each code; the ids are the numbers below n
pub record AreInverse (ids codes : ℕ → Option ℕ) (n : ℕ) : Type 0 where
  pub there : (code id : ℕ) → ids code ≡ Some id → codes id ≡ Some code
  pub back : (code id : ℕ) → codes id ≡ Some code → ids code ≡ Some id
  pub used : (id : ℕ) → id < n → is_some (codes id) ≡ true
  pub free : (id : ℕ) → n ≤ id → codes id ≡ None
