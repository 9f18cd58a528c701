-- What a closure returns that is asked about each member in turn.
use Rattle.std.specs.Prelude.{◌≡◌, ℕ, Bool}
use Rattle.std.specs.Fn.{Called, Mut, Takes}

module _ {F K : Type 0} (m : Mut F (K × Unit {0}) Bool) where
  -- a call of f at k returned b and left g
  abbrev pub KeepsKey : F → K → Bool → F → Type 0
  KeepsKey f k b g = Called m f (k, tt) b g

  -- the same, with what is left of the key, as it was
  abbrev pub PicksKey : F → K → Bool → F → K → Type 0
  PicksKey f k b g j = (j ≡ k) × KeepsKey f k b g

  -- f may be called at k
  abbrev pub TakesKey : F → K → Type 0
  TakesKey f k = Takes m f (k, tt)

  -- each call of f returns the test of its key, and leaves f as it was
  abbrev pub TestsKeys : F → (K → Bool) → Type 0
  TestsKeys f test = (k : K) (b : Bool) (g : F) → KeepsKey f k b g → (b ≡ test k) × (g ≡ f)

  -- each call of f leaves f as it was, and returns b for a key with the number of q
  abbrev pub AnswersMember : F → (K → ℕ) → K → Bool → Type 0
  AnswersMember f number q b = (k : K) (c : Bool) (g : F) → KeepsKey f k c g → (number k ≡ number q → c ≡ b) × (g ≡ f)
