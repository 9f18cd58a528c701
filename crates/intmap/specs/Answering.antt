-- Closures that are asked about pairs, or write their values, and answer alike in each call: each call leaves the closure as it was.
use Rattle.std.specs.Prelude.{◌≡◌, ℕ, Bool}
use Rattle.std.specs.Borrow.{Bor, MutBor}
use Rattle.std.specs.Fn.{Mut}
use Rattle.intmap_table.specs.Retaining.{KeepsAt}
use Rattle.intmap_table.specs.Writes.{WritesAt}

module _ {F K V : Type 0} (m : Mut F (K × (Bor V × Unit {0})) Bool) (f : F) where
  -- f returns the test of each pair
  abbrev pub TestsPairs : (K × V → Bool) → Type 0
  TestsPairs test = (p : K × V) (b : Bool) (g : F) → KeepsAt m f p b g → (b ≡ test p) × (g ≡ f)

  -- f returns b for a key with the number of k, whatever its value
  abbrev pub AnswersKey : (K → ℕ) → K → Bool → Type 0
  AnswersKey number k b = (p : K × V) (c : Bool) (g : F) → KeepsAt m f p c g → (number p.0 ≡ number k → c ≡ b) × (g ≡ f)

  -- f returns b for a key with the number of k that has the value v
  abbrev pub AnswersPair : (K → ℕ) → K → V → Bool → Type 0
  AnswersPair number k v b = (p : K × V) (c : Bool) (g : F) → KeepsAt m f p c g → (number p.0 ≡ number k → p.1 ≡ v → c ≡ b) × (g ≡ f)

module _ {F K V : Type 0} (m : Mut F (K × (MutBor V × Unit {0})) (Unit {0} × (MutBor V × Unit {0}))) (f : F) where
  -- f leaves of each pair what `made` makes of it
  abbrev pub MakesPairs : (K × V → K × V) → Type 0
  MakesPairs made = (p : K × V) (w : V) (g : F) → WritesAt m f p w g → (made p ≡ (p.0, w)) × (g ≡ f)

  -- f leaves the value w at a key with the number of k that has the value v
  abbrev pub MakesValue : (K → ℕ) → K → V → V → Type 0
  MakesValue number k v w = (p : K × V) (u : V) (g : F) → WritesAt m f p u g → (number p.0 ≡ number k → p.1 ≡ v → u ≡ w) × (g ≡ f)
