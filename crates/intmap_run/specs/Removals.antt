-- What a removal leaves of a list of pairs, said without a recursion.
use Rattle.std.specs.Prelude.{◌≡◌, ◌≢◌, ◌⊎◌, ℕ, All, List, ◌∷◌, ◌++◌}
use Rattle.intmap.specs.Classes.{residue}

module _ {K V : Type 0} (number : K → ℕ) where
  -- none of the pairs has the key k
  abbrev pub NoneHas : List (K × V) → K → Type 0
  NoneHas L k = All (λ p. number p.0 ≢ number k) L

  -- none of the pairs has a key that agrees with k modulo C
  abbrev pub NoneAgrees : List (K × V) → ℕ → K → Type 0
  NoneAgrees L C k = All (λ p. residue number p.0 C ≢ residue number k C) L

  -- M is what a pair leaves that stood between these: if no key behind it agrees with k, nothing moves; else the last pair whose
  -- key does takes its place
  abbrev pub FillsHole : List (K × V) → List (K × V) → ℕ → K → List (K × V) → Type 0
  FillsHole before behind C k M =
      (NoneAgrees behind C k × (M ≡ before ++ behind))
      ⊎ ((front : List (K × V)) × (last : K × V) × (rest : List (K × V))
      × (behind ≡ front ++ last ∷ rest) × (residue number last.0 C ≡ residue number k C) × NoneAgrees rest C k
      × (M ≡ before ++ last ∷ (front ++ rest)))

  -- M is L without its first pair of the key k, if there is one, whose hole is filled
  abbrev pub Takes : List (K × V) → ℕ → K → List (K × V) → Type 0
  Takes L C k M =
      (NoneHas L k × (M ≡ L))
      ⊎ ((before : List (K × V)) × (x : K × V) × (behind : List (K × V))
      × (L ≡ before ++ x ∷ behind) × NoneHas before k × (number x.0 ≡ number k) × FillsHole before behind C k M)
