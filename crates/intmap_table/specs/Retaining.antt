-- What stays of pairs if a closure is asked about each in turn.
use Rattle.std.specs.Prelude.{◌≡◌, Bool, cond, List, [], ◌∷◌}
use Rattle.std.specs.Fn.{Called, Mut, Takes}
use Rattle.std.specs.Borrow.{Bor}

-- a call of f at the key of p and a `&` to its value returned b and left g
pub record KeepsAt {F K V : Type 0} (m : Mut F (K × (Bor V × Unit {0})) Bool) (f : F) (p : K × V) (b : Bool) (g : F) : Type 0 where
  pub key : K
  pub value : Bor V
  pub shows : (key ≡ p.0) × (value.now ≡ p.1)
  pub called : Called m f (key, (value, tt)) b g

-- f may be called at the key of p and a `&` to its value
abbrev pub TakesPair : {F K V : Type 0} → Mut F (K × (Bor V × Unit {0})) Bool → F → K × V → Type 0
TakesPair {V = V} m f p = (value : Bor V) → value.now ≡ p.1 → Takes m f (p.0, (value, tt))

module _ {F X : Type 0} where
  -- R went over the elements of L in turn from f to g, and M has those for which it returned true, in their order
  abbrev pub Retains : (F → X → Bool → F → Type 0) → F → List X → List X → F → Type 0
  Retains R f [] M g = (M ≡ []) × (f ≡ g)
  Retains R f (x ∷ L) M g = (b : Bool) × (h : F) × (N : List X) × R f x b h × Retains R h L N g × (M ≡ cond b (x ∷ N) N)

module _ {S X : Type 0} (next : S → X → S) where
  -- the state behind all elements, each of which changes it
  abbrev pub state_after : S → List X → S
  state_after s [] = s
  state_after s (x ∷ L) = state_after (next s x) L

module _ {S X : Type 0} (says : S → X → Bool) (next : S → X → S) where
  -- the elements for which a test with a state returns true; each element changes the state
  abbrev pub kept_from : S → List X → List X
  kept_from s [] = []
  kept_from s (x ∷ L) = cond (says s x) (x ∷ kept_from (next s x) L) (kept_from (next s x) L)
