-- What values are once a closure was called at each pair in turn.
use Rattle.std.specs.Prelude.{◌≡◌, List, [], ◌∷◌}
use Rattle.std.specs.Fn.{Called, Mut, Takes}
use Rattle.std.specs.Borrow.{MutBor}

-- a call of f at the key of p and a `&mut` to its value returned y, and left w there and g of the closure
pub record CallsAt {F K V Y : Type 0} (m : Mut F (K × (MutBor V × Unit {0})) (Y × (MutBor V × Unit {0}))) (f : F) (p : K × V) (y : Y) (w : V) (g : F) : Type 0 where
  pub key : K
  pub value : MutBor V
  pub shows : (key ≡ p.0) × (value.now ≡ p.1)
  pub left : MutBor V
  pub leaves : left.now ≡ w
  pub called : Called m f (key, (value, tt)) (y, (left, tt)) g

-- a call of f at the key of p and a `&mut` to its value returned nothing, and left w there and g of the closure
abbrev pub WritesAt : {F K V : Type 0} → Mut F (K × (MutBor V × Unit {0})) (Unit {0} × (MutBor V × Unit {0})) → F → K × V → V → F → Type 0
WritesAt m f p w g = CallsAt m f p tt w g

-- f may be called at the key of p and a `&mut` to its value
abbrev pub TakesPairMut : {F K V Y : Type 0} → Mut F (K × (MutBor V × Unit {0})) (Y × (MutBor V × Unit {0})) → F → K × V → Type 0
TakesPairMut {V = V} m f p = (value : MutBor V) → value.now ≡ p.1 → Takes m f (p.0, (value, tt))

module _ {F K V : Type 0} where
  -- R went over the pairs of L in turn from f to g, and M has their keys, in their order, each with the value that R left there
  abbrev pub Writes : (F → K × V → V → F → Type 0) → F → List (K × V) → List (K × V) → F → Type 0
  Writes R f [] M g = (M ≡ []) × (f ≡ g)
  Writes R f (p ∷ L) M g = (w : V) × (h : F) × (N : List (K × V)) × R f p w h × Writes R h L N g × (M ≡ (p.0, w) ∷ N)

module _ {S K V : Type 0} (value : S → K × V → V) (next : S → K × V → S) where
  -- the pairs with values that are made of the old ones and of a state, which each pair changes
  abbrev pub written_from : S → List (K × V) → List (K × V)
  written_from s [] = []
  written_from s (p ∷ L) = (p.0, value s p) ∷ written_from (next s p) L
