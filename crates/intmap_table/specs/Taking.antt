-- What a closure must take that is called at each element of a list in turn.
use Rattle.std.specs.Prelude.{◌≡◌, List, [], ◌∷◌, ◌++◌}
use Rattle.std.proofs.Common.{subst}
use Rattle.std.specs.List.{FoldsTo}

module _ {F X Y : Type 0} (R : F → X → Y → F → Type 0) where
  -- R leads from f to g at x, whatever it returns
  abbrev pub Passes : F → X → F → Type 0
  Passes f x g = (y : Y) × R f x y g

  -- Q holds at each element of L, of f as R has left it at the elements before
  pub record TakesEach (Q : F → X → Type 0) (f : F) (L : List X) : Type 0 where
    pub at : (before after : List X) (x : X) (g : F) → L ≡ before ++ x ∷ after → FoldsTo Passes f before g → Q g x

  module _ (Q : F → X → Type 0) where
    -- how a caller shows it: `Own` holds of f and L, it gives Q at the first of the elements that are left, and it holds again behind R there
    pub TakesEach-from : (Own : F → List X → Type 0) → ((f : F) (x : X) (L : List X) → Own f (x ∷ L) → Q f x × ((y : Y) (g : F) → R f x y g → Own g L))
        → (f : F) (L : List X) → Own f L → TakesEach Q f L
    TakesEach-from Own each f L own = record { at = λ before after x g is passed. (each g x after (behind before (x ∷ after) f g (subst (Own f) is own) passed)).0 }
      where
        behind : (before left : List X) (f g : F) → Own f (before ++ left) → FoldsTo Passes f before g → Own g left
        behind [] left f g own passed = subst (λ h. Own h left) passed own
        behind (x ∷ before) left f g own passed = behind before left passed.0 g ((each f x (before ++ left) own).1 passed.1.0 passed.0 passed.1.1) passed.2
