-- What a closure takes that is called at each element of a list in turn.
use Rattle.std.proofs.Common.{List, [], ◌∷◌, ◌++◌, refl, ap, ◌∙◌, subst, append_assoc}
use Rattle.std.specs.List.{FoldsTo}
use Rattle.intmap_table.specs.Taking.{Passes, TakesEach}

module _ {F X Y : Type 0} (R : F → X → Y → F → Type 0) (Q : F → X → Type 0) where
  -- it takes the first one
  pub TakesEach-first : (f : F) (x : X) (L : List X) → TakesEach R Q f (x ∷ L) → Q f x
  TakesEach-first f x L takes = takes.at [] L x f refl refl

  -- and behind the call there the others
  pub TakesEach-next : (f g : F) (x : X) (y : Y) (L : List X) → TakesEach R Q f (x ∷ L) → R f x y g → TakesEach R Q g L
  TakesEach-next f g x y L takes call = record { at = λ before after z h is passed. takes.at (x ∷ before) after z h (ap (λ Z. x ∷ Z) is) (g, (y, call), passed) }

  -- it takes each of the front
  pub TakesEach-front : (f : F) (L L' : List X) → TakesEach R Q f (L ++ L') → TakesEach R Q f L
  TakesEach-front f L L' takes = record { at = λ before after x g is passed. takes.at before (after ++ L') x g (ap (λ Z. Z ++ L') is ∙ append_assoc before (x ∷ after) L') passed }

  -- and behind the calls there each of the rest
  pub TakesEach-behind : (f g : F) (L L' : List X) → TakesEach R Q f (L ++ L') → FoldsTo (Passes R) f L g → TakesEach R Q g L'
  TakesEach-behind f g [] L' takes passed = subst (λ h. TakesEach R Q h L') passed takes
  TakesEach-behind f g (x ∷ L) L' takes passed = TakesEach-behind passed.0 g L L' (TakesEach-next f passed.0 x passed.1.0 (L ++ L') takes passed.1.1) passed.2
