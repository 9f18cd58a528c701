-- Two lists whose elements go together in order, the second made from the front.
use Rattle.std.proofs.Common.{◌≡◌, List, [], ◌∷◌, ◌++◌, append_assoc, append-nil}
use Rattle.std.specs.List.{AllZip}

module _ {X Y : Type 0} (R : X → Y → Type 0) where
  -- whatever goes with the elements that are left ends what goes with all of them
  abbrev pub Completes : List X → List Y → List X → Type 0
  Completes all done left = (more : List Y) → AllZip R left more → AllZip R all (done ++ more)

  -- before the first element
  pub Completes-start : (all left : List X) (done : List Y) → left ≡ all → done ≡ [] → Completes all done left
  Completes-start all left done whole none more zip = rw none (rw whole at zip)

  -- after one more element
  pub Completes-step : (all left after : List X) (done new : List Y) (x : X) (y : Y)
      → left ≡ x ∷ after → new ≡ done ++ y ∷ [] → R x y → Completes all done left → Completes all new after
  Completes-step all left after done new x y taken pushed goes completes more zip =
      let whole : AllZip R left (y ∷ more) = rw taken (goes, zip) in rw (pushed, append_assoc) (completes (y ∷ more) whole)

  -- after the last element
  pub Completes-end : (all left : List X) (done : List Y) → left ≡ [] → Completes all done left → AllZip R all done
  Completes-end all left done none completes = let rest : AllZip R left [] = rw none tt in rw append-nil at (completes [] rest)
