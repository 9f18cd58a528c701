-- What iterators over a map give: each run of `next` gives what was left, in order.
use Rattle.std.specs.Prelude.{List}
use Rattle.std.specs.Borrow.{Bor}
use Rattle.std.specs.Iterator.{YieldsFirst, YieldsFirstBy}
use Rattle.std.specs.Iterator.Runs.{EveryRun, ItemsMapTo, YieldsInOrder}

-- what a `&` shows
abbrev pub shown : {X : Type 0} → Bor X → X
shown item = item.now

-- what a pair of two `&` shows
abbrev pub shown_pair : {K V : Type 0} → Bor K × Bor V → K × V
shown_pair item = (item.0.now, item.1.now)

-- an iterator that is seen as the list of what is left shows its elements, in order
abbrev pub ShowsEach : {A X : Type 0} → (A → X) → Type 0
ShowsEach shows = EveryRun (YieldsFirstBy shows (λ rest. rest)) (λ p. ItemsMapTo p shows p.from)

-- the same of an iterator that gives the elements themselves
abbrev pub GivesEach : Type 0 → Type 0
GivesEach X = YieldsInOrder (YieldsFirst {S = List X} {A = X} (λ rest. rest)) (λ rest. rest)
