-- The runs of an iterator that is seen as the list of what is left.
use Rattle.std.proofs.Common.{ap, length}
use Rattle.std.specs.Iterator.{YieldsFirstBy}
use Rattle.std.proofs.iter.runs.Sources.{as_is, from_front}
use Rattle.intmap.specs.Iterating.{GivesEach, ShowsEach}

pub shows_each : {A X : Type 0} (shows : A → X) → ShowsEach shows
shows_each shows = from_front (YieldsFirstBy shows (λ rest. rest)) shows (λ rest. rest) (λ s t h. ap length h.0) (λ s x t h. h)

pub gives_each : (X : Type 0) → GivesEach X
gives_each X p seen = as_is p p.from (shows_each (λ (x : X). x) p seen)
