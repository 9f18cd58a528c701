-- What became of a value that a call took out and handed to a closure.
use Rattle.std.specs.Prelude.{Option, Result, Ok, Err, MatchOption}

module _ {R V : Type 0} where
  -- the closure, whose results `post` tells, returned what the call returns, and the value stays removed; or it returned a value, and that one was put back
  abbrev pub HandsOver : (Result R V → Type 0) → Option R → Type 0 → (V → Type 0) → Type 0
  HandsOver post result removed put_back = MatchOption result ((back : V) × post (Err back) × put_back back) (λ r. post (Ok r) × removed)
