-- Two runs in a row.
use Rattle.std.specs.Prelude.{◌≡◌, ℕ, Bool, List}
use Rattle.std.specs.declared.vec.Vec.{Vec}
use Rattle.intmap.specs.Map.{MapState}
use Rattle.intmap.specs.PlainLists.{PlainList, Stands}
use Rattle.intmap_run.specs.declared.command.Command.{Command}
use Rattle.intmap_run.specs.declared.answer.Answer.{Answer}
use Rattle.intmap_run.specs.Runs.{Runs, RunsFrom}
use Rattle.callers_above.specs.declared.session.Stopped.{Stopped}
use Rattle.callers_above.specs.declared.session.Stopped.TheVariants.{First, Second}

module _ {K V S A : Type 0} (number : K → ℕ) (sees : V → S → Type 0) (keeps : K → V → Bool) where
  -- from every list that stands for the map m, the first commands and answers lead to a list, and the second on from there to
  -- one that stands for the map n
  abbrev pub RunsTwice : MapState K V → List (Command K V A) → List (Answer K V S A) → List (Command K V A) → List (Answer K V S A) → MapState K V → Type 0
  RunsTwice m cs as' ds bs n =
      (s : PlainList K V) → Stands number s m
      → (between : PlainList K V) × (t : PlainList K V)
      × Runs number sees keeps s cs as' between × Runs number sees keeps between ds bs t × Stands number t n

  -- what comes back from two runs that stopped, and what is left of the map
  abbrev pub Stops : MapState K V → Vec (Command K V A) A → Vec (Command K V A) A → MapState K V → Stopped K V S A → Type 0
  Stops m first second n (First one two) = (one ≡ first) × (two ≡ second) × (n ≡ m)
  Stops m first second n (Second answers two) = RunsFrom number sees keeps m first.items answers.items n × (two ≡ second)
