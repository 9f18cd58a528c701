-- Runs, made of steps.
use Rattle.std.proofs.Common.{◌≡◌, ℕ, Bool, List, [], ◌∷◌, ◌++◌, refl, append_assoc, append-nil}
use Rattle.intmap.specs.Map.{MapState}
use Rattle.intmap_run.specs.declared.command.Command.{Command}
use Rattle.intmap_run.specs.declared.answer.Answer.{Answer}
use Rattle.intmap_run.specs.Runs.{RunsFrom}
use Rattle.intmap_run.specs.Steps.{StepsFrom}

module _ {K V S A : Type 0} (number : K → ℕ) (sees : V → S → Type 0) (keeps : K → V → Bool) where
  -- a step and a run from where it leads are a run
  RunsFrom-cons : (m n o : MapState K V) (c : Command K V A) (cs : List (Command K V A)) (a : Answer K V S A) (as' : List (Answer K V S A))
      → StepsFrom number sees keeps m c a n → RunsFrom number sees keeps n cs as' o → RunsFrom number sees keeps m (c ∷ cs) (a ∷ as') o
  RunsFrom-cons m n o c cs a as' step run s stands =
      let first = step s stands in
      let rest = run first.0 first.1.stands in (rest.0, (first.0, first.1.answers, rest.1), rest.2)

  -- each run over the commands that are left, from the map as it is now, ends a run over all of them from its start
  abbrev pub Leads : MapState K V → List (Command K V A) → List (Answer K V S A) → MapState K V → List (Command K V A) → Type 0
  Leads start all done now left =
      (more : List (Answer K V S A)) (end : MapState K V) → RunsFrom number sees keeps now left more end → RunsFrom number sees keeps start all (done ++ more) end

  -- before the first command
  pub Leads-start : (start : MapState K V) (all left : List (Command K V A)) (done : List (Answer K V S A)) → left ≡ all → done ≡ [] → Leads start all done start left
  Leads-start start all left done whole none more end run = rw none (rw whole at run)

  -- after one more command
  pub Leads-step : (start now next : MapState K V) (all left after : List (Command K V A)) (done new : List (Answer K V S A)) (c : Command K V A) (a : Answer K V S A)
      → left ≡ c ∷ after → new ≡ done ++ a ∷ [] → StepsFrom number sees keeps now c a next → Leads start all done now left → Leads start all new next after
  Leads-step start now next all left after done new c a taken pushed step leads more end run =
      let whole : RunsFrom number sees keeps now left (a ∷ more) end = rw taken (RunsFrom-cons now next end c after a more step run) in
      rw (pushed, append_assoc) (leads (a ∷ more) end whole)

  -- after the last command
  pub Leads-end : (start now : MapState K V) (all left : List (Command K V A)) (done : List (Answer K V S A)) → left ≡ [] → Leads start all done now left → RunsFrom number sees keeps start all done now
  Leads-end start now all left done none leads =
      let nothing : RunsFrom {A = A} number sees keeps now [] [] now = λ s stands. (s, refl, stands) in
      let rest : RunsFrom {A = A} number sees keeps now left [] now = rw none nothing in
      rw append-nil at (leads [] now rest)
