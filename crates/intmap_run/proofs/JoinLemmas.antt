-- Two runs, one after the other, as one.
use Rattle.std.proofs.Common.{ℕ, Bool, List, [], ◌∷◌, ◌++◌, subst}
use Rattle.intmap.specs.Map.{MapState}
use Rattle.intmap.specs.PlainLists.{PlainList}
use Rattle.intmap_run.specs.declared.command.Command.{Command}
use Rattle.intmap_run.specs.declared.answer.Answer.{Answer}
use Rattle.intmap_run.specs.Runs.{Runs, RunsFrom}

module _ {K V S A : Type 0} (number : K → ℕ) (sees : V → S → Type 0) (keeps : K → V → Bool) where
  -- a run and another from where it leads
  pub joined : (s : PlainList K V) (cs ds : List (Command K V A)) (as' bs : List (Answer K V S A)) (t u : PlainList K V)
      → Runs number sees keeps s cs as' t → Runs number sees keeps t ds bs u → Runs number sees keeps s (cs ++ ds) (as' ++ bs) u
  joined s [] ds [] bs t u one other = subst (λ x. Runs number sees keeps x ds bs u) one other
  joined s [] ds (a ∷ as') bs t u one other = absurd one
  joined s (c ∷ cs) ds [] bs t u one other = absurd one
  joined s (c ∷ cs) ds (a ∷ as') bs t u one other = (one.0, one.1, joined one.0 cs ds as' bs t u one.2 other)

  -- two runs of a map, one after the other, are one run
  pub RunsFrom-join : (m n o : MapState K V) (cs ds : List (Command K V A)) (as' bs : List (Answer K V S A))
      → RunsFrom number sees keeps m cs as' n → RunsFrom number sees keeps n ds bs o → RunsFrom number sees keeps m (cs ++ ds) (as' ++ bs) o
  RunsFrom-join m n o cs ds as' bs one other s stands =
      let first = one s stands in
      let second = other first.0 first.2 in
      (second.0, joined s cs ds as' bs first.0 second.0 first.1 second.1, second.2)
