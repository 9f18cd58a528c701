-- What a run from a new map answers to a text.
use Rattle.std.proofs.Common.{◌≡◌, ℕ, ◌%◌, ◌==◌, List, refl, sym, subst}
use Rattle.intmap.specs.Map.{MapState, empty_map}
use Rattle.intmap.specs.PlainLists.{Stands, empty_list}
use Rattle.intmap_run.specs.declared.command.Command.{Command}
use Rattle.intmap_run.specs.declared.answer.Answer.{Answer}
use Rattle.intmap_run.specs.Runs.{RunsFrom}
use Rattle.intmap_text.specs.Commands.{Spells}
use Rattle.intmap_text.specs.Printing.{lines_of}
use Rattle.intmap_text.specs.Serving.{IsAnswered}

-- no pairs in 4 slots stand for a new map
empty_stands : Stands {K = ℕ} {V = ℕ} (λ k. k) (empty_list 4) (empty_map 4)
empty_stands = record { walk = refl; capacity = refl; factor = refl; placed = refl; compared = refl }

-- the lines of the answers of a run from a new map, over the commands that a text spells
pub is_answered : {A : Type 0} (text : List ℕ) (commands : List (Command ℕ ℕ A))
    (answers : List (Answer ℕ ℕ ℕ A)) (lines : List ℕ) (map new : MapState ℕ ℕ)
    → Spells text commands → map ≡ empty_map 4
    → RunsFrom (λ k. k) (λ v s. s ≡ v) (λ k v. (v % 2) == 1) map commands answers new
    → lines ≡ lines_of answers → IsAnswered A text lines
is_answered text commands answers lines map new spelled is ran printed =
    let stands = subst (Stands (λ k. k) (empty_list 4)) (sym is) empty_stands in
    let run = ran (empty_list 4) stands in
    (commands, answers, run.0, spelled, run.1, printed)
