-- What is written for a text.
use Rattle.std.specs.Prelude.{◌≡◌, ℕ, ◌%◌, ◌==◌, List, Option}
use Rattle.std.specs.Io.KnownBytes.{Appends}
use Rattle.intmap.specs.Map.{first_capacity}
use Rattle.intmap.specs.PlainLists.{PlainList, empty_list}
use Rattle.intmap_run.specs.declared.command.Command.{Command}
use Rattle.intmap_run.specs.declared.answer.Answer.{Answer}
use Rattle.intmap_run.specs.Runs.{Runs}
use Rattle.intmap_text.specs.Commands.{Spells}
use Rattle.intmap_text.specs.Printing.{lines_of}

-- beginning with no pairs in 4 slots, the commands may give these answers and leave this list;
-- a value is seen as itself, and odd values are kept
abbrev pub RunsFromEmpty : {A : Type 0} → List (Command ℕ ℕ A) → List (Answer ℕ ℕ ℕ A)
    → PlainList ℕ ℕ → Type 0
RunsFromEmpty commands answers end =
    Runs (λ k. k) (λ v s. s ≡ v) (λ k v. (v % 2) == 1) (empty_list first_capacity) commands answers end

-- the text spells commands, and the lines are those of the answers of a run of them;
-- the vectors of both are made over A
abbrev pub IsAnswered : Type 0 → List ℕ → List ℕ → Type 0
IsAnswered A text lines =
    (commands : List (Command ℕ ℕ A)) × (answers : List (Answer ℕ ℕ ℕ A)) × (end : PlainList ℕ ℕ)
    × Spells text commands × RunsFromEmpty commands answers end × (lines ≡ lines_of answers)

-- the known bytes of an output grow by exactly the lines of the answers to the text
abbrev pub Serves : Type 0 → List ℕ → Option (List ℕ) → Option (List ℕ) → Type 0
Serves A text old new = (lines : List ℕ) × IsAnswered A text lines × Appends old new lines
