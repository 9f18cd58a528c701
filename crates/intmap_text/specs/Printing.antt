-- The lines of answers.
use Rattle.std.specs.Prelude.{ℕ, true, false, List, [], ◌∷◌, ◌++◌, Option, Some, None, codes}
use Rattle.std.specs.List.{flat_map, join_by}
use Rattle.std.specs.Fmt.{decimal}
use Rattle.intmap.specs.declared.refusal.Cause.{Cause}
use Rattle.intmap.specs.declared.refusal.Cause.TheVariants as cause
use Rattle.intmap.specs.declared.refusal.RefusedPair.{RefusedPair}
use Rattle.intmap_run.specs.declared.answer.Answer.{Answer}
use Rattle.intmap_run.specs.declared.answer.Answer.TheVariants as answer

-- the words for the cause of a failed command
abbrev pub cause_text : Cause → List ℕ
cause_text cause.Memory = codes "memory"
cause_text cause.TooLarge = codes "too large"

-- the cause of a failed command, behind the value that the command returns
abbrev pub refusal_text : Cause → Option ℕ → List ℕ
refusal_text cause None = codes "refused: " ++ cause_text cause
refusal_text cause (Some v) = codes "refused " ++ decimal v ++ codes ": " ++ cause_text cause

-- a key and its value
abbrev pub pair_text : ℕ × ℕ → List ℕ
pair_text p = decimal p.0 ++ codes ": " ++ decimal p.1

-- pairs in braces, in their order, with a comma and a space between them
abbrev pub pairs_text : List (ℕ × ℕ) → List ℕ
pairs_text pairs = codes "{" ++ join_by pair_text (codes ", ") pairs ++ codes "}"

-- numbers in brackets, in their order, with a comma and a space between them
abbrev pub numbers_text : List ℕ → List ℕ
numbers_text numbers = codes "[" ++ join_by decimal (codes ", ") numbers ++ codes "]"

-- the first of several pairs that failed, behind the number of those before it, and why it failed
abbrev pub stopped_text : RefusedPair ℕ ℕ → List ℕ
stopped_text refused =
    codes "stopped at " ++ decimal refused.key ++ codes " " ++ decimal refused.value
    ++ codes " after " ++ decimal refused.applied ++ codes ": " ++ cause_text refused.cause

-- an answer, without the end of its line
abbrev pub answer_text : {A : Type 0} → Answer ℕ ℕ ℕ A → List ℕ
answer_text (answer.Old None) = codes "none"
answer_text (answer.Old (Some v)) = codes "some " ++ decimal v
answer_text (answer.Seen None) = codes "none"
answer_text (answer.Seen (Some v)) = codes "some " ++ decimal v
answer_text (answer.Back v) = codes "back " ++ decimal v
answer_text answer.Fresh = codes "fresh"
answer_text answer.Done = codes "done"
answer_text (answer.Flag true) = codes "true"
answer_text (answer.Flag false) = codes "false"
answer_text (answer.Number n) = decimal n
answer_text (answer.Walk pairs) = pairs_text pairs.items
answer_text (answer.Keys keys) = numbers_text keys.items
answer_text (answer.Values values) = numbers_text values.items
answer_text (answer.Pairs pairs) = pairs_text pairs.items
answer_text (answer.Sizes sizes) = pairs_text sizes.items
answer_text (answer.Stopped refused) = stopped_text refused
answer_text (answer.Refused cause value) = refusal_text cause value

-- one line for each answer, ended by a byte 10
abbrev pub lines_of : {A : Type 0} → List (Answer ℕ ℕ ℕ A) → List ℕ
lines_of answers = flat_map (λ a. answer_text a ++ 10 ∷ []) answers
