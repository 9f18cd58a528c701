-- What words and lines are read as.
use Rattle.std.specs.Prelude.{◌≡◌, ℕ, List, [], ◌∷◌}
use Rattle.intmap_text.specs.declared.command.Numbers.{Numbers}
use Rattle.intmap_text.specs.declared.command.Numbers.TheVariants as numbers
use Rattle.intmap_text.specs.declared.line.Line.{Line}
use Rattle.intmap_text.specs.declared.line.Line.TheVariants as line
use Rattle.intmap_text.specs.Commands.{Says, IsUnknown}

-- the numbers behind a name, in order
abbrev pub numbers_in : Numbers → List ℕ
numbers_in numbers.Empty = []
numbers_in (numbers.One first) = first ∷ []
numbers_in (numbers.Two first second) = first ∷ second ∷ []

-- a line of these words is blank, says this command, or has words but says none
abbrev pub Reads : {A : Type 0} → List (List ℕ) → Line A → Type 0
Reads words line.Blank = words ≡ []
Reads words (line.Command c) = Says words c
Reads {A} words line.Unknown = IsUnknown A words
