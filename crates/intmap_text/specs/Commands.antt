-- Which commands a text spells. The vectors of commands are made over A.
use Rattle.std.specs.Prelude.{◌≡◌, ◌≢◌, ◌⊎◌, ℕ, ◌+◌, ◌^◌, ◌<◌, List, [], ◌∷◌, ◌++◌, length, All}
use Rattle.std.specs.List.{AllZip}
use Rattle.std.specs.Fmt.{decimal}
use Rattle.intmap_run.specs.declared.command.Command.{Command}
use Rattle.intmap_text.specs.Lines.{lines_in, words_of, rows_of}
use Rattle.intmap_text.specs.Words.{name_of, numbers_of}

-- the word is the decimal text of a number below 2^64
abbrev pub IsNumeral : List ℕ → ℕ → Type 0
IsNumeral word n = (word ≡ decimal n) × (n < 2 ^ 64)

-- the words are the name of the command, and one word for each of its numbers
abbrev pub Says : {A : Type 0} → List (List ℕ) → Command ℕ ℕ A → Type 0
Says [] c = ⊥
Says (name ∷ words) c = (name ≡ name_of c) × AllZip IsNumeral words (numbers_of c)

-- the lines of the text that have a word say these commands, one on each line
abbrev pub Spells : {A : Type 0} → List ℕ → List (Command ℕ ℕ A) → Type 0
Spells text commands = AllZip Says (rows_of (lines_in text)) commands

-- there are words, but they say no command
abbrev pub IsUnknown : Type 0 → List (List ℕ) → Type 0
IsUnknown A words = (words ≢ []) × ((c : Command ℕ ℕ A) → ¬ Says words c)

-- there is no word, or the words say a command
abbrev pub IsKnown : Type 0 → List (List ℕ) → Type 0
IsKnown A words = (words ≡ []) ⊎ ((c : Command ℕ ℕ A) × Says words c)

-- line n of the text, counted from 1, is the first that has words which say no command
pub record IsFirstUnknown (A : Type 0) (text : List ℕ) (n : ℕ) : Type 0 where
  pub before : List (List ℕ)
  pub line : List ℕ
  pub after : List (List ℕ)
  pub lines : lines_in text ≡ before ++ line ∷ after
  pub number : n ≡ length before + 1
  pub known : All (λ l. IsKnown A (words_of l)) before
  pub unknown : IsUnknown A (words_of line)

-- the text spells no list of commands
abbrev pub SpellsNone : Type 0 → List ℕ → Type 0
SpellsNone A text = (commands : List (Command ℕ ℕ A)) → Spells text commands → ⊥
