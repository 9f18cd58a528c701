-- A text as lines, and a line as words.
use Rattle.std.specs.Prelude.{ℕ, List, [], ◌∷◌, Option, Some, None, Bool, true, false, filter, map, ◌==◌}
use Rattle.std.specs.Borrow.{Bor}
use Rattle.std.specs.List.{slice_split}
use Rattle.std.specs.Str.Lines.{strip_carriage_return}

-- the list has an element
abbrev pub is_filled : {X : Type 0} → List X → Bool
is_filled [] = false
is_filled (x ∷ xs) = true

-- the lines of a text, which end at bytes 10
abbrev pub lines_in : List ℕ → List (List ℕ)
lines_in text = slice_split (λ b. b == 10) text

-- the lines of what is left of a text
abbrev pub lines_left : Option (Bor (List ℕ)) → List (List ℕ)
lines_left None = []
lines_left (Some rest) = lines_in rest.now

-- the parts of a text between bytes 32, without the empty ones
abbrev pub words_in : List ℕ → List (List ℕ)
words_in text = filter is_filled (slice_split (λ b. b == 32) text)

-- the words of a line; a byte 13 at its end is part of none
abbrev pub words_of : List ℕ → List (List ℕ)
words_of line = words_in (strip_carriage_return line)

-- the words of each line that has one
abbrev pub rows_of : List (List ℕ) → List (List (List ℕ))
rows_of lines = filter is_filled (map words_of lines)
