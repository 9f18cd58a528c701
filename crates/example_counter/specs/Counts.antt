-- Counts of numbers.
use Rattle.std.specs.Prelude.{ℕ, List, unwrap_or}
use Rattle.intmap.specs.Bindings.{value_of}

-- the count of a number: its value, or 0 if it is absent
abbrev pub count_of : List (ℕ × ℕ) → ℕ → ℕ
count_of pairs number = unwrap_or (value_of (λ key. key) pairs number) 0
