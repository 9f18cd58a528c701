-- Scopes of symbols, the innermost last.
use Rattle.std.specs.Prelude.{ℕ, ◌-◌, ℤ, List, length, take, Option, None, fold}
use Rattle.std.specs.Option.{option_or}
use Rattle.intmap.specs.Bindings.{value_of}
use Rattle.intmap.specs.Map.{MapState}

-- the value of a symbol in the innermost scope that defines it, or None if none does
abbrev pub value_in : List (MapState ℕ ℤ) → ℕ → Option ℤ
value_in scopes symbol = fold (λ value scope. option_or (value_of (λ key. key) scope.walk symbol) value) None scopes

-- the scopes around the innermost one
abbrev pub outer_scopes : List (MapState ℕ ℤ) → List (MapState ℕ ℤ)
outer_scopes scopes = take (length scopes - 1) scopes
