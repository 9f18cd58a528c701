-- Maps of unsigned keys, each of which is its own number.
use Rattle.std.specs.Prelude.{ℕ, List, Option, unwrap_or}
use Rattle.intmap_table.specs.Bindings.{value_of}

-- the value of a number, or None if it is absent
abbrev pub value_at : {V : Type 0} → List (ℕ × V) → ℕ → Option V
value_at L n = value_of (λ key. key) L n

-- the count of a number: its value, or 0 if it is absent
abbrev pub count_at : List (ℕ × ℕ) → ℕ → ℕ
count_at L n = unwrap_or (value_at L n) 0
