-- What stays of pairs if each has a bit in a word of 64: the lowest bit is that of the first pair.
use Rattle.std.specs.Prelude.{ℕ, ◌/◌, ◌%◌, ◌==◌, List, not, take, drop}
use Rattle.intmap_table.specs.Picking.{pairs_before}
use Rattle.intmap_table.specs.Retaining.{kept_from}
use Rattle.intmap_table.specs.declared.table.walk.Cursor.{Cursor}

-- the elements whose bit is set
abbrev pub kept_by : {P : Type 0} → ℕ → List P → List P
kept_by word L = kept_from (λ bits _. bits % 2 == 1) (λ bits _. bits / 2) word L

-- the elements whose bit isn't set
abbrev pub dropped_by : {P : Type 0} → ℕ → List P → List P
dropped_by word L = kept_from (λ bits _. not (bits % 2 == 1)) (λ bits _. bits / 2) word L

-- the pairs that have a bit: in a table of C slots with walk W, the next 64 pairs of the walk from the cursor on, or all that are left if they are fewer
abbrev pub next_pairs : {K V : Type 0} → (K → ℕ) → List (K × V) → ℕ → Cursor → List (K × V)
next_pairs number W C at = take 64 (drop (pairs_before number W C at) W)
