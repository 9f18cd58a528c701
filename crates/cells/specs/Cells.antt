-- Cells of a sheet, and offsets of rows, as numbers. A cell is the pair of its row and its column.
use Rattle.std.specs.Prelude.{ℕ, ◌+◌, ◌-◌, ◌*◌, ◌^◌, ◌<◌, ℤ, pos, negsuc}

-- the row is in its range, and the sheet has the column
abbrev pub IsCell : ℕ × ℕ → Type 0
IsCell cell = (cell.0 < 2 ^ 32) × (cell.1 < 26)

-- the place of the cell if the sheet is read row by row
abbrev pub cell_number : ℕ × ℕ → ℕ
cell_number cell = cell.0 * 26 + cell.1

-- the number of an offset: one below zero counts as 2^64 more, any other as itself
abbrev pub offset_number : ℤ → ℕ
offset_number (pos n) = n
offset_number (negsuc n) = 2 ^ 64 - (n + 1)
