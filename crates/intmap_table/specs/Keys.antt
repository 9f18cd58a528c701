-- The numbers of integer keys that may be negative.
use Rattle.std.specs.Prelude.{ℕ, ◌+◌, ◌-◌, ◌^◌, ℤ, pos, negsuc}

-- the number of an integer as a key: a negative one counts as 2^64 more, any other as itself
abbrev pub number_of_signed : ℤ → ℕ
number_of_signed (pos n) = n
number_of_signed (negsuc n) = 2 ^ 64 - (n + 1)
