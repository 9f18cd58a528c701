-- The numbers by which calls tell C what happened.
use Rattle.std.specs.Prelude.{ℤ, pos, negsuc}
use Rattle.intmap.specs.declared.refusal.Cause.{Cause}
use Rattle.intmap.specs.declared.refusal.Cause.TheVariants.{Memory, TooLarge}

-- 0: the call did what it says
abbrev pub ok_status : ℤ
ok_status = pos 0

-- 0: the key, or a pair, was absent before the call
abbrev pub absent_status : ℤ
absent_status = pos 0

-- 1: the key, or a pair, was present before the call
abbrev pub present_status : ℤ
present_status = pos 1

-- -1: an allocation failed
abbrev pub no_memory_status : ℤ
no_memory_status = negsuc 0

-- -2: the map would be too large
abbrev pub too_large_status : ℤ
too_large_status = negsuc 1

-- the status of a call that failed with this cause
abbrev pub failed_status : Cause → ℤ
failed_status Memory = no_memory_status
failed_status TooLarge = too_large_status
