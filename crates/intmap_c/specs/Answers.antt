-- What calls return to C, and what a failed call leaves.
use Rattle.std.specs.Prelude.{◌≡◌, ◌⊎◌, ℕ, ℤ, Option, None, Some}
use Rattle.intmap.specs.declared.refusal.Cause.{Cause}
use Rattle.intmap_c.specs.Statuses.{present_status, absent_status, no_memory_status, too_large_status, failed_status}
use Rattle.intmap_c.specs.declared.answer.FoundValue.{FoundValue}
use Rattle.intmap_c.specs.declared.answer.FoundPair.{FoundPair}
use Rattle.intmap_c.specs.declared.answer.Pair.{Pair}

-- no value, and why
abbrev pub no_value : ℤ → FoundValue
no_value why = record { value = 0; status = why }

-- the value that a key had, or that it was absent
abbrev pub value_found : Option ℕ → FoundValue
value_found None = no_value absent_status
value_found (Some v) = record { value = v; status = present_status }

-- a pair as C has it
abbrev pub pair_of : ℕ × ℕ → Pair
pair_of p = record { key = p.0; value = p.1 }

-- no pair, and why
abbrev pub no_pair : ℤ → FoundPair
no_pair why = record { pair = pair_of (0, 0); status = why }

-- the pair that was found, or that there was none
abbrev pub pair_found : Option (ℕ × ℕ) → FoundPair
pair_found None = no_pair absent_status
pair_found (Some p) = record { pair = pair_of p; status = present_status }

-- the call failed: for want of memory, or since the map would be too large
abbrev pub IsFailed : ℤ → Type 0
IsFailed status = (status ≡ no_memory_status) ⊎ (status ≡ too_large_status)

module _ {S : Type 0} where
  -- the call failed with a cause that is due, and left n, which is m
  abbrev pub Fails : (Cause → Type 0) → S → S → ℤ → Type 0
  Fails due m n status = (cause : Cause) × (status ≡ failed_status cause) × due cause × (n ≡ m)
