-- By hand, since the loan is required of the caller, and given back.
use Rattle.intmap_c.specs.Calls.{filled_slots_of}
use Rattle.intmap_c.proofs.ReaderShapes.{numbers}
use Rattle.intmap_c.specs.contracts.read.intmap_filled_slots as f
use Rattle.intmap_c.proofs.read.intmap_filled_slots.Statement.{statement}
use Rattle.intmap_c.proofs.read.intmap_filled_slots.Code as code
use Rattle.intmap_c.proofs.read.filled_slots.Met.{met}

pub intmap_filled_slots_spec : {M : Type 1} → statement M
intmap_filled_slots_spec 𝓤 𝓛 𝓜 𝓡 wired = numbers 𝓛 𝓜 𝓡 filled_slots_of f.Key.name _ (code.unfolded 𝓤 𝓛.H 𝓜 𝓡 wired) (met 𝓤 𝓛 𝓜 𝓡 (code.calls-intmap_c::read::filled_slots 𝓡.env wired))
