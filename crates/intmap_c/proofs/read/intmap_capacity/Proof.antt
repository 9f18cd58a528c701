-- By hand, since the loan is required of the caller, and given back.
use Rattle.intmap_c.proofs.ReaderShapes.{numbers}
use Rattle.intmap_c.specs.contracts.read.intmap_capacity as f
use Rattle.intmap_c.proofs.read.intmap_capacity.Statement.{statement}
use Rattle.intmap_c.proofs.read.intmap_capacity.Code as code
use Rattle.intmap_c.proofs.read.capacity.Met.{met}

pub intmap_capacity_spec : {M : Type 1} → statement M
intmap_capacity_spec 𝓤 𝓛 𝓜 𝓡 wired = numbers 𝓛 𝓜 𝓡 (λ m. m.capacity) f.Key.name _ (code.unfolded 𝓤 𝓛.H 𝓜 𝓡 wired) (met 𝓤 𝓛 𝓜 𝓡 (code.calls-intmap_c::read::capacity 𝓡.env wired))
