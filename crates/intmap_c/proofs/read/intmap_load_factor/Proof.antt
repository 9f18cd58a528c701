-- By hand, since the loan is required of the caller, and given back.
use Rattle.intmap_c.proofs.ReaderShapes.{numbers}
use Rattle.intmap_c.specs.contracts.read.intmap_load_factor as f
use Rattle.intmap_c.proofs.read.intmap_load_factor.Statement.{statement}
use Rattle.intmap_c.proofs.read.intmap_load_factor.Code as code
use Rattle.intmap_c.proofs.read.load_factor.Met.{met}

pub intmap_load_factor_spec : {M : Type 1} → statement M
intmap_load_factor_spec 𝓤 𝓛 𝓜 𝓡 wired = numbers 𝓛 𝓜 𝓡 (λ m. m.factor) f.Key.name _ (code.unfolded 𝓤 𝓛.H 𝓜 𝓡 wired) (met 𝓤 𝓛 𝓜 𝓡 (code.calls-intmap_c::read::load_factor 𝓡.env wired))
