-- By hand, since the loan is required of the caller, and given back.
use Rattle.std.specs.Prelude.{length}
use Rattle.intmap_c.proofs.ReaderShapes.{numbers}
use Rattle.intmap_c.specs.contracts.read.intmap_len as f
use Rattle.intmap_c.proofs.read.intmap_len.Statement.{statement}
use Rattle.intmap_c.proofs.read.intmap_len.Code as code
use Rattle.intmap_c.proofs.read.len.Met.{met}

pub intmap_len_spec : {M : Type 1} → statement M
intmap_len_spec 𝓤 𝓛 𝓜 𝓡 wired = numbers 𝓛 𝓜 𝓡 (λ m. length m.walk) f.Key.name _ (code.unfolded 𝓤 𝓛.H 𝓜 𝓡 wired) (met 𝓤 𝓛 𝓜 𝓡 (code.calls-intmap_c::read::len 𝓡.env wired))
