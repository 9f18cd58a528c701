-- By hand, since the loan is required of the caller, and given back.
use Rattle.intmap_c.proofs.Words.{◌≡◌, [], ◌∷◌}
use Rattle.intmap_c.proofs.ReaderShapes.{finds}
use denote.Builtin.{bool}
use denote.Plain.{bool_Lawful}
use Rattle.std.specs.Prelude.{is_some}
use Rattle.intmap_c.specs.Calls.{bound_to}
use Rattle.intmap_c.specs.contracts.read.intmap_contains_key as f
use Rattle.intmap_c.proofs.read.intmap_contains_key.Statement.{statement}
use Rattle.intmap_c.proofs.read.intmap_contains_key.Code as code
use Rattle.intmap_c.proofs.read.contains_key.Met.{met}

pub intmap_contains_key_spec : {M : Type 1} → statement M
intmap_contains_key_spec 𝓤 𝓛 𝓜 𝓡 wired = finds 𝓛 𝓜 𝓡 bool (λ u v is. ((bool_Lawful 𝓛).typed u (v ∷ []) is).0) (λ m k r. r ≡ is_some (bound_to m k))
    f.Key.name _ (code.unfolded 𝓤 𝓛.H 𝓜 𝓡 wired) (met 𝓤 𝓛 𝓜 𝓡 (code.calls-intmap_c::read::contains_key 𝓡.env wired))
