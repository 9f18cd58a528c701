-- By hand, since the loan is required of the caller, and given back.
use Rattle.intmap_c.proofs.Words.{◌≡◌, [], ◌∷◌}
use Rattle.intmap_c.proofs.ReaderShapes.{finds}
use Rattle.intmap_c.specs.Answers.{value_found}
use Rattle.intmap_c.specs.Calls.{bound_to}
use Rattle.intmap_c.specs.contracts.answer.FoundValue as answer
use Rattle.intmap_c.proofs.answer.FoundValue.TheLaws as answer_laws
use Rattle.intmap_c.specs.contracts.read.intmap_get as f
use Rattle.intmap_c.proofs.read.intmap_get.Statement.{statement}
use Rattle.intmap_c.proofs.read.intmap_get.Code as code
use Rattle.intmap_c.proofs.read.get.Met.{met}

pub intmap_get_spec : {M : Type 1} → statement M
intmap_get_spec 𝓤 𝓛 𝓜 𝓡 wired = finds 𝓛 𝓜 𝓡 answer.the_row (λ u v is. ((answer_laws.the_row_laws.lawful 𝓛).typed u (v ∷ []) is).0) (λ m k r. r ≡ value_found (bound_to m k))
    f.Key.name _ (code.unfolded 𝓤 𝓛.H 𝓜 𝓡 wired) (met 𝓤 𝓛 𝓜 𝓡 (code.calls-intmap_c::read::get 𝓡.env wired))
