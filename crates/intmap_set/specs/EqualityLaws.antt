-- Equality of sets is an equivalence. This proof is among the definitions, since `impl Eq` is built on it.
use Rattle.std.specs.Prelude.{ℕ, true}
use Rattle.std.proofs.Common.{refl}
use Rattle.std.specs.Cmp.{IsEquivalence, equiv}
use Rattle.intmap.specs.Laws.EqualityLaws.{IsEquivalence-maps_equal}
use Rattle.intmap_set.specs.Sets.{as_map}
use Rattle.intmap_set.specs.Combined.{sets_equal}

-- all values () are equal
pub IsEquivalence-unit : IsEquivalence {K = Unit {0}} (λ v w. true)
IsEquivalence-unit = equiv (record { symm = λ v w. refl; trans = λ u v w first second. refl }) (λ v. refl)

-- sets are equal as maps are
pub IsEquivalence-sets_equal : {K : Type 0} (number : K → ℕ) → IsEquivalence (sets_equal number)
IsEquivalence-sets_equal number =
    let maps = IsEquivalence-maps_equal number (λ v w. true) IsEquivalence-unit in
    record { refl = λ s. maps.refl (as_map s); symm = λ s t. maps.symm (as_map s) (as_map t); congr = λ s t u. maps.congr (as_map s) (as_map t) (as_map u) }
