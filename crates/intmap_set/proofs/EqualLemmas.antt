-- Sets are equal if and only if they have the same members.
use Rattle.std.proofs.Common.{◌≡◌, ◌∙◌, ℕ, Bool, true, false, refl, sym}
use Rattle.std.specs.Bool.{Decides}
use Rattle.std.specs.Cmp.{partial_equiv_from_equiv}
use Rattle.std.specs.Option.{option_eq}
use Rattle.std.specs.Prelude.{◌↔◌, IsTrue, Option, Some, None, is_some}
use Rattle.intmap.specs.Laws.EqualityLaws.{maps_equal-iff_BindSame}
use Rattle.intmap_set.specs.Sets.{SetState, as_map}
use Rattle.intmap_set.specs.Combined.{IsSubset, HaveSameMembers, sets_equal}
use Rattle.intmap_set.specs.EqualityLaws.{IsEquivalence-unit}
use Rattle.intmap_set.proofs.MemberLemmas.{holds-paired}

-- two tests that follow from each other return the same
both_ways : (b c : Bool) → (b ≡ true → c ≡ true) → (c ≡ true → b ≡ true) → b ≡ c
both_ways true c there back = sym (there refl)
both_ways false true there back = back refl
both_ways false false there back = refl

-- options without values are equal if and only if they are there alike
there_alike : (o p : Option (Unit {0})) → option_eq (λ v w. true) o p ≡ true ↔ is_some o ≡ is_some p
there_alike None None = (λ is. refl, λ is. refl)
there_alike None (Some v) = (λ is. is, λ is. is)
there_alike (Some v) None = (sym, sym)
there_alike (Some v) (Some w) = (λ is. refl, λ is. refl)

module _ {K : Type 0} (number : K → ℕ) where
  module _ (s t : SetState K) where
    -- sets are equal if and only if they have the same members
    pub sets_equal-iff_members : Decides (sets_equal number s t) (HaveSameMembers number s.walk t.walk)
    sets_equal-iff_members =
        let law = maps_equal-iff_BindSame number (λ v w. true) (partial_equiv_from_equiv IsEquivalence-unit) (as_map s) (as_map t) in (
          λ is q. holds-paired number s.walk q ∙ (there_alike _ _).0 (law.0 is q) ∙ sym (holds-paired number t.walk q),
          λ same. law.1 (λ q. (there_alike _ _).1 (sym (holds-paired number s.walk q) ∙ same q ∙ holds-paired number t.walk q)),
        )

    -- and if and only if each is a subset of the other
    pub sets_equal-iff_subsets : IsTrue (sets_equal number s t) ↔ (IsSubset number s.walk t.walk × IsSubset number t.walk s.walk)
    sets_equal-iff_subsets = (
      λ is. (λ q has. sym (sets_equal-iff_members.0 is q) ∙ has, λ q has. sets_equal-iff_members.0 is q ∙ has),
      λ subs. sets_equal-iff_members.1 (λ q. both_ways _ _ (subs.0 q) (subs.1 q)),
    )
