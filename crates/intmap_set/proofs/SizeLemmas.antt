-- How many members subsets, equal sets and the lists of two sets have.
use Rattle.std.proofs.Common.{◌≡◌, ◌∙◌, ℕ, ◌+◌, ◌*◌, ◌≤◌, Bool, true, false, cond, List, [], ◌∷◌, ◌++◌, refl, sym, ap, length, length-append, arith}
use Rattle.std.proofs.lemmas.Bool.{true≢false}
use Rattle.std.specs.Prelude.{◌||◌, not, nat_lt, IsTrue}
use Rattle.std.proofs.lemmas.List.Filters.{length-filter_both}
use Rattle.std.proofs.Math.Bool.{and_comm}
use Rattle.intmap.proofs.EqualityLemmas.{length-maps_equal}
use Rattle.intmap.specs.Bindings.{HasDistinctKeys}
use Rattle.intmap_set.specs.Sets.{SetState, as_map, holds, paired}
use Rattle.intmap_set.specs.Combined.{HaveSameMembers, IsSubset, common_of, difference_of, intersection_of, sets_equal, symmetric_difference_of, union_of}
use Rattle.intmap_set.proofs.EqualLemmas.{sets_equal-iff_members}
use Rattle.intmap_set.proofs.DistinctLemmas.{HasDistinctKeys-common_of}
use Rattle.intmap_set.proofs.MemberLemmas.{length-paired, same_key-itself}
use Rattle.intmap_set.proofs.CombinedLemmas.{IsDifference-difference_of, IsIntersection-common_of, without-other}

module _ {K : Type 0} (number : K → ℕ) where
  -- equal sets are as long
  pub length-sets_equal : (s t : SetState K) → HasDistinctKeys number (paired s.walk) → HasDistinctKeys number (paired t.walk)
      → IsTrue (sets_equal number s t) → length s.walk ≡ length t.walk
  length-sets_equal s t first second equal =
      sym (length-paired s.walk) ∙ length-maps_equal number (λ v w. true) (as_map s) (as_map t) first second equal ∙ length-paired t.walk

  -- and so are sets with the same members
  pub length-same_members : (V W : List K) → HasDistinctKeys number (paired V) → HasDistinctKeys number (paired W) → HaveSameMembers number V W → length V ≡ length W
  length-same_members V W first second same =
      let s : SetState K = record { walk = V; capacity = 0; placed = 0; compared = 0; reserved = 0 } in let t : SetState K = record { walk = W; capacity = 0; placed = 0; compared = 0; reserved = 0 } in
      length-sets_equal s t first second ((sets_equal-iff_members number s t).1 same)

  -- a set has those that it shares and those that it has alone
  pub length-parts : (V W : List K) → length (common_of number V W) + length (difference_of number V W) ≡ length V
  length-parts V W = length-filter_both (holds number W) (λ k. not (holds number W k)) (λ k. refl) V

  -- from either side two sets share as many members
  length-common_of : (V W : List K) → HasDistinctKeys number (paired V) → HasDistinctKeys number (paired W) → length (common_of number V W) ≡ length (common_of number W V)
  length-common_of V W first second =
      length-same_members (common_of number V W) (common_of number W V) (HasDistinctKeys-common_of number V W first) (HasDistinctKeys-common_of number W V second)
      (λ q. IsIntersection-common_of number V W q ∙ and_comm (holds number V q) (holds number W q) ∙ sym (IsIntersection-common_of number W V q))

  -- a list of which no key is a member is empty
  length-none : (V : List K) → ((q : K) → holds number V q ≡ false) → length V ≡ 0
  length-none [] none = refl
  length-none (k ∷ V) none = absurd (true≢false (sym (ap (λ b. b || holds number V k) (same_key-itself number k)) ∙ none k))

  -- a subset has nothing alone
  length-difference_of : (V W : List K) → IsSubset number V W → length (difference_of number V W) ≡ 0
  length-difference_of V W sub =
      length-none (difference_of number V W)
      (λ q. IsDifference-difference_of number V W q ∙ (without-other (holds number V q) (holds number W q)).1 (sub q))

  module _ (V W : List K) (first : HasDistinctKeys number (paired V)) (second : HasDistinctKeys number (paired W)) where
    -- a subset is no longer
    pub length-subset : IsSubset number V W → length V ≤ length W
    length-subset sub =
        let alone = length-difference_of V W sub in let here = length-parts V W in let there = length-parts W V in
        let turned = length-common_of V W first second in
        omega (arith, alone, here, there, turned)

    -- whichever list gives its order, the intersection has as many members as `common_of V W`
    length-intersection_of : length (intersection_of number V W) ≡ length (common_of number V W)
    length-intersection_of = at (nat_lt (length W) (length V))
      where
        at : (b : Bool) → length (cond b (common_of number W V) (common_of number V W)) ≡ length (common_of number V W)
        at true = sym (length-common_of V W first second)
        at false = refl

    -- what the first set has alone and what both have are its members
    pub length-difference_of-intersection_of : length (difference_of number V W) + length (intersection_of number V W) ≡ length V
    length-difference_of-intersection_of =
        let parts = length-parts V W in let both = length-intersection_of in omega (arith, parts, both)

    -- what one set has alone, and twice what both have
    pub length-symmetric_difference_of-intersection_of : length (symmetric_difference_of number V W) + 2 * length (intersection_of number V W) ≡ length V + length W
    length-symmetric_difference_of-intersection_of =
        let joined = length-append (difference_of number V W) (difference_of number W V) in let both = length-intersection_of in
        let here = length-parts V W in let there = length-parts W V in let turned = length-common_of V W first second in
        omega (arith, joined, both, here, there, turned)

  -- union and intersection have together as many members as both sets
  pub length-union_of-intersection_of : (V W : List K) → HasDistinctKeys number (paired V) → HasDistinctKeys number (paired W)
      → length (union_of number V W) + length (intersection_of number V W) ≡ length V + length W
  length-union_of-intersection_of V W first second = at (nat_lt (length V) (length W)) (nat_lt (length W) (length V))
    where
      turned : length (common_of number V W) ≡ length (common_of number W V)
      turned = length-common_of V W first second

      longer : (b : Bool) → length (cond b (W ++ difference_of number V W) (V ++ difference_of number W V)) + length (common_of number V W) ≡ length V + length W
      longer true = let joined = length-append W (difference_of number V W) in let parts = length-parts V W in omega (arith, joined, parts)
      longer false = let joined = length-append V (difference_of number W V) in let parts = length-parts W V in omega (arith, joined, parts, turned)

      at : (b c : Bool) → length (cond b (W ++ difference_of number V W) (V ++ difference_of number W V)) + length (cond c (common_of number W V) (common_of number V W)) ≡ length V + length W
      at b true = let all = longer b in omega (arith, all, turned)
      at b false = longer b
