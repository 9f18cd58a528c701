-- Two sets: which members both have, or only one, and in which order.
use Rattle.std.specs.Prelude.{◌≡◌, true, false, ℕ, Bool, cond, not, ◌&&◌, ◌||◌, nat_lt, List, ◌++◌, filter, length, IsTrue}
use Rattle.intmap.specs.Equality.{maps_equal}
use Rattle.intmap_set.specs.Sets.{SetState, as_map, holds}

module _ {K : Type 0} (number : K → ℕ) where
  -- each member of V is one of W
  abbrev pub IsSubset : List K → List K → Type 0
  IsSubset V W = (q : K) → IsTrue (holds number V q) → IsTrue (holds number W q)

  -- no member of V is one of W
  abbrev pub IsDisjoint : List K → List K → Type 0
  IsDisjoint V W = (q : K) → IsTrue (holds number V q) → holds number W q ≡ false

  -- both have the same members
  abbrev pub HaveSameMembers : List K → List K → Type 0
  HaveSameMembers V W = (q : K) → holds number V q ≡ holds number W q

  -- the maps from their members to () are equal: each member of either set is one of the other
  abbrev pub sets_equal : SetState K → SetState K → Bool
  sets_equal s t = maps_equal number (λ v w. true) (as_map s) (as_map t)

  -- the members of V that aren't in W, in the order of V
  abbrev pub difference_of : List K → List K → List K
  difference_of V W = filter (λ k. not (holds number W k)) V

  -- the members of V that are in W too, in the order of V
  abbrev pub common_of : List K → List K → List K
  common_of V W = filter (holds number W) V

  -- the members that both have, in the order of the shorter list, or of V if both have the same length
  abbrev pub intersection_of : List K → List K → List K
  intersection_of V W = cond (nat_lt (length W) (length V)) (common_of W V) (common_of V W)

  -- the longer list, or V if both have the same length, and then the members that only the other list has
  abbrev pub union_of : List K → List K → List K
  union_of V W = cond (nat_lt (length V) (length W)) (W ++ difference_of V W) (V ++ difference_of W V)

  -- the members that only V has, and then those that only W has
  abbrev pub symmetric_difference_of : List K → List K → List K
  symmetric_difference_of V W = difference_of V W ++ difference_of W V

  -- U has the members that V has and W hasn't
  abbrev pub IsDifference : List K → List K → List K → Type 0
  IsDifference V W U = (q : K) → holds number U q ≡ (holds number V q && not (holds number W q))

  -- U has the members that both have
  abbrev pub IsIntersection : List K → List K → List K → Type 0
  IsIntersection V W U = (q : K) → holds number U q ≡ (holds number V q && holds number W q)

  -- U has the members that V or W has
  abbrev pub IsUnion : List K → List K → List K → Type 0
  IsUnion V W U = (q : K) → holds number U q ≡ (holds number V q || holds number W q)

  -- U has the members that exactly one of the two has
  abbrev pub IsSymmetricDifference : List K → List K → List K → Type 0
  IsSymmetricDifference V W U = (q : K) → holds number U q ≡ cond (holds number V q) (not (holds number W q)) (holds number W q)
