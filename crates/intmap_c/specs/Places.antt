-- What C has of a map while it may read and write one value by its address.
use base.Fml.{Fml, feq, fsep}
use base.Fraction.{full_share}
use base.Logic.{SProp, sep, wand, all}
use seplogic.Ra.Ura.{Ura}
use types.Logic.{Logic, sem}
use denote.Builtin.{u64}
use denote.RawPtr.{Ptr, null_ptr, lies_at}
use Rattle.std.specs.Prelude.{ℕ, Option, None, Some}
use Rattle.std.specs.Borrow.{LendsIf, MutBor}
use Rattle.intmap.specs.Bindings.{IsPresent, Updates}
use Rattle.intmap.specs.Map.{after_search, written}
use Rattle.intmap_c.specs.Calls.{State, itself, bound_to}
use Rattle.intmap_c.specs.Handles.{Map, owns_map}

-- the map m once k was looked up and w was left as its value
abbrev pub left_in : State → ℕ → ℕ → State
left_in m k w = written itself (after_search itself m k) k w

-- if k is present, it has what was left, and the other keys have their values
abbrev pub Leaves : State → ℕ → Type 0
Leaves m k = IsPresent itself m.walk k → (w : ℕ) → Updates itself m.walk (left_in m k w).walk k (Some w)

-- when the loan m ends, its map has the last value behind r as the value of k; if k is absent, it is the map after the search
abbrev pub lends_value : MutBor State → ℕ → Option (MutBor ℕ) → Fml
lends_value m k r = LendsIf Map u64 m r (left_in m.now k) (after_search itself m.now k)

module _ {M : Type 1} {𝓤 : Ura M} (𝓛 : Logic 𝓤) where
  -- the right to give up the value at an address, whatever it is by then, for the map at p with that value for k
  abbrev pub gives_back : Ptr → State → ℕ → Ptr → SProp 𝓤
  gives_back p m k at = all 𝓤 (λ (w : ℕ). wand 𝓤 (sem 𝓛 (lies_at u64 full_share at w)) (𝓛.H.⇛ (sem 𝓛 (owns_map p (Some (left_in m k w))))))

  -- the value that was found, at an address, with that right; or, if none was found, null and the map at p
  abbrev pub lends_found : Ptr → State → ℕ → Ptr → Option ℕ → SProp 𝓤
  lends_found p m k at None = sem 𝓛 (fsep (feq Ptr at null_ptr) (owns_map p (Some (after_search itself m k))))
  lends_found p m k at (Some x) = sep 𝓤 (sem 𝓛 (lies_at u64 full_share at x)) (gives_back p m k at)

  -- the same for the value of k in the map at p; or, if there is no map, null
  abbrev pub lends_place : Ptr → Option State → ℕ → Ptr → SProp 𝓤
  lends_place p None k at = sem 𝓛 (fsep (feq Ptr at null_ptr) (owns_map p None))
  lends_place p (Some m) k at = lends_found p m k at (bound_to m k)
