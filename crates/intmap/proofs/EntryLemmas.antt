-- Entries once a value was written, and maps into which the pair of a new key was put.
use Rattle.std.proofs.Common.{◌≡◌, ◌⊎◌, inl, inr, ℕ, ◌+◌, ◌^◌, ◌<◌, true, cond, List, [], ◌∷◌, ◌++◌, length, None, Some, refl, sym, ap, ◌∙◌, subst}
use Rattle.std.specs.Prelude.{Result, Err}
use Rattle.std.specs.Option.{option_and_then, option_map_or}
use Rattle.std.proofs.lemmas.Bool.{cases_Bool, cases_lt, eq-eqb}
use Rattle.std.proofs.lemmas.List.{map-append}
use Rattle.std.proofs.Props.{props}
use Rattle.std.specs.declared.cmp.PartialEq as eq
use Rattle.intmap_table.specs.declared.key.IntKey as key
use Rattle.intmap.specs.declared.entry.OccupiedEntry.{OccupiedEntry}
use Rattle.intmap.specs.declared.refusal.Cause.{Cause}
use Rattle.intmap.specs.declared.refusal.Refused.{Refused}
use Rattle.intmap_table.specs.Bindings.{value_of, take_key, put_pair, write_value}
use Rattle.intmap_table.specs.Classes.{IsCapacity, same_key}
use Rattle.intmap.specs.Entries.{occupied_with_value, occupied_key, IsMadeRefusal}
use Rattle.intmap.specs.Growth.{IsNext, is_due, next_capacity}
use Rattle.intmap_table.specs.Locations.{IsAt, IsFound, key_at, write_in}
use Rattle.intmap_table.specs.declared.table.locate.Location.{Location}
use Rattle.intmap.specs.Insertions.{IsInsertion}
use Rattle.intmap.specs.Map.{MapState, IsMap, Fits, with_pair, written}
use Rattle.intmap_table.specs.Walk.{slot_of, walk_of}
use Rattle.intmap.proofs.GrowthLemmas.{IsWanted-wanted_capacity}
use Rattle.intmap.proofs.LoadFactorLemmas.{InsertIsTooLarge, IsNext-unique}
use Rattle.intmap_table.proofs.LocationLemmas.{walk_of-write_value}
use Rattle.intmap_table.proofs.Tables.FoundLemmas.{IsFound-located, key_at-located}
use Rattle.intmap.proofs.MapLemmas.{MapState-same}
use Rattle.intmap.proofs.InsertionLemmas.{IsInsertion-put}
use Rattle.intmap.proofs.WriteLemmas.{write_value-unbound, IsMapWalk-written}
use Rattle.intmap_table.proofs.PositionLemmas.{swap_out-none, position-from_none}
use Rattle.intmap_table.proofs.WrittenLemmas.{IsFound-write_value, key_at-written, option_and_then-the_key, the_key-same, write_in-the_key}

-- the error of what was made, or of its failed insertion, is one of what may be made
pub made-so : {V E : Type 0} (Made : Result V E → Type 0) (from_gives : Refused V → E → Type 0) (is_due : Cause → Type 0) (made : Result V E) (e : E) → Made made
    → (made ≡ Err e) ⊎ IsMadeRefusal (λ m. m ≡ made) from_gives is_due e → Made (Err e) ⊎ IsMadeRefusal Made from_gives is_due e
made-so Made from_gives is_due made e may (inl is) = inl (subst Made is may)
made-so Made from_gives is_due made e may (inr told) = inr (record { refused = told.refused; value = subst Made (sym told.value) may; due = told.due; error = told.error })

-- the capacity that one more pair leaves is there
pub IsNext-next_capacity : (C n F : ℕ) → IsCapacity C → n < 2 ^ 64 → IsNext C n F (next_capacity C n F)
IsNext-next_capacity C n F cap fits = elim (cases_Bool (is_due n)) as (λ _. IsNext C n F (next_capacity C n F)) [
  | inl due ↦ rw due (IsWanted-wanted_capacity C n F cap fits)
  | inr not ↦ rw not refl
]

-- if an insertion isn't too large, there is room for one more length
pub length-not_too_large : {K V : Type 0} (W : List (K × V)) (C F : ℕ) → (InsertIsTooLarge W C F → ⊥) → length W + 1 < 2 ^ 64
length-not_too_large W C F room = elim (cases_lt (length W + 1) (2 ^ 64)) [ inl fits ↦ fits | inr many ↦ absurd (room (inl many)) ]

module _ {K V : Type 0} (number : K → ℕ) where
  -- an insertion of an absent key leaves the next capacity
  pub next_capacity-inserted : (is_valid : K → Type 0) (m n : MapState K V) (k : K) (v : V) → value_of number m.walk k ≡ None → IsMap number is_valid m → IsInsertion number is_valid m k v n
      → n.capacity ≡ next_capacity m.capacity (length m.walk + 1) m.factor
  next_capacity-inserted is_valid m n k v none is_map did =
      let next : IsNext m.capacity (length m.walk + 1) m.factor n.capacity = rw none at did.fits.capacity in
      let few = length-not_too_large m.walk m.capacity m.factor (λ large. did.fits.in_range (rw none refl, large)) in
      IsNext-unique m.capacity (length m.walk + 1) m.factor n.capacity _ next (IsNext-next_capacity m.capacity (length m.walk + 1) m.factor is_map.capacity few)

  -- a new pair that is written over is the pair with the later value
  pub written-with_pair : (m : MapState K V) (k : K) (x v : V) (D : ℕ) → value_of number m.walk k ≡ None → written number (with_pair number m k x D) k v ≡ with_pair number m k v D
  written-with_pair m k x v D none =
      let kept : take_key number m.walk m.capacity k ≡ m.walk = swap_out-none (λ p. same_key number k p.0) _ m.walk (position-from_none (same_key number k) m.walk none) in
      let own : same_key number k k ≡ true = eq-eqb (number k) (number k) refl in
      let gone : value_of number (take_key number m.walk m.capacity k) k ≡ None = ap (λ L. value_of number L k) kept ∙ none in
      let pair : write_value number (put_pair number m.walk m.capacity k x) k v ≡ put_pair number m.walk m.capacity k v =
      map-append (λ p. cond (same_key number k p.0) (p.0, v) p) (take_key number m.walk m.capacity k) ((k, x) ∷ [])
      ∙ ap (λ L. L ++ cond (same_key number k k) (k, v) (k, x) ∷ []) (write_value-unbound number (take_key number m.walk m.capacity k) k v gone)
      ∙ ap (λ b. take_key number m.walk m.capacity k ++ cond b (k, v) (k, x) ∷ []) own in
      MapState-same (sym (walk_of-write_value number (put_pair number m.walk m.capacity k x) D k v) ∙ ap (λ L. walk_of number L D) pair) refl refl refl

-- a new pair was added, and its value is lent
module _ {K V : Type 0} (number : K → ℕ) (is_valid : K → Type 0) (m n : MapState K V) (k : K) (x : V) (missing : value_of number m.walk k ≡ None) (old : IsMap number is_valid m)
    (did : IsInsertion number is_valid m k x n) (state : n ≡ with_pair number m k x n.capacity) where
  abbrev D : ℕ
  D = next_capacity m.capacity (length m.walk + 1) m.factor

  -- with another value it is the map with that one in the first place
  pub written-added : (v : V) → written number n k v ≡ with_pair number m k v D
  written-added v =
      ap (λ s. written number s k v) state ∙ written-with_pair number m k x v n.capacity missing
      ∙ ap (λ C. with_pair number m k v C) (next_capacity-inserted number is_valid m n k x missing old did)

  -- and its insertion is one with that value
  pub IsInsertion-lent : (v : V) → IsInsertion number is_valid m k v (with_pair number m k v D)
  IsInsertion-lent v =
      IsInsertion-put number is_valid m (with_pair number m k v D) k v old (subst (IsMap number is_valid) (written-added v) (IsMapWalk-written number is_valid n.walk n.capacity n.factor k v did.valid)) refl
      (subst (Fits number m.walk m.capacity m.factor k) (next_capacity-inserted number is_valid m n k x missing old did) did.fits)

-- where the pair of k was located in a map
module _ {K V : Type 0} (number : K → ℕ) (is_valid : K → Type 0) (injective : (x y : K) → is_valid x → is_valid y → number x ≡ number y → x ≡ y) (n : MapState K V) (k : K) (at : Location K)
    (is_map : IsMap number is_valid n) (valid : is_valid k) (same : at.key ≡ k) (is : IsAt number n.walk n.capacity at) where
  -- is that key
  pub key_at-located_in : key_at (slot_of number n.walk n.capacity at.slot) at.place ≡ Some k
  key_at-located_in = key_at-located number is_valid injective n.walk n.capacity at is_map.keys (subst is_valid (sym same) valid) is ∙ ap (λ q. Some q) same

  pub IsFound-located_in : IsFound number n.walk n.capacity at.slot at.place
  IsFound-located_in = IsFound-located number n.walk n.capacity at k same is key_at-located_in

  -- so a write there is one of its value
  pub written-located_in : (v : V) → record n { walk = write_in number n.walk n.capacity at.slot at.place v } ≡ written number n k v
  written-located_in v = ap (λ o. record n { walk = option_map_or (λ q. write_value number n.walk q v) o n.walk }) key_at-located_in

  pub value_of-located_in : (v : V) → option_and_then (value_of number n.walk) (key_at (slot_of number n.walk n.capacity at.slot) at.place) ≡ Some v → value_of number n.walk k ≡ Some v
  value_of-located_in v found = ap (option_and_then (value_of number n.walk)) (sym key_at-located_in) ∙ found

-- that a pair was found holds in one way
IsFound-prop : {K V : Type 0} (number : K → ℕ) (W : List (K × V)) (C slot place : ℕ) → IsProp (IsFound number W C slot place)
IsFound-prop number W C slot place = Prim.hlevel props

module _ {K V A : Type 0} {g : key.Ghosts K} {e : eq.Ghosts K} where
  -- the entry whose map was written at its key
  rewritten : (o : OccupiedEntry K V A g e) (w : V) (found : IsFound g.number_of (written g.number_of o.map.now (occupied_key o) w).walk (written g.number_of o.map.now (occupied_key o) w).capacity o.slot o.place)
      → ◌≡◌ {A = OccupiedEntry K V A g e} (record { map = record o.map { now = written g.number_of o.map.now (occupied_key o) w }; slot = o.slot; place = o.place; found = found }) (occupied_with_value o w)
  rewritten o w found =
      ap (λ z. let o : OccupiedEntry K V A g e = record { map = record o.map { now = written g.number_of o.map.now (occupied_key o) w }; slot = o.slot; place = o.place; found = z } in o)
      (IsFound-prop g.number_of _ _ o.slot o.place found (IsFound-write_value g.number_of o.map.now.walk o.map.now.capacity o.slot o.place (occupied_key o) w o.found))

  -- an entry whose map was written is the entry with the value, however the map is known
  pub occupied-rewritten : (o : OccupiedEntry K V A g e) (w : V) (n : MapState K V) → written g.number_of o.map.now (occupied_key o) w ≡ n → (found : IsFound g.number_of n.walk n.capacity o.slot o.place)
      → ◌≡◌ {A = OccupiedEntry K V A g e} (record { map = record o.map { now = n }; slot = o.slot; place = o.place; found = found }) (occupied_with_value o w)
  occupied-rewritten o w n same =
      subst (λ n. (found : IsFound g.number_of n.walk n.capacity o.slot o.place)
      → ◌≡◌ {A = OccupiedEntry K V A g e} (record { map = record o.map { now = n }; slot = o.slot; place = o.place; found = found }) (occupied_with_value o w)) same (rewritten o w)

  -- the map is written at the place of the key
  pub written-in : (o : OccupiedEntry K V A g e) (w : V) → written g.number_of o.map.now (occupied_key o) w ≡ record o.map.now { walk = write_in g.number_of o.map.now.walk o.map.now.capacity o.slot o.place w }
  written-in o w = let m : MapState K V = o.map.now in ap (λ W. record m { walk = W }) (sym (write_in-the_key g.number_of m.walk m.capacity o.slot o.place w o.found))

  -- and read there
  pub value_of-in : (o : OccupiedEntry K V A g e) (v : V) → option_and_then (value_of g.number_of o.map.now.walk) (key_at (slot_of g.number_of o.map.now.walk o.map.now.capacity o.slot) o.place) ≡ Some v
      → value_of g.number_of o.map.now.walk (occupied_key o) ≡ Some v
  value_of-in o v is = sym (option_and_then-the_key (value_of g.number_of o.map.now.walk) _ o.found.some) ∙ is

  -- an entry with a value has the key that it had
  pub occupied_key-written : (o : OccupiedEntry K V A g e) (w : V) → occupied_key (occupied_with_value o w) ≡ occupied_key o
  occupied_key-written o w = the_key-same _ _ _ _ (key_at-written g.number_of o.map.now.walk o.map.now.capacity o.slot o.place (occupied_key o) w)
