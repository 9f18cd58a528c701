-- What a write of a value leaves of a map: its walk stays that of a map, and each other key keeps its value.
use Rattle.std.proofs.Common.{◌≡◌, ℕ, Bool, true, false, cond, List, [], ◌∷◌, length, Option, Some, None, IsSome, refl, sym, arith}
use Rattle.std.specs.Map.{keys_of}
use Rattle.std.specs.Prelude.{is_none, option_map}
use Rattle.std.proofs.lemmas.List.{length-map}
use Rattle.intmap_table.specs.Classes.{same_key}
use Rattle.intmap_table.specs.Bindings.{value_of, IsPresent, write_value, Updates}
use Rattle.intmap.specs.Consistency.{IsConsistent}
use Rattle.intmap.specs.Map.{IsMapWalk}
use Rattle.std.proofs.lemmas.Bool.Decides.{nat_tests}
use Rattle.intmap_table.proofs.BindSameLemmas.{value_of-same_number}
use Rattle.intmap_table.proofs.BindingLemmas.{Updates-from}
use Rattle.intmap.proofs.SameKeysLemmas.{IsMapWalk-same_keys, IsConsistent-same_keys}

-- an option that holds something holds this
pub some_from : {V : Type 0} (o : Option V) → IsSome o → (v : V) × (o ≡ Some v)
some_from None bound = let no : ◌≡◌ {A = Bool} false true = bound in cc
some_from (Some v) bound = (v, refl)

-- one that holds nothing is None
pub none_from : {V : Type 0} (o : Option V) → is_none o ≡ true → o ≡ None
none_from None none = refl
none_from (Some v) none = let no : ◌≡◌ {A = Bool} false true = none in cc

module _ {K V : Type 0} (number : K → ℕ) where
  pub length-write_value : (L : List (K × V)) (k : K) (v : V) → length (write_value number L k v) ≡ length L
  length-write_value L k v = length-map L (λ p. cond (same_key number k p.0) (p.0, v) p)

  -- a write keeps the keys
  pub keys_of-write_value : (L : List (K × V)) (k : K) (v : V) → keys_of (write_value number L k v) ≡ keys_of L
  keys_of-write_value [] k v = refl
  keys_of-write_value (p ∷ L) k v = let rest = keys_of-write_value L k v in grind (arith, rest)

  -- the walk of a map stays one
  pub IsMapWalk-written : (is_valid : K → Type 0) (W : List (K × V)) (C F : ℕ) (k : K) (v : V) → IsMapWalk number is_valid W C F → IsMapWalk number is_valid (write_value number W k v) C F
  IsMapWalk-written is_valid W C F k v m = IsMapWalk-same_keys number is_valid W (write_value number W k v) C F (sym (keys_of-write_value W k v)) m

  -- and so does what a map keeps
  pub IsConsistent-written : (is_valid : K → Type 0) (W : List (K × V)) (C F n most R N : ℕ) (k : K) (x : V) → IsConsistent number is_valid W C F n most R N → IsConsistent number is_valid (write_value number W k x) C F n most R N
  IsConsistent-written is_valid W C F n most R N k x old = IsConsistent-same_keys number is_valid W (write_value number W k x) C F n most R N (sym (keys_of-write_value W k x)) old

  -- a write gives its key the value, if it was present, and leaves each other key with its own
  pub value_of-write_value : (L : List (K × V)) (k q : K) (v : V) → value_of number (write_value number L k v) q ≡ cond (same_key number k q) (option_map (λ _. v) (value_of number L q)) (value_of number L q)
  value_of-write_value [] k q v = elim (same_key number k q) as (λ b. ◌≡◌ {A = Option V} None (cond b None None)) [ true ↦ refl | false ↦ refl ]
  value_of-write_value (p ∷ L) k q v = let rest = value_of-write_value L k q v in grind (arith, nat_tests, rest)

  -- a write of a present key gives it the value, and leaves each other key with its own
  pub Updates-written : (L : List (K × V)) (k : K) (v old : V) → value_of number L k ≡ Some old → Updates number L (write_value number L k v) k (Some v)
  Updates-written L k v old bound =
      Updates-from number L (write_value number L k v) k (Some v)
      (λ q. let same = value_of-same_number number L q k in let written = value_of-write_value L k q v in grind (arith, nat_tests, same, written, bound))

  -- writing the value of an absent key changes nothing
  pub write_value-unbound : (L : List (K × V)) (k : K) (v : V) → value_of number L k ≡ None → write_value number L k v ≡ L
  write_value-unbound [] k v none = refl
  write_value-unbound (p ∷ L) k v none = let rest = write_value-unbound L k v in grind (arith, rest, none)

  pub Updates-bound : (L : List (K × V)) (k : K) (v : V) → IsPresent number L k → Updates number L (write_value number L k v) k (Some v)
  Updates-bound L k v bound = let some = some_from (value_of number L k) bound in Updates-written L k v some.0 some.1
