-- Where pairs are once a value was written: each where it was.
use Rattle.std.proofs.Common.{◌≡◌, ℕ, cond, zero, suc, List, [], ◌∷◌, Option, Some, None, IsSome, refl, sym, ap, ◌∙◌, subst, arith}
use Rattle.std.specs.Prelude.{position}
use Rattle.std.specs.List.{position_or_len}
use Rattle.std.specs.Option.{option_and_then, option_map_or}
use Rattle.std.proofs.lemmas.List.{length-map}
use Rattle.intmap_table.specs.Classes.{same_key}
use Rattle.intmap_table.specs.Bindings.{write_value}
use Rattle.intmap_table.specs.Walk.{slot_of}
use Rattle.intmap_table.specs.Locations.{IsAt, IsFound, key_at, the_key, write_in}
use Rattle.intmap_table.specs.declared.table.locate.Location.{Location}

module _ {K V : Type 0} (number : K → ℕ) where
  -- a slot of a list with a value written is the slot with it written
  pub slot_of-write_value : (L : List (K × V)) (C : ℕ) (k : K) (v : V) (i : ℕ) → slot_of number (write_value number L k v) C i ≡ write_value number (slot_of number L C i) k v
  slot_of-write_value [] C k v i = refl
  slot_of-write_value (p ∷ L) C k v i = let rest = slot_of-write_value L C k v i in grind (arith, rest)

  position_or_len-write_value : (L : List (K × V)) (k q : K) (v : V) → position_or_len (λ p. same_key number q p.0) (write_value number L k v) ≡ position_or_len (λ p. same_key number q p.0) L
  position_or_len-write_value [] k q v = refl
  position_or_len-write_value (p ∷ L) k q v = let rest = position_or_len-write_value L k q v in grind (arith, rest)

  -- each key is where it was
  pub position-write_value : (L : List (K × V)) (k q : K) (v : V) → position (λ p. same_key number q p.0) (write_value number L k v) ≡ position (λ p. same_key number q p.0) L
  position-write_value L k q v = rw (position_or_len-write_value L k q v, length-map L (λ p. cond (same_key number k p.0) (p.0, v) p)) refl

  -- and so is the pair of a location
  pub IsAt-write_value : (W : List (K × V)) (C : ℕ) (at : Location K) (k : K) (v : V) → IsAt number W C at → IsAt number (write_value number W k v) C at
  IsAt-write_value W C at k v is = record {
    slot = is.slot;
    place = ap (position (λ p. same_key number at.key p.0)) (slot_of-write_value W C k v at.slot) ∙ position-write_value (slot_of number W C at.slot) k at.key v ∙ is.place;
  }

  key_at-write_value : (L : List (K × V)) (k : K) (v : V) (i : ℕ) → key_at (write_value number L k v) i ≡ key_at L i
  key_at-write_value [] k v i = refl
  key_at-write_value (p ∷ L) k v zero = grind arith
  key_at-write_value (p ∷ L) k v (suc i) = key_at-write_value L k v i

  -- each place has the key that it had
  pub key_at-written : (W : List (K × V)) (C slot place : ℕ) (k : K) (v : V) → key_at (slot_of number (write_value number W k v) C slot) place ≡ key_at (slot_of number W C slot) place
  key_at-written W C slot place k v = ap (λ L. key_at L place) (slot_of-write_value W C k v slot) ∙ key_at-write_value (slot_of number W C slot) k v place

-- the keys of equal options are equal
pub the_key-same : {K : Type 0} (o p : Option K) (s : IsSome o) (t : IsSome p) → o ≡ p → the_key o s ≡ the_key p t
the_key-same (Some x) (Some y) s t e = let same : x ≡ y = cc in same
the_key-same (Some x) None s t e = absurd cc
the_key-same None p s t e = absurd cc

-- what is made of the key of an option that has one
pub option_and_then-the_key : {K X : Type 0} (f : K → Option X) (o : Option K) (s : IsSome o) → option_and_then f o ≡ f (the_key o s)
option_and_then-the_key f (Some k) s = refl
option_and_then-the_key f None s = absurd cc

pub option_map_or-the_key : {K X : Type 0} (f : K → X) (o : Option K) (d : X) (s : IsSome o) → option_map_or f o d ≡ f (the_key o s)
option_map_or-the_key f (Some k) d s = refl
option_map_or-the_key f None d s = absurd cc

module _ {K V : Type 0} (number : K → ℕ) where
  -- a pair that was found is still there
  pub IsFound-write_value : (W : List (K × V)) (C slot place : ℕ) (k : K) (v : V) → IsFound number W C slot place → IsFound number (write_value number W k v) C slot place
  IsFound-write_value W C slot place k v is =
      let same = key_at-written number W C slot place k v in
      let some : IsSome (key_at (slot_of number (write_value number W k v) C slot) place) = subst IsSome (sym same) is.some in
      record {
        some = some;
        at = subst (λ q. IsAt number (write_value number W k v) C (record { key = q; slot = slot; place = place })) (sym (the_key-same _ _ some is.some same)) (IsAt-write_value number W C _ k v is.at);
      }

  -- a write at a place where a pair is found
  module _ (W : List (K × V)) (C slot place : ℕ) (v : V) (is : IsFound number W C slot place) where
    -- is one of the value of the key there
    pub write_in-the_key : write_in number W C slot place v ≡ write_value number W (the_key (key_at (slot_of number W C slot) place) is.some) v
    write_in-the_key = option_map_or-the_key (λ k. write_value number W k v) (key_at (slot_of number W C slot) place) W is.some

    -- and leaves that key there
    pub key_at-write_in : key_at (slot_of number (write_in number W C slot place v) C slot) place ≡ key_at (slot_of number W C slot) place
    key_at-write_in = ap (λ M. key_at (slot_of number M C slot) place) write_in-the_key ∙ key_at-written number W C slot place _ v

    pub IsFound-write_in : IsFound number (write_in number W C slot place v) C slot place
    IsFound-write_in = subst (λ M. IsFound number M C slot place) (sym write_in-the_key) (IsFound-write_value W C slot place _ v is)
