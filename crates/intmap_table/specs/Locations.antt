-- Where the pair of a key is in a table.
use Rattle.std.proofs.Common.{subst}
use Rattle.std.specs.Prelude.{◌≡◌, ℕ, zero, suc, List, [], ◌∷◌, cond, Option, Some, None, IsSome, position}
use Rattle.std.specs.Option.{option_map_or}
use Rattle.intmap_table.specs.Bindings.{write_value}
use Rattle.intmap_table.specs.Classes.{slot_number, same_key}
use Rattle.intmap_table.specs.Walk.{slot_of}
use Rattle.intmap_table.specs.declared.table.locate.Location.{Location}

-- the key of the pair at place i
abbrev pub key_at : {K V : Type 0} → List (K × V) → ℕ → Option K
key_at [] i = None
key_at (p ∷ L) zero = Some p.0
key_at (p ∷ L) (suc i) = key_at L i

-- the key in an option that has one
abbrev pub the_key : {K : Type 0} → (o : Option K) → IsSome o → K
the_key (Some k) is = k
the_key None is = absurd (subst (λ b. cond b ⊥ (Unit {0})) is tt)

module _ {K V : Type 0} (number : K → ℕ) where
  -- the pair of the location's key has the location's place among the pairs of its slot, in a table of C slots with walk W
  pub record IsAt (W : List (K × V)) (C : ℕ) (at : Location K) : Type 0 where
    pub slot : at.slot ≡ slot_number number at.key C
    pub place : position (λ p. same_key number at.key p.0) (slot_of number W C at.slot) ≡ Some at.place

  -- a pair is at the place of the slot, and its key is found there
  pub record IsFound (W : List (K × V)) (C slot place : ℕ) : Type 0 where
    pub some : IsSome (key_at (slot_of number W C slot) place)
    pub at : IsAt W C (record { key = the_key (key_at (slot_of number W C slot) place) some; slot = slot; place = place })

  -- with v as the value of the key at place j of slot i, if a pair is there
  abbrev pub write_in : List (K × V) → ℕ → ℕ → ℕ → V → List (K × V)
  write_in W C i j v = option_map_or (λ k. write_value number W k v) (key_at (slot_of number W C i) j) W
