-- Several keys at once: their values, and what a map is once these were written.
use Rattle.std.specs.Prelude.{◌≡◌, ℕ, ⊤, false, cond, List, [], ◌∷◌, map, Option, is_some}
use Rattle.std.specs.Borrow.{GName}
use Rattle.std.specs.List.{AllByRecursion, filter_map}
use Rattle.intmap_table.specs.Bindings.{value_of, write_value}
use Rattle.intmap_table.specs.Classes.{same_key}
use Rattle.intmap.specs.Map.{MapState}

-- the values of several keys, of which some were taken: the walk and the capacity of the map, the keys that are left, and the name of
-- the loan of the values
pub record DisjointState (K V : Type 0) : Type 0 where
  pub walk : List (K × V)
  pub capacity : ℕ
  pub keys : List K
  pub loan : GName

-- no two of the keys have the same number
abbrev pub AreDistinct : {K : Type 0} → (K → ℕ) → List K → Type 0
AreDistinct number [] = ⊤
AreDistinct number (k ∷ ks) = AllByRecursion (λ q. same_key number k q ≡ false) ks × AreDistinct number ks

-- q has the number of none of the keys
abbrev pub IsNoneOf : {K : Type 0} → (K → ℕ) → List K → K → Type 0
IsNoneOf number ks q = AllByRecursion (λ k. same_key number k q ≡ false) ks

module _ {K V : Type 0} (number : K → ℕ) where
  -- the values of those of the keys that are present, in the order of the keys
  abbrev pub present_values : List (K × V) → List K → List V
  present_values L ks = filter_map (value_of number L) ks

  -- with vs as the values of those of the keys that are present, in turn and as far as they go
  abbrev pub write_each : List (K × V) → List K → List V → List (K × V)
  write_each L [] vs = L
  write_each L (k ∷ ks) [] = L
  write_each L (k ∷ ks) (v ∷ vs) = cond (is_some (value_of number L k)) (write_each (write_value number L k v) ks vs) (write_each L ks (v ∷ vs))

  -- the map with these values of those of the keys that are present, and all else as it was
  abbrev pub written_each : MapState K V → List K → List V → MapState K V
  written_each m ks vs = record m { walk = write_each m.walk ks vs }

  -- the values of the keys that are left, in turn, and `None` for an absent key
  abbrev pub left_values : DisjointState K V → List (Option V)
  left_values d = map (value_of number d.walk) d.keys
