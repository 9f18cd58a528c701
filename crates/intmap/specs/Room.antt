-- Which pairs a table has room for.
use Rattle.std.specs.Prelude.{◌≡◌, ℕ, ◌+◌, ◌^◌, ◌<◌, ◌≤◌, List, ◌++◌, length, All}
use Rattle.intmap_table.specs.Bindings.{HasDistinctKeys}
use Rattle.intmap_table.specs.Reach.{class_size}
use Rattle.intmap_table.specs.Figures.{load_of}
use Rattle.intmap.specs.Growth.{MeetsLoad, last_due}
use Rattle.intmap.specs.Map.{MapState}

module _ {K V : Type 0} (number : K → ℕ) where
  -- the numbers of the keys of L stand among C numbers in a row
  pub record AreInRow (C : ℕ) (L : List (K × V)) : Type 0 where
    pub first : ℕ
    pub all : All (λ p. (first ≤ number p.0) × (number p.0 < first + C)) L

  -- a table of C slots with the pairs L has room for the pairs ps at the load factor F: each key of ps shares its slot with no other
  -- key of L or ps, the length with all of them is below 2^64, and the last length up to it at which the load is checked meets the load
  pub record HasRoomFor (L : List (K × V)) (C F : ℕ) (ps : List (K × V)) : Type 0 where
    pub alone : All (λ p. class_size number (L ++ ps) C p.0 ≡ 1) ps
    pub count : length (L ++ ps) < 2 ^ 64
    pub load : 4 ≤ length (L ++ ps) → MeetsLoad C (last_due (length (L ++ ps))) F

  -- a table of C slots with the pairs L, in which R pairs behind the first ones of their slots are reserved, has room for n more pairs of
  -- any keys at the load factor F
  pub record HasRoomForAny (L : List (K × V)) (C F R n : ℕ) : Type 0 where
    pub memory : length L + n ≤ load_of number L C + R
    pub count : length L + n < 2 ^ 64
    pub load : MeetsLoad C (length L + n) F

  -- the map has room for n more pairs of any keys
  abbrev pub HasRoom : MapState K V → ℕ → Type 0
  HasRoom m n = HasRoomForAny m.walk m.capacity m.factor m.reserved n

  -- such a table has room for any pairs, at most n, whose keys are new and stand with its own in a row no longer than C
  abbrev pub HasRoomInRow : List (K × V) → ℕ → ℕ → ℕ → Type 0
  HasRoomInRow L C F n = (ps : List (K × V)) → length ps ≤ n → HasDistinctKeys number (L ++ ps) → AreInRow C (L ++ ps) → HasRoomFor L C F ps
