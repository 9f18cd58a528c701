-- Where a pair can be put at once, without a look at what is behind the first pair of a slot. No public clause cites this module.
use Rattle.std.specs.Prelude.{◌≡◌, ℕ, ◌+◌, ◌^◌, ◌<◌, List, [], length, None}
use Rattle.intmap_table.specs.Bindings.{value_of}
use Rattle.intmap_table.specs.Firsts.{first_of, reach_behind, IsFirst}
use Rattle.intmap_table.specs.Walk.{slot_of}
use Rattle.intmap.specs.Growth.{IsNext}
use Rattle.intmap.specs.Map.{MapState}
use Rattle.intmap.specs.declared.map.insert.Spot.{Spot}
use Rattle.intmap.specs.declared.map.insert.Spot.TheVariants.{Vacant, First, Other}

-- the slot of a spot
abbrev pub slot_in : Spot → ℕ
slot_in (Vacant i) = i
slot_in (First i) = i
slot_in (Other i) = i

-- one pair more is below 2^64, and the capacity stays
pub record TakesOneMore {K V : Type 0} (W : List (K × V)) (C F : ℕ) : Type 0 where
  pub count : length W + 1 < 2 ^ 64
  pub stays : IsNext C (length W + 1) F C

module _ {K V : Type 0} (number : K → ℕ) where
  -- slot i holds no pair, and the map takes one more
  pub record TakesFirst (W : List (K × V)) (C F i : ℕ) : Type 0 where
    pub empty : slot_of number W C i ≡ []
    pub more : TakesOneMore W C F

  -- k can be put at this spot
  abbrev pub IsSpot : MapState K V → K → Spot → Type 0
  IsSpot m k (Vacant i) = TakesFirst m.walk m.capacity m.factor i
  IsSpot m k (First i) = IsFirst number m.walk m.capacity i k
  IsSpot m k (Other i) = (TakesFirst m.walk m.capacity m.factor i → ⊥) × (value_of number (first_of number m.walk m.capacity i) k ≡ None)

  -- the map once the first pair of slot i was compared, if the slot holds one
  abbrev pub after_first : MapState K V → ℕ → MapState K V
  after_first m i = record m { compared = m.compared + length (first_of number m.walk m.capacity i) }

  -- and once those behind it were compared with k
  abbrev pub after_rest : MapState K V → ℕ → K → MapState K V
  after_rest m i k = record m { compared = m.compared + reach_behind number m.walk m.capacity i k }
