-- What a reservation and a new load factor do to a map and to a plain list, and why they fail.
use Rattle.std.specs.Prelude.{◌≡◌, ◌↔◌, ◌⊎◌, ℕ, ◌+◌, ◌^◌, ◌<◌, ◌≤◌, max, length}
use Rattle.intmap.specs.Growth.{IsWanted, IsLeastPower, MeetsLoad, NeedsTooMuch}
use Rattle.intmap.specs.Map.{MapState, in_slots, still_reserved}
use Rattle.intmap.specs.PlainLists.{PlainList}
use Rattle.intmap.specs.declared.refusal.Cause.{Cause}
use Rattle.intmap.specs.declared.refusal.Cause.TheVariants.{Memory, TooLarge}

-- a reservation for n pairs, at most 2^63, makes D slots of C: the greater of C and the least power of two that is at least n
pub record IsEnough (C n D : ℕ) : Type 0 where
  pub in_range : n ≤ 2 ^ 63
  pub power : ℕ
  pub least : IsLeastPower n power
  pub capacity : D ≡ max C power

-- it may fail with this cause: as too large if and only if n is above 2^63, and for want of memory only if C is less than n
pub record MayRefuseReserve (C n : ℕ) (cause : Cause) : Type 0 where
  pub too_large : (cause ≡ TooLarge) ↔ (2 ^ 63 < n)
  pub memory : cause ≡ Memory → C < n

-- the load factor F for n pairs makes D slots of C: the least of C, 2C, 4C, .. that meets it, at most 2^63
pub record MeetsFactor (C n F D : ℕ) : Type 0 where
  pub in_range : D ≤ 2 ^ 63
  pub wanted : IsWanted C n F D

-- it may fail with this cause: as too large if and only if more than 2^63 slots are needed, and for want of memory only if C slots don't
-- meet it
pub record MayRefuseFactor (C n F : ℕ) (cause : Cause) : Type 0 where
  pub too_large : (cause ≡ TooLarge) ↔ NeedsTooMuch (IsWanted C n F)
  pub memory : cause ≡ Memory → IsWanted C n F C → ⊥

-- no room can be made for n pairs in all, at the load factor F: no map has as many, or more than 2^63 slots are needed
abbrev pub NeedsTooMuchRoom : ℕ → ℕ → ℕ → Type 0
NeedsTooMuchRoom C n F = (2 ^ 64 ≤ n) ⊎ NeedsTooMuch (IsWanted C n F)

-- the making of room for n pairs in all may fail with this cause: as too large if and only if it can't be made, and for want of memory only
-- if C slots don't meet the load factor with n pairs
pub record MayRefuseRoom (C n F : ℕ) (cause : Cause) : Type 0 where
  pub too_large : (cause ≡ TooLarge) ↔ NeedsTooMuchRoom C n F
  pub memory : cause ≡ Memory → MeetsLoad C n F → ⊥

module _ {K V : Type 0} (number : K → ℕ) where
  -- a reservation of room for so many further pairs took the map m to n: the same pairs, in slots that are enough for all of them
  pub record IsReservation (m : MapState K V) (additional : ℕ) (n : MapState K V) : Type 0 where
    pub enough : IsEnough m.capacity (length m.walk + additional) n.capacity
    pub state : n ≡ in_slots number m n.capacity n.reserved
    pub reserved : still_reserved number m n.capacity ≤ n.reserved

  -- room was made for so many further pairs, which took the map m to n: the same pairs, in slots that meet its load factor with all of them
  pub record IsRoomMade (m : MapState K V) (additional : ℕ) (n : MapState K V) : Type 0 where
    pub count : length m.walk + additional < 2 ^ 64
    pub meets : MeetsFactor m.capacity (length m.walk + additional) m.factor n.capacity
    pub state : n ≡ in_slots number m n.capacity n.reserved
    pub reserved : still_reserved number m n.capacity ≤ n.reserved

  -- the load factor F was set, which took the map m to n: the same pairs, in slots that meet F
  pub record IsNewFactor (m : MapState K V) (F : ℕ) (n : MapState K V) : Type 0 where
    pub meets : MeetsFactor m.capacity (length m.walk) F n.capacity
    pub state : n ≡ in_slots number (record m { factor = F }) n.capacity n.reserved
    pub reserved : still_reserved number m n.capacity ≤ n.reserved

module _ {K V : Type 0} where
  -- a reservation in a plain list changes its capacity alone
  pub record ListReserves (s : PlainList K V) (additional : ℕ) (t : PlainList K V) : Type 0 where
    pub enough : IsEnough s.capacity (length s.pairs + additional) t.capacity
    pub after : t ≡ record s { capacity = t.capacity }

  -- a new load factor changes its capacity with it
  pub record ListSetsFactor (s : PlainList K V) (F : ℕ) (t : PlainList K V) : Type 0 where
    pub meets : MeetsFactor s.capacity (length s.pairs) F t.capacity
    pub after : t ≡ record s { capacity = t.capacity; factor = F }
