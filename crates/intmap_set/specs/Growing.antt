-- What a reservation does to a set. The map's `MayRefuseReserve` and `MayRefuseRoom` say why one fails.
use Rattle.std.specs.Prelude.{◌≡◌, ℕ, ◌+◌, ◌^◌, ◌<◌, ◌≤◌, length}
use Rattle.intmap.specs.Growing.{IsEnough, MeetsFactor}
use Rattle.intmap.specs.Map.{in_slots, still_reserved}
use Rattle.intmap_set.specs.Sets.{SetState, as_map, load_factor, set_of}

module _ {K : Type 0} (number : K → ℕ) where
  -- a reservation for `additional` further members took the set s to t: t has the same members, in enough slots
  pub record IsReservation (s : SetState K) (additional : ℕ) (t : SetState K) : Type 0 where
    pub enough : IsEnough s.capacity (length s.walk + additional) t.capacity
    pub state : t ≡ set_of (in_slots number (as_map s) t.capacity t.reserved)
    pub reserved : still_reserved number (as_map s) t.capacity ≤ t.reserved

  -- room was made for so many further members, which took the set s to t: t has the same members, in slots that meet the load factor with all of them
  pub record IsRoomMade (s : SetState K) (additional : ℕ) (t : SetState K) : Type 0 where
    pub count : length s.walk + additional < 2 ^ 64
    pub meets : MeetsFactor s.capacity (length s.walk + additional) load_factor t.capacity
    pub state : t ≡ set_of (in_slots number (as_map s) t.capacity t.reserved)
    pub reserved : still_reserved number (as_map s) t.capacity ≤ t.reserved
