-- What calls make of a map from 64-bit keys to 64-bit values, m before and n after, and what they return.
use Rattle.std.specs.Prelude.{◌≡◌, ◌↔◌, ◌⊎◌, ℕ, ℤ, ◌+◌, ◌^◌, ◌<◌, ◌≤◌, ◌%◌, cond, Bool, true, length, Option, None, Some, is_some}
use Rattle.intmap.specs.Bindings.{value_of, IsPresent, Updates}
use Rattle.intmap.specs.Cloning.{IsClone}
use Rattle.intmap.specs.Growing.{IsReservation, IsNewFactor, IsRoomMade, MayRefuseReserve, MayRefuseFactor, MayRefuseRoom, NeedsTooMuchRoom}
use Rattle.intmap.specs.Insertions.{MapInserts}
use Rattle.intmap.specs.Map.{MapState, empty_map, first_capacity, first_factor, after_search, after_remove, written}
use Rattle.intmap.specs.PlainLists.{RefusalIsDue, list_of}
use Rattle.intmap.specs.Room.{HasRoom, HasRoomInRow}
use Rattle.intmap_table.specs.Figures.{load_of}
use Rattle.intmap.specs.declared.refusal.Cause.{Cause}
use Rattle.intmap.specs.declared.refusal.Cause.TheVariants.{TooLarge}
use Rattle.intmap_c.specs.Statuses.{ok_status, present_status, absent_status, no_memory_status, too_large_status}
use Rattle.intmap_c.specs.declared.answer.FoundValue.{FoundValue}
use Rattle.intmap_c.specs.Answers.{value_found, no_value, Fails}

-- a map from 64-bit keys to 64-bit values, as contracts see it
abbrev pub State : Type 0
State = MapState ℕ ℕ

-- the map of a word; one without a map stands for a new one
abbrev pub map_of : Option State → State
map_of None = empty_map first_capacity
map_of (Some m) = m

-- P of the map before and the map after; or the word had no map and has none, and N
abbrev pub OnMap : Option State → Option State → Type 0 → (State → State → Type 0) → Type 0
OnMap None new N P = (new ≡ None) × N
OnMap (Some m) None N P = ⊥
OnMap (Some m) (Some n) N P = P m n

-- the same of a call that makes a map if the word has none: P of the map before, or of a new one, and of the map after; or the word had no map, has none, and N
abbrev pub OnMapOrNew : Option State → Option State → Type 0 → (State → State → Type 0) → Type 0
OnMapOrNew old None N P = (old ≡ None) × N
OnMapOrNew old (Some n) N P = P (map_of old) n

-- a key's number is the key
abbrev pub itself : ℕ → ℕ
itself = λ k. k

-- the value of the key, if it is present
abbrev pub bound_to : State → ℕ → Option ℕ
bound_to m k = value_of itself m.walk k

-- the number of slots that hold a pair
abbrev pub filled_slots_of : State → ℕ
filled_slots_of m = load_of itself m.walk m.capacity

-- n has as many pairs as m, and each key has the same value in both, or none
abbrev pub HaveSameBindings : State → State → Type 0
HaveSameBindings m n = ((q : ℕ) → bound_to n q ≡ bound_to m q) × (length n.walk ≡ length m.walk)

-- `same` says whether each key has the same value in both maps, or none
abbrev pub AreEqual : State → State → Bool → Type 0
AreEqual m n same = (same ≡ true) ↔ ((k : ℕ) → bound_to m k ≡ bound_to n k)

-- the word of the clone had `old` and has `new`: none if there is no map to clone, and otherwise a clone of the map; or there was no memory, and `new` is `old`
abbrev pub Clones : Option State → Option State → Option State → ℤ → Type 0
Clones None old new status = (status ≡ ok_status) × (new ≡ None)
Clones (Some m) old new status =
    ((status ≡ ok_status) × ((n : State) × (new ≡ Some n) × IsClone (λ v w. w ≡ v) m n))
    ⊎ ((status ≡ no_memory_status) × (new ≡ old))

-- k was inserted with v, as `MapInserts` says
abbrev pub Binds : State → State → ℕ → ℕ → Type 0
Binds m n k v = MapInserts itself (λ n. n < 2 ^ 64) m k v n

-- the insertion of k may fail with this cause: as `RefusalIsDue` allows, and never if the map has room for a pair of any key
pub record MayRefuseToBind (m : State) (k : ℕ) (cause : Cause) : Type 0 where
  pub due : RefusalIsDue itself (list_of m) k cause
  pub no_room : HasRoom itself m 1 → ⊥

-- the insertion of k failed with such a cause, and the map is as it was except for the count of comparisons
abbrev pub FailsToBind : State → State → ℕ → ℤ → Type 0
FailsToBind m n k status = Fails (MayRefuseToBind m k) (after_search itself m k) n status

-- k was inserted with v, and its value before is returned; or the insertion failed
abbrev pub Inserts : State → State → ℕ → ℕ → FoundValue → Type 0
Inserts m n k v answer =
    ((answer ≡ value_found (bound_to m k)) × Binds m n k v)
    ⊎ ((answer ≡ no_value answer.status) × FailsToBind m n k answer.status)

-- k had a value, which stays; or it was absent, and was inserted with v; or the insertion failed
abbrev pub InsertsNew : State → State → ℕ → ℕ → ℤ → Type 0
InsertsNew m n k v status =
    ((status ≡ present_status) × IsPresent itself m.walk k × (n ≡ after_search itself m k))
    ⊎ ((status ≡ absent_status) × (bound_to m k ≡ None) × Binds m n k v)
    ⊎ FailsToBind m n k status

-- v was written in the place of the value of k, which is returned; if k is absent, nothing was written
pub record Replaces (m n : State) (k v : ℕ) (answer : FoundValue) : Type 0 where
  pub told : answer ≡ value_found (bound_to m k)
  pub bound : IsPresent itself m.walk k → n ≡ written itself (after_search itself m k) k v
  pub missing : bound_to m k ≡ None → n ≡ after_search itself m k
  pub updates : IsPresent itself m.walk k → Updates itself m.walk n.walk k (Some v)
  pub len : length n.walk ≡ length m.walk

-- `more` was added to the value of k, modulo 2^64, and the value before is returned; if k is absent, nothing was written
abbrev pub AddsPresent : State → State → ℕ → ℕ → FoundValue → Type 0
AddsPresent m n k more answer = Replaces m n k ((answer.value + more) % 2 ^ 64) answer

-- `more` was added to the value of k; or k was absent, and was inserted with `more`; or the insertion failed
abbrev pub AddsOrInserts : State → State → ℕ → ℕ → FoundValue → Type 0
AddsOrInserts m n k more answer =
    (IsPresent itself m.walk k × AddsPresent m n k more answer)
    ⊎ ((answer ≡ value_found None) × (bound_to m k ≡ None) × Binds m n k more)
    ⊎ ((answer ≡ no_value answer.status) × FailsToBind m n k answer.status)

-- the pair of k was removed, and its value is returned
pub record Removes (m n : State) (k : ℕ) (answer : FoundValue) : Type 0 where
  pub told : answer ≡ value_found (bound_to m k)
  pub state : n ≡ after_remove itself m k
  pub updates : Updates itself m.walk n.walk k None
  pub len : length n.walk + cond (is_some (bound_to m k)) 1 0 ≡ length m.walk

-- there was no memory for a first map, which was to have slots for this number of pairs, or these would be too many
abbrev pub MakesNone : ℕ → ℤ → Type 0
MakesNone additional status =
    ((status ≡ too_large_status) × (2 ^ 63 < additional))
    ⊎ ((status ≡ no_memory_status) × (additional ≤ 2 ^ 63))

-- there are at least as many slots as the pairs and this number make; or the call failed
abbrev pub Reserves : State → State → ℕ → ℤ → Type 0
Reserves m n additional status =
    ((status ≡ ok_status) × IsReservation itself m additional n × HaveSameBindings m n)
    ⊎ Fails (MayRefuseReserve m.capacity (length m.walk + additional)) m n status

-- there was no memory for a first map, which was to have room for this number of pairs, or these would be too many
abbrev pub MakesNoneWithRoom : ℕ → ℤ → Type 0
MakesNoneWithRoom more status =
    ((status ≡ too_large_status) × NeedsTooMuchRoom first_capacity more first_factor)
    ⊎ ((status ≡ no_memory_status) × (NeedsTooMuchRoom first_capacity more first_factor → ⊥))

-- there are slots for this number of pairs more, each key has its value, and as many new ids have room as `HasRoomInRow` says
pub record GainsRoom (m n : State) (more : ℕ) : Type 0 where
  pub made : IsRoomMade itself m more n
  pub same : HaveSameBindings m n
  pub room : HasRoomInRow itself n.walk n.capacity n.factor more

-- there is this room; or the call failed
abbrev pub MakesRoom : State → State → ℕ → ℤ → Type 0
MakesRoom m n more status =
    ((status ≡ ok_status) × GainsRoom m n more)
    ⊎ Fails (MayRefuseRoom m.capacity (length m.walk + more) m.factor) m n status

-- the same of a call that also requests memory for pairs that share a slot: there is room for this number of pairs of any keys
abbrev pub MakesRoomToShare : State → State → ℕ → ℤ → Type 0
MakesRoomToShare m n more status =
    ((status ≡ ok_status) × GainsRoom m n more × HasRoom itself n more)
    ⊎ Fails (λ cause. (cause ≡ TooLarge) ↔ NeedsTooMuchRoom m.capacity (length m.walk + more) m.factor) m n status

-- the load factor is F, and met; or the call failed
abbrev pub SetsFactor : State → State → ℕ → ℤ → Type 0
SetsFactor m n F status =
    ((status ≡ ok_status) × IsNewFactor itself m F n × HaveSameBindings m n)
    ⊎ Fails (MayRefuseFactor m.capacity (length m.walk) F) m n status
