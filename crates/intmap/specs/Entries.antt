-- What a contract sees of an entry: the map behind it and its key.
pub use Rattle.intmap.specs.declared.entry.Entry.TheVariants.{Occupied, Vacant}
use Rattle.std.specs.Prelude.{◌≡◌, ℕ, ◌+◌, [], length, Option, Result, Ok}
use Rattle.std.specs.Borrow.{Fml, RattleType, MutBor, follows, follows_if, name_if_ok, RestsIfErr}
use Rattle.std.specs.declared.alloc.Allocator as allocator
use Rattle.std.specs.declared.cmp.PartialEq as eq
use mir.Syntax.{named}
use Rattle.intmap_table.specs.declared.key.IntKey as key
use Rattle.intmap.specs.declared.entry.Entry.{Entry}
use Rattle.intmap.specs.declared.entry.OccupiedEntry.{OccupiedEntry}
use Rattle.intmap.specs.declared.refusal.Cause.{Cause}
use Rattle.intmap.specs.declared.refusal.Refused.{Refused}
use Rattle.intmap.specs.contracts.map.IntMap.{the_row as map_row}
use Rattle.intmap.specs.contracts.entry.OccupiedEntry as occupied
use Rattle.intmap_table.specs.Bindings.{value_of}
use Rattle.intmap.specs.Growth.{next_capacity}
use Rattle.intmap.specs.Map.{MapState, with_pair, written}
use Rattle.intmap.specs.PlainLists.{PlainList, list_of}
use Rattle.intmap_table.proofs.WrittenLemmas.{IsFound-write_value}
use Rattle.intmap_table.specs.Locations.{key_at, the_key}
use Rattle.intmap_table.specs.Walk.{slot_of}

module _ {K V A : Type 0} {g : key.Ghosts K} {e : eq.Ghosts K} where
  -- the reference to the map behind the entry
  abbrev pub entry_reference : Entry K V A g e → MutBor (MapState K V)
  entry_reference (Occupied o) = o.map
  entry_reference (Vacant v) = v.map

  -- the map behind the entry
  abbrev pub entry_map : Entry K V A g e → MapState K V
  entry_map x = (entry_reference x).now

  -- the key of an occupied entry: the key of the pair at its place
  abbrev pub occupied_key : OccupiedEntry K V A g e → K
  occupied_key o = the_key (key_at (slot_of g.number_of o.map.now.walk o.map.now.capacity o.slot) o.place) o.found.some

  -- the key that was looked up
  abbrev pub entry_key : Entry K V A g e → K
  entry_key (Occupied o) = occupied_key o
  entry_key (Vacant v) = v.key

  -- the value of that key, if it is present
  abbrev pub entry_value : Entry K V A g e → Option V
  entry_value x = value_of g.number_of (entry_map x).walk (entry_key x)

  -- the pairs of the map with its capacity, its load factor and both counts
  abbrev pub entry_list : Entry K V A g e → PlainList K V
  entry_list x = list_of (entry_map x)

  -- the capacity after one more pair
  abbrev pub next_entry_capacity : Entry K V A g e → ℕ
  next_entry_capacity x = let m = entry_map x in next_capacity m.capacity (length m.walk + 1) m.factor

  -- P if the key is present, and Q if it is absent
  abbrev pub MatchEntry : Entry K V A g e → Type 0 → Type 0 → Type 0
  MatchEntry (Occupied o) P Q = P
  MatchEntry (Vacant v) P Q = Q

  -- the map once w is the value of the key: in its place if it is present, and otherwise by a new pair at the end of its slot
  abbrev pub map_with_value : Entry K V A g e → V → MapState K V
  map_with_value (Occupied o) w = written g.number_of o.map.now (occupied_key o) w
  map_with_value (Vacant v) w = with_pair g.number_of v.map.now v.key w (next_entry_capacity (Vacant v))

  -- y is the entry x, once w is the value of the key
  pub record IsWritten (x : Entry K V A g e) (w : V) (y : Entry K V A g e) : Type 0 where
    pub same_reference : (entry_reference y).ghost_name ≡ (entry_reference x).ghost_name
    pub map : entry_map y ≡ map_with_value x w
    pub key : entry_key y ≡ entry_key x

  -- the entry o, once w is the value of the key; an entry holds a proof that its pair is there, of which there is only one
  abbrev pub occupied_with_value : OccupiedEntry K V A g e → V → OccupiedEntry K V A g e
  occupied_with_value o w = record {
    map = record o.map { now = map_with_value (Occupied o) w };
    slot = o.slot;
    place = o.place;
    found = IsFound-write_value g.number_of o.map.now.walk o.map.now.capacity o.slot o.place (occupied_key o) w o.found;
  }

-- a value was made, its insertion failed with a cause that was due, and e is the error that is made of the failure
pub record IsMadeRefusal {V E : Type 0} (makes : Result V E → Type 0) (from_gives : Refused V → E → Type 0) (is_due : Cause → Type 0) (e : E) : Type 0 where
  pub refused : Refused V
  pub value : makes (Ok refused.value)
  pub due : is_due refused.cause
  pub error : from_gives refused e

module _ (K V A : RattleType) {g : key.Ghosts K.Denot} {e : eq.Ghosts K.Denot} (a : allocator.Ghosts A.Denot) where
  -- once the loan named r ends, the map behind the entry has the last value written through it as the value of the key
  abbrev pub entry_lends : Entry K.Denot V.Denot A.Denot g e → MutBor V.Denot → Fml
  entry_lends x r = follows (map_row K V A g e a) V (entry_reference x).ghost_name r.ghost_name (map_with_value x)

  -- the same of a call that may fail; if it does, the map stays
  abbrev pub entry_lends_ok : {E : Type 0} → Entry K.Denot V.Denot A.Denot g e → Result (MutBor V.Denot) E → Fml
  entry_lends_ok x r = follows_if (map_row K V A g e a) V (entry_reference x).ghost_name (name_if_ok (λ r. r.ghost_name) r) (map_with_value x) (entry_map x)

  -- if the call returns no entry, the map behind x stays
  abbrev pub entry_rests : {E : Type 0} → Entry K.Denot V.Denot A.Denot g e → Result (OccupiedEntry K.Denot V.Denot A.Denot g e) E → Fml
  entry_rests x r = RestsIfErr (map_row K V A g e a) (entry_reference x) (λ o. o.map.ghost_name) r (λ n. n ≡ entry_map x)

  -- the same of a loan of the entry behind o, after which the entry is there again
  abbrev pub occupied_lends : MutBor (OccupiedEntry K.Denot V.Denot A.Denot g e) → MutBor V.Denot → Fml
  occupied_lends o r = follows (occupied.the_row (record { mir = named 1; lft = [] }) K V A g e a) V o.ghost_name r.ghost_name (occupied_with_value o.now)
