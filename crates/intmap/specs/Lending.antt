-- What a map is once values of it were lent and written.
use Rattle.std.specs.Prelude.{ℕ, List, Option}
use Rattle.std.specs.Borrow.{Lends, LendsIf, follows, Fml, RattleType, MutBor, GName}
use Rattle.std.specs.Map.{values_of}
use Rattle.std.specs.declared.alloc.Allocator as allocator
use Rattle.std.specs.declared.cmp.PartialEq as eq
use Rattle.intmap_table.specs.declared.key.IntKey as key
use Rattle.intmap_table.specs.Locations.{write_in}
use Rattle.intmap.specs.Map.{MapState, after_search, map_with_values, written}
use Rattle.intmap.specs.Disjoint.{present_values, written_each}
use Rattle.intmap.specs.contracts.map.IntMap.{the_row as map_row}

module _ (K V A : RattleType) (g : key.Ghosts K.Denot) (e : eq.Ghosts K.Denot) (a : allocator.Ghosts A.Denot) (m : MutBor (MapState K.Denot V.Denot)) where
  -- once the loan named r ends, the map behind m has its last value as the value of the key at place j of slot i
  abbrev pub map_lends_in : ℕ → ℕ → MutBor V.Denot → Fml
  map_lends_in i j r = Lends (map_row K V A g e a) V m r (λ v. record m.now { walk = write_in g.number_of m.now.walk m.now.capacity i j v })

  -- the same of the key k, once it was looked up; if it is absent, the map is as after the search
  abbrev pub map_lends_present : K.Denot → Option (MutBor V.Denot) → Fml
  map_lends_present k r = LendsIf (map_row K V A g e a) V m r (λ v. written g.number_of (after_search g.number_of m.now k) k v) (after_search g.number_of m.now k)

  -- once the loan named r ends, the map behind m is as it was, with the values of some map in place of its own
  abbrev pub map_lends_values : GName → Fml
  map_lends_values r = follows (map_row K V A g e a) (map_row K V A g e a) m.ghost_name r (λ last. map_with_values m.now (values_of last.walk))

  -- once the loan named r ends, the map behind m is as it was, with the values that the keys ks have in some map in place of their own
  abbrev pub map_lends_each : List K.Denot → GName → Fml
  map_lends_each ks r = follows (map_row K V A g e a) (map_row K V A g e a) m.ghost_name r (λ last. written_each g.number_of m.now ks (present_values g.number_of last.walk ks))
