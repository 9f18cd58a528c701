-- What a contract sees of pairs that are removed from the front of the walk, and of a `Drain`.
use Rattle.std.specs.Prelude.{◌≡◌, List, Option}
use Rattle.std.specs.Borrow.{GName}
use Rattle.std.specs.Iterator.{YieldsFirst}
use Rattle.std.specs.declared.cmp.PartialEq as eq
use Rattle.intmap_table.specs.declared.key.IntKey as key
use Rattle.intmap.specs.declared.map.iter.drain.Drain.{Drain}
use Rattle.intmap.specs.Map.{MapState, with_walk}

module _ {K V A : Type 0} {g : key.Ghosts K} {e : eq.Ghosts K} where
  -- the map behind the drain, as it is at this moment
  abbrev pub drained_map : Drain K V A g e → MapState K V
  drained_map d = d.map.now

  -- the pairs that are left, which are all that the map has
  abbrev pub drain_rest : Drain K V A g e → List (K × V)
  drain_rest d = (drained_map d).walk

  -- the name of the reference to the map
  abbrev pub drain_lender : Drain K V A g e → GName
  drain_lender d = d.map.ghost_name

  -- `next` removed the first pair of the map, and changed nothing else
  abbrev pub DrainsFirst : Drain K V A g e → Option (K × V) → Drain K V A g e → Type 0
  DrainsFirst d r rest = YieldsFirst drain_rest d r rest
      × (drain_lender rest ≡ drain_lender d)
      × (drained_map rest ≡ with_walk (drained_map d) (drain_rest rest))
