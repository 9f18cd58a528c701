-- What a contract sees of members that are removed from the front of the walk, and of a `Drain`.
use Rattle.std.specs.Prelude.{◌≡◌, Option}
use Rattle.std.specs.Borrow.{GName}
use Rattle.std.specs.Iterator.{YieldsFirst}
use Rattle.intmap_set.specs.declared.set.iter.drain.Drain.{Drain}
use Rattle.intmap_set.specs.Sets.{SetState}

module _ {K A : Type 0} {g : _} {e : _} where
  -- the set as it is at this moment, whose members are those that are left
  abbrev pub drained_set : Drain K A g e → SetState K
  drained_set d = d.set.now

  -- the name of the reference to the set
  abbrev pub drain_lender : Drain K A g e → GName
  drain_lender d = d.set.ghost_name

  -- `next` removed the first member of the set, and changed nothing else
  abbrev pub DrainsFirst : Drain K A g e → Option K → Drain K A g e → Type 0
  DrainsFirst d r rest = YieldsFirst (λ it. (drained_set it).walk) d r rest
      × (drain_lender rest ≡ drain_lender d)
      × (drained_set rest ≡ record (drained_set d) { walk = (drained_set rest).walk })
