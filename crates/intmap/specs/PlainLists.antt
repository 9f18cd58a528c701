-- A plain list of pairs with a capacity, a load factor and two counts, and what insertions make of it.
use Rattle.std.specs.Prelude.{◌≡◌, ◌↔◌, ℕ, ◌+◌, ◌<◌, ◌==◌, cond, List, [], ◌∷◌, ◌++◌, length, Option, Some, None, IsNone}
use Rattle.intmap_table.specs.Bindings.{value_of, put_pair}
use Rattle.intmap_table.specs.Reach.{class_size, reach}
use Rattle.intmap.specs.Growth.{IsNext}
use Rattle.intmap.specs.Map.{MapState, first_factor, IsOutOfRange, Fits}
use Rattle.intmap_table.specs.Walk.{StandsFor}
use Rattle.intmap.specs.declared.refusal.Cause.{Cause}
use Rattle.intmap.specs.declared.refusal.Cause.TheVariants.{Memory, TooLarge}

-- a plain list of pairs, which growth never touches, with a capacity, a load factor in thousandths, and the counts `placed` and
-- `compared`, as a map has them
pub record PlainList (K V : Type 0) : Type 0 where
  pub pairs : List (K × V)
  pub capacity : ℕ
  pub factor : ℕ
  pub placed : ℕ
  pub compared : ℕ

-- no pairs in C slots, at the load factor of a new map, and nothing counted
abbrev pub empty_list : {K V : Type 0} → ℕ → PlainList K V
empty_list C = record { pairs = []; capacity = C; factor = first_factor; placed = 0; compared = 0 }

-- the pairs of a map in the order of its walk
abbrev pub list_of : {K V : Type 0} → MapState K V → PlainList K V
list_of m = record { pairs = m.walk; capacity = m.capacity; factor = m.factor; placed = m.placed; compared = m.compared }

module _ {K V : Type 0} (number : K → ℕ) where
  -- the list stands for the map: for its walk, with the same capacity, load factor and counts
  pub record Stands (s : PlainList K V) (m : MapState K V) : Type 0 where
    pub walk : StandsFor number s.pairs m.walk s.capacity
    pub capacity : s.capacity ≡ m.capacity
    pub factor : s.factor ≡ m.factor
    pub placed : s.placed ≡ m.placed
    pub compared : s.compared ≡ m.compared

  -- the list once k was looked up: `compared` rose by the reach of k
  abbrev pub looked_up : PlainList K V → K → PlainList K V
  looked_up s k = record s { compared = s.compared + reach number s.pairs s.capacity k }

  -- a successful insertion: it isn't too large, the pair is last, and growth changes the capacity alone; if it does, all pairs
  -- are put into the larger table
  pub record ListInserts (s : PlainList K V) (k : K) (v : V) (t : PlainList K V) : Type 0 where
    pub fits : Fits number s.pairs s.capacity s.factor k t.capacity
    pub placed : t.placed ≡ s.placed + cond (t.capacity == s.capacity) 0 (length t.pairs)
    pub after : t ≡ record s { pairs = put_pair number s.pairs s.capacity k v; capacity = t.capacity; placed = t.placed }

  -- an insertion may fail with this cause: for a new key alone, as too large if and only if the key is out of range, and
  -- for want of memory never if the capacity stays and no present key shares its slot
  pub record RefusalIsDue (s : PlainList K V) (k : K) (cause : Cause) : Type 0 where
    pub new_key : IsNone (value_of number s.pairs k)
    pub too_large : (cause ≡ TooLarge) ↔ IsOutOfRange number s.pairs s.capacity s.factor k
    pub memory : cause ≡ Memory → IsNext s.capacity (length s.pairs + 1) s.factor s.capacity → 0 < class_size number s.pairs s.capacity k

  -- the pairs are looked up and inserted in turn, and none fails
  abbrev pub ListInsertsAll : PlainList K V → List (K × V) → PlainList K V → Type 0
  ListInsertsAll s [] t = t ≡ s
  ListInsertsAll s (p ∷ ps) t = (m : PlainList K V) × ListInserts (looked_up s p.0) p.0 p.1 m × ListInsertsAll m ps t

  -- the pairs are looked up and inserted in turn up to the first that fails: n is the number before it, with that one and its
  -- cause, or none fails
  abbrev pub ListInsertsUpTo : PlainList K V → List (K × V) → ℕ → Option ((K × V) × Cause) → PlainList K V → Type 0
  ListInsertsUpTo s ps n None t = (n ≡ length ps) × ListInsertsAll s ps t
  ListInsertsUpTo s ps n (Some refused) t =
      (qs : List (K × V)) × (rest : List (K × V)) × (m : PlainList K V)
      × (ps ≡ qs ++ refused.0 ∷ rest) × (n ≡ length qs) × ListInsertsAll s qs m × RefusalIsDue m refused.0.0 refused.1
      × (t ≡ looked_up m refused.0.0)
