-- What contracts see of slots whose further pairs lie in nodes. No public clause cites this module.
use Rattle.std.specs.Prelude.{◌≡◌, ℕ, zero, suc, ◌+◌, ◌*◌, ◌^◌, ◌<◌, nat_lt, Bool, List, [], ◌∷◌, length, get_or, slice_index_or}
use Rattle.std.specs.List.{All, AllZip}
use Rattle.intmap_table.specs.Classes.{IsCapacity, slot_number}
use Rattle.intmap_table.specs.Cloning.{IsPairClone}
use Rattle.intmap_table.specs.Walk.{slot_of}
use Rattle.intmap_table.specs.Tables.Bits.{IsWordFrom}
use Rattle.intmap_table.specs.Tables.Nodes.{nowhere, Node, empty, Pool, rows_in, AreLinked, IsChainSet, IsSlotSet}
use Rattle.intmap_table.specs.Tables.Slots.{AreMarked, write_at}

-- the pairs of each slot, and how many pairs behind the first ones there is memory for in all
pub record Contents (K X : Type 0) : Type 0 where
  pub rows : List (List (K × X))
  pub total : ℕ

-- the pairs of slot i
abbrev pub row_at : {K X : Type 0} → Contents K X → ℕ → List (K × X)
row_at c i = slice_index_or c.rows i []

-- with a pair behind the first one
abbrev pub put_second : {P : Type 0} → List P → P → List P
put_second [] p = p ∷ []
put_second (q ∷ ps) p = q ∷ p ∷ ps

-- the rows with v as the value of the pair at place j of row i
abbrev pub write_rows : {K X : Type 0} → List (List (K × X)) → ℕ → ℕ → X → List (List (K × X))
write_rows [] i j v = []
write_rows (row ∷ R) zero j v = write_at row j v ∷ R
write_rows (row ∷ R) (suc i) j v = row ∷ write_rows R i j v

-- word `at` says which of its rows hold a pair, and is without those before row `from`. No row from `from` up to the first one of this word holds a pair
abbrev pub IsRowWord : {P : Type 0} → List (List P) → ℕ → ℕ → ℕ → Type 0
IsRowWord R from at word = IsWordFrom (λ i. nat_lt 0 (length (slice_index_or R i []))) from at word

-- D slots in place of C, and no fewer
pub record IsGrown (C D : ℕ) : Type 0 where
  pub old : IsCapacity C
  pub new : IsCapacity D
  pub times : (a : ℕ) × (D ≡ C * 2 ^ a)

module _ {K X : Type 0} (number : K → ℕ) where
  -- each of the C rows has pairs of its slot alone
  pub record IsOldRows (R : List (List (K × X))) (C : ℕ) : Type 0 where
    pub len : length R ≡ C
    pub own : (i : ℕ) → i < C → All (λ p. slot_number number p.0 C ≡ i) (get_or R i [])

  -- each row has pairs of its own slot alone, and the number of rows is one that a table may have
  pub record IsTable (R : List (List (K × X))) : Type 0 where
    pub capacity : IsCapacity (length R)
    pub in_place : (i : ℕ) → i < length R → All (λ p. slot_number number p.0 (length R) ≡ i) (slice_index_or R i [])

  -- the pairs of L are in C slots, each in its own
  pub record HasMoved (L : List (K × X)) (C : ℕ) (R : List (List (K × X))) : Type 0 where
    pub capacity : IsCapacity C
    pub len : length R ≡ C
    pub rows : (j : ℕ) → j < C → slice_index_or R j [] ≡ slot_of number L C j

  -- slots, a power of two of them, in which each pair is at home; the marks of those that hold a pair; and their number less one
  pub record AreRows (slots : List (Node (K × X))) (pool : Pool (K × X)) (marks : List Bool) (mask : ℕ) : Type 0 where
    pub linked : AreLinked (λ p. slot_number number p.0 (length slots)) slots pool
    pub capacity : IsCapacity (length slots)
    pub marked : AreMarked (rows_in slots pool.nodes) marks
    pub count : mask + 1 ≡ length slots

module _ {K X : Type 0} (clones : X → X → Type 0) where
  -- link m leads through clones of these pairs, which lie in new nodes
  pub record IsChainClone (ps : List (K × X)) (a b : Pool (K × X)) (m : ℕ) : Type 0 where
    pub copies : List (K × X)
    pub are : AllZip (IsPairClone clones) ps copies
    pub chain : IsChainSet a nowhere copies b m

  -- a new slot has clones of these pairs, and those behind the first one lie in new nodes
  pub record IsRowClone (row : List (K × X)) (a b : Pool (K × X)) (t : Node (K × X)) : Type 0 where
    pub copies : List (K × X)
    pub are : AllZip (IsPairClone clones) row copies
    pub slot : IsSlotSet a empty copies b t
