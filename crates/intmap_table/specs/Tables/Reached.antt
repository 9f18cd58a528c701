-- Walks that go on from a cursor. No public clause cites this module.
use Rattle.std.specs.Prelude.{◌≡◌, ℕ, ◌+◌, ◌<◌, Bool, List, [], drop, length, slice_index_or}
use Rattle.intmap_table.specs.declared.table.walk.Cursor.{Cursor}
use Rattle.intmap_table.specs.Tables.Bits.{marked, IsWordFrom}
use Rattle.intmap_table.specs.Tables.Nodes.{Node, empty, chain_of, rows_in, IsChain, IsSlot}
use Rattle.intmap_table.specs.Tables.Slots.{AreMarked, count_before}

-- rows, and a cursor in them
pub record Position (K X : Type 0) : Type 0 where
  pub rows : List (List (K × X))
  pub at : Cursor

-- from the cursor on, the pairs are those that a link leads through, which are of the cursor's row, and then those of the rows from `from` on, whose marks are in words
pub record IsPosition {P : Type 0} (slots : List (Node P)) (nodes : List (Node P)) (marks : List Bool) (at : Cursor) (link from left_at left : ℕ) : Type 0 where
  pub chain : IsChain nodes link
  pub chains : (i : ℕ) → i < length slots → IsSlot nodes (slice_index_or slots i empty)
  pub bits : AreMarked (rows_in slots nodes) marks
  pub here : 0 < length (chain_of nodes link) → chain_of nodes link ≡ drop at.place (slice_index_or (rows_in slots nodes) at.slot [])
  pub next : count_before (rows_in slots nodes) from 0 ≡ count_before (rows_in slots nodes) at.slot at.place + length (chain_of nodes link)
  pub word : IsWordFrom (marked marks) from left_at left
