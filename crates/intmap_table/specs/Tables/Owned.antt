-- The pairs of slots by value, seen between two steps. No public clause cites this module.
use Rattle.std.specs.Prelude.{◌≡◌, ℕ, ◌<◌, ◌≤◌, nat_lt, Bool, List, [], ◌++◌, length, get_or}
use Rattle.intmap_table.specs.Tables.Bits.{marked, IsWordFrom}
use Rattle.intmap_table.specs.Tables.Nodes.{Node, empty, chain_of, row_in, rows_in, IsChain, IsSlot, AreHome}
use Rattle.intmap_table.specs.Tables.Slots.{joined}

module _ {P : Type 0} where
  -- the pairs that a link leads through, and then those of the slots
  abbrev pub pairs_left : List (Node P) → List (Node P) → ℕ → List P
  pairs_left slots nodes link = chain_of nodes link ++ joined (rows_in slots nodes)

  -- slots whose pairs were taken before slot `from`. The link leads through further pairs of a slot that holds none any more. From `from` on,
  -- marks say which slots hold pairs, and `at` and `word` are the marks of one word that are left
  pub record AreLeft (slots : List (Node P)) (nodes : List (Node P)) (marks : List Bool) (link from at word : ℕ) : Type 0 where
    pub home : P → ℕ
    pub chains : (i : ℕ) → i < length slots → IsSlot nodes (get_or slots i empty)
    pub own : (i : ℕ) → i < length slots → AreHome home i (row_in nodes (get_or slots i empty))
    pub chain : IsChain nodes link
    pub slot : ℕ
    pub behind : AreHome home slot (chain_of nodes link)
    pub taken : get_or slots slot empty ≡ empty
    pub passed : (i : ℕ) → i < from → get_or (rows_in slots nodes) i [] ≡ []
    pub marked_is : (i : ℕ) → from ≤ i → marked marks i ≡ nat_lt 0 (length (get_or (rows_in slots nodes) i []))
    pub left : IsWordFrom (marked marks) from at word
