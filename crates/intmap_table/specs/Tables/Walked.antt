-- Walks along the pairs of one slot behind its first one, which change them on the way. No public clause cites this module.
use Rattle.std.specs.Prelude.{◌≡◌, ℕ, Bool, false, List, ◌++◌, length}
use Rattle.intmap_table.specs.Tables.Behind.{IsBehind}
use Rattle.intmap_table.specs.Tables.Nodes.{Node, Held, Pool, node_at, chain_of, Misses, IsNodeAt, IsChainSet, IsCut}

module _ {P : Type 0} where
  -- if node k held a pair, it was one of the row
  abbrev pub Loose : List (Node P) → List P → ℕ → Type 0
  Loose cs row k = (t : P → Bool) → Misses t row → (n : ℕ) (p : P) → node_at cs k ≡ Held n p → t p ≡ false

  -- a walk along link l of a slot with this first pair made pool b and slot t of pool a: it passed these pairs, and those that are left lie from node `at` on.
  -- Node `before` has the last one that was passed; if none was, it is none. All lie in nodes that held pairs of the row
  pub record IsWalked (a : Pool P) (l : ℕ) (first : P) (b : Pool P) (t : Node P) (passed left : List P) (before at : ℕ) : Type 0 where
    pub link : ℕ
    pub slot : t ≡ Held link first
    pub behind : IsBehind b.nodes link (length passed) before at
    pub chain : IsChainSet a l (passed ++ left) b link
    pub loose : (i k : ℕ) → IsNodeAt b.nodes link i k → Loose a.nodes (chain_of a.nodes l) k

  -- p was the pair of node `at`, which is removed, and those behind it come next behind node `before`
  abbrev pub IsUnlinked : Pool P → Node P → ℕ → ℕ → P → Pool P → Node P → Type 0
  IsUnlinked b t before at p d u =
      (l i : ℕ) (first : P) → t ≡ Held l first → IsBehind b.nodes l i before at
      → (m : ℕ) × (u ≡ Held m first) × IsCut b l i p d m × ((n : ℕ) (q : P) → node_at b.nodes at ≡ Held n q → IsBehind d.nodes m i before n)
