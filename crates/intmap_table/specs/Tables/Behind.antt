-- Nodes of a chain, and the node before each. No public clause cites this module.
use Rattle.std.specs.Prelude.{◌≡◌, ◌⊎◌, ℕ, ◌+◌, ◌<◌, List, length}
use Rattle.intmap_table.specs.Tables.Nodes.{nowhere, Node, Held, node_at, chain_of, IsNodeAt}

-- node `at` is the one at place i of the chain, and the link to it is in node `before`. At the front of the chain, `before` is no node
pub record IsBehind {P : Type 0} (nodes : List (Node P)) (from i before at : ℕ) : Type 0 where
  pub reached : IsNodeAt nodes from i at
  pub last : ((i ≡ 0) × (before ≡ nowhere)) ⊎ ((j : ℕ) × (p : P) × (i ≡ j + 1) × IsNodeAt nodes from j before × (node_at nodes before ≡ Held at p))

-- node `at` holds a pair behind the first one of a slot, and the link to it is in node `before`, or in the slot if `before` is no node
abbrev pub IsBehindFirst : {P : Type 0} → List (Node P) → Node P → ℕ → ℕ → Type 0
IsBehindFirst {P} nodes s before at = (l : ℕ) × (i : ℕ) × (p : P) × (s ≡ Held l p) × (i < length (chain_of nodes l)) × IsBehind nodes l i before at
