-- Slots whose further pairs lie in nodes, which links join. No public clause cites this module.
use Rattle.std.specs.Prelude.{◌≡◌, All, ℕ, zero, suc, ◌+◌, ◌*◌, ◌-◌, ◌<◌, ◌≤◌, nat_lt, cond, Bool, true, false, List, [], ◌∷◌, ◌++◌, length, get_or, set, swap_remove, map, sum_by}
use Rattle.intmap_table.specs.declared.linked.node.NodeForm.{NodeForm}
use Rattle.intmap_table.specs.declared.linked.node.NodeForm.TheVariants as node_forms

-- there are at most so many nodes: 65535 * 2^32
abbrev pub node_limit : ℕ
node_limit = 281470681743360

-- a link that leads nowhere: 2^48 - 1
abbrev pub nowhere : ℕ
nowhere = 281474976710655

-- the link that two parts make, of 16 and 32 bits
abbrev pub link_of : ℕ → ℕ → ℕ
link_of high low = high * 4294967296 + low

-- what a node has: the number of the next free node, or a pair and the number of the node behind it. A slot is a node whose free number nobody reads
pub data Node (P : Type 0) : Type 0 where
  Free : ℕ → Node P
  Held : ℕ → P → Node P

-- the nodes of all slots, how many of them hold a pair, and how many pairs there is memory for in all
pub record Pool (P : Type 0) : Type 0 where
  pub nodes : List (Node P)
  pub held : ℕ
  pub total : ℕ

module _ {P : Type 0} where
  -- the node that these parts make
  abbrev pub node_of : NodeForm P → Node P
  node_of (node_forms.Free high low) = Free (link_of high low)
  node_of (node_forms.Held high low p) = Held (link_of high low) p

  -- a slot as it is made, without a pair
  abbrev pub empty : Node P
  empty = Free 0

  -- the node without its pair. One that holds none is as it was
  abbrev pub freed : Node P → Node P
  freed (Free n) = Free n
  freed (Held n p) = empty

  -- whether a node holds no pair
  abbrev pub is_empty : Node P → Bool
  is_empty (Free n) = true
  is_empty (Held n p) = false

  -- the node of this number. A number that no node has counts as that of a free node
  abbrev pub node_at : List (Node P) → ℕ → Node P
  node_at nodes l = cond (nat_lt l node_limit) (get_or nodes l (Free 0)) (Free 0)

  -- from f on, n free nodes, each with the number of the next one, and behind the last one none
  abbrev pub Frees : List (Node P) → ℕ → ℕ → Type 0
  Frees nodes f zero = f ≡ nowhere
  Frees nodes f (suc n) = (g : ℕ) × (f < length nodes) × (node_at nodes f ≡ Free g) × Frees nodes g n

  -- the nodes of a pool, of which `spare` are free, in a chain that begins at `free`
  pub record IsPool (nodes : List (Node P)) (free spare : ℕ) : Type 0 where
    pub few : length nodes ≤ node_limit
    pub frees : Frees nodes free spare

  -- from l on, these pairs lie in nodes, each with a link to the next, and the last one with a link to m
  abbrev pub Path : List (Node P) → ℕ → List P → ℕ → Type 0
  Path nodes l [] m = l ≡ m
  Path nodes l (p ∷ ps) m = (n : ℕ) × (node_at nodes l ≡ Held n p) × Path nodes n ps m

  -- the link leads through nodes with these pairs, and then nowhere
  abbrev pub Leads : List (Node P) → ℕ → List P → Type 0
  Leads nodes l ps = Path nodes l ps nowhere

  -- the pair of a node, and what is made of its link
  abbrev pub onward : Node P → (ℕ → List P) → List P
  onward (Free n) more = []
  onward (Held n p) more = p ∷ more n

  -- the pairs that a link leads through, up to n of them
  abbrev pub chain_in : List (Node P) → ℕ → ℕ → List P
  chain_in nodes zero l = []
  chain_in nodes (suc n) l = onward (node_at nodes l) (chain_in nodes n)

  -- the pairs that a link leads through
  unfoldable pub chain_of : List (Node P) → ℕ → List P
  chain_of nodes l = chain_in nodes (length nodes) l

  -- the link leads through its pairs, and then nowhere
  abbrev pub IsChain : List (Node P) → ℕ → Type 0
  IsChain nodes l = Leads nodes l (chain_of nodes l)

  -- node c is the one at a place of the chain
  pub record IsNodeAt (nodes : List (Node P)) (from place c : ℕ) : Type 0 where
    pub before : List P
    pub pairs : chain_of nodes from ≡ before ++ chain_of nodes c
    pub len : length before ≡ place
    pub path : Path nodes from before c
    pub is : IsChain nodes c

  -- no pair passes the test
  abbrev pub Misses : (P → Bool) → List P → Type 0
  Misses t [] = Unit {0}
  Misses t (p ∷ ps) = (t p ≡ false) × Misses t ps

  -- nodes that held other pairs than these are as they were
  abbrev pub Spares : List (Node P) → List (Node P) → List P → Type 0
  Spares cs ds ps = (t : P → Bool) → Misses t ps → (k n : ℕ) (p : P) → t p ≡ true → node_at cs k ≡ Held n p → node_at ds k ≡ Held n p

  -- node c, which held nothing, holds a pair with this link, and nodes that held a pair are as they were
  pub record IsAdded (a : Pool P) (c link : ℕ) (p : P) (b : Pool P) : Type 0 where
    pub fresh : (n : ℕ) (q : P) → node_at a.nodes c ≡ Held n q → ⊥
    pub is : node_at b.nodes c ≡ Held link p
    pub others : (k n : ℕ) (q : P) → node_at a.nodes k ≡ Held n q → node_at b.nodes k ≡ Held n q
    pub held : b.held ≡ a.held + 1
    pub total : a.total ≤ b.total

  -- node c, which held this pair, is free, and the other nodes are as they were
  pub record IsReleased (a : Pool P) (c : ℕ) (p : P) (b : Pool P) : Type 0 where
    pub link : ℕ
    pub was : node_at a.nodes c ≡ Held link p
    pub free : ℕ
    pub nodes : b.nodes ≡ set a.nodes c (Free free)
    pub held : a.held ≡ b.held + 1
    pub total : b.total ≡ a.total
    pub ready : b.held < b.total

  -- node c, which held a pair, has another link or pair, and the other nodes are as they were
  pub record IsChanged (a : Pool P) (c link : ℕ) (p : P) (b : Pool P) : Type 0 where
    pub nodes : b.nodes ≡ set a.nodes c (Held link p)
    pub held : b.held ≡ a.held
    pub total : b.total ≡ a.total

  -- where link l led, link m leads through these pairs
  pub record IsChainSet (a : Pool P) (l : ℕ) (ps : List P) (b : Pool P) (m : ℕ) : Type 0 where
    pub is : IsChain b.nodes m
    pub pairs : chain_of b.nodes m ≡ ps
    pub spares : Spares a.nodes b.nodes (chain_of a.nodes l)
    pub held : b.held + length (chain_of a.nodes l) ≡ a.held + length ps

  -- p was the pair at place i of those that link l led through; link m leads through the others, which are in their nodes still, and no other node was changed
  pub record IsCut (a : Pool P) (l i : ℕ) (p : P) (b : Pool P) (m : ℕ) : Type 0 where
    pub before : List P
    pub behind : List P
    pub pairs : chain_of a.nodes l ≡ before ++ p ∷ behind
    pub len : length before ≡ i
    pub chain : IsChainSet a l (before ++ behind) b m
    pub stays : (j c : ℕ) → j < i → IsNodeAt a.nodes l j c → IsNodeAt b.nodes m j c
    pub within : (j c : ℕ) → IsNodeAt b.nodes m j c → (k : ℕ) × IsNodeAt a.nodes l k c
    pub others : (c n : ℕ) (q : P) → ((j : ℕ) → IsNodeAt a.nodes l j c → ⊥) → node_at a.nodes c ≡ Held n q → node_at b.nodes c ≡ Held n q

  -- the pairs of a slot
  abbrev pub row_in : List (Node P) → Node P → List P
  row_in nodes (Free n) = []
  row_in nodes (Held l p) = p ∷ chain_of nodes l

  -- the link of a slot leads through pairs, and then nowhere
  abbrev pub IsSlot : List (Node P) → Node P → Type 0
  IsSlot nodes (Free n) = Unit {0}
  IsSlot nodes (Held l p) = IsChain nodes l

  -- the slot has another row, and other slots have theirs
  pub record IsSlotSet (a : Pool P) (s : Node P) (row : List P) (b : Pool P) (t : Node P) : Type 0 where
    pub is : IsSlot b.nodes t
    pub pairs : row_in b.nodes t ≡ row
    pub spares : Spares a.nodes b.nodes (row_in a.nodes s)
    pub held : b.held + (length (row_in a.nodes s) - 1) ≡ a.held + (length row - 1)

  -- r was the pair at a place of the slot, and the last one took its place
  abbrev pub IsSwapRemoved : Pool P → Node P → ℕ → P → Pool P → Node P → Type 0
  IsSwapRemoved a s place r b t = (r ≡ get_or (row_in a.nodes s) place r) × IsSlotSet a s (swap_remove (row_in a.nodes s) place r) b t

  -- each of these pairs is at home in slot i
  abbrev pub AreHome : (P → ℕ) → ℕ → List P → Type 0
  AreHome home i [] = Unit {0}
  AreHome home i (p ∷ ps) = (home p ≡ i) × AreHome home i ps

  -- the pairs of each slot
  abbrev pub rows_in : List (Node P) → List (Node P) → List (List P)
  rows_in slots nodes = map (row_in nodes) slots

  -- how many pairs are behind the first ones of their rows
  abbrev pub further : List (List P) → ℕ
  further R = sum_by (λ row. length row - 1) R

  -- each slot leads through its own pairs, and the nodes hold those behind the first ones
  pub record AreLinked (home : P → ℕ) (slots : List (Node P)) (pool : Pool P) : Type 0 where
    pub chains : (i : ℕ) → i < length slots → IsSlot pool.nodes (get_or slots i empty)
    pub own : (i : ℕ) → i < length slots → AreHome home i (row_in pool.nodes (get_or slots i empty))
    pub held : further (rows_in slots pool.nodes) ≡ pool.held

  -- a walk: the pairs that a link leads through, and then those of these slots, each of which holds some
  pub record IsWalk (slots : List (Node P)) (nodes : List (Node P)) (link : ℕ) (filled : List ℕ) : Type 0 where
    pub chain : IsChain nodes link
    pub chains : (i : ℕ) → i < length slots → IsSlot nodes (get_or slots i empty)
    pub some : All (λ i. 0 < length (get_or (rows_in slots nodes) i [])) filled

module _ {K X : Type 0} where
  -- the node with v as the value of its pair. A free one is as it was
  abbrev pub node_with : Node (K × X) → X → Node (K × X)
  node_with (Free n) v = Free n
  node_with (Held n p) v = Held n (p.0, v)

  -- the nodes with v as the value of the pair in node i. A free one is as it was
  abbrev pub write_node : List (Node (K × X)) → ℕ → X → List (Node (K × X))
  write_node [] i v = []
  write_node (c ∷ cs) zero v = node_with c v ∷ cs
  write_node (c ∷ cs) (suc i) v = c ∷ write_node cs i v
