-- One value of a slot is written, in the slot itself or in a node.
use Rattle.std.proofs.Common.{◌≡◌, ℕ, zero, suc, ◌+◌, ◌-◌, ◌<◌, ◌≤◌, List, [], ◌∷◌, length, get_or, set, refl, sym, ap, ◌∙◌, subst, arith}
use Rattle.std.proofs.lemmas.List.{length-set}
use Rattle.intmap_table.specs.Tables.Slots.{write_at}
use Rattle.intmap_table.specs.Tables.Nodes.{node_limit, Node, Free, Held, Pool, node_at, chain_of, row_in, node_with, write_node, IsNodeAt, IsChanged, IsChainSet, IsSlot, IsSlotSet, AreHome}
use Rattle.intmap_table.proofs.Nodes.NodeLemmas.{node_at-below, node_read, held_below, held_limit}
use Rattle.intmap_table.proofs.Nodes.ChainLemmas.{Set-swap, NodeAt-value}
use Rattle.intmap_table.proofs.Nodes.SlotLemmas.{Slot-first, Slot-only}

module _ {P : Type 0} where
  -- what was read of a node that holds a pair
  pub read_held : (cs : List (Node P)) (c n : ℕ) (p : P) (x : Node P) → length cs ≤ node_limit → node_at cs c ≡ Held n p → x ≡ get_or cs c x → x ≡ Held n p
  read_held cs c n p x few held here = sym (node_read cs c x (held_below cs c n p held) few here) ∙ held

module _ {K X : Type 0} where
  -- what was read of the value of its pair
  pub read_value : (cs : List (Node (K × X))) (c n : ℕ) (p : K × X) (x : Node (K × X)) (w : X) → length cs ≤ node_limit → node_at cs c ≡ Held n p → x ≡ get_or cs c x
      → (m : ℕ) × (q : K × X) × (x ≡ Held m q) × (w ≡ q.1) → (m : ℕ) × (q : K × X) × (node_at cs c ≡ Held m q) × (w ≡ q.1)
  read_value cs c n p x w few held here is = (is.0, is.1, node_read cs c x (held_below cs c n p held) few here ∙ is.2, is.3)

  -- a node that is there and holds a pair is changed by the write
  write_set : (cs : List (Node (K × X))) (c n : ℕ) (p : K × X) (v : X) → get_or cs c (Free 0) ≡ Held n p → write_node cs c v ≡ set cs c (Held n (p.0, v))
  write_set [] c n p v is = refl
  write_set (x ∷ cs) zero n p v is = ap (λ y. node_with y v ∷ cs) is
  write_set (x ∷ cs) (suc c) n p v is = ap (λ ds. x ∷ ds) (write_set cs c n p v is)

  -- the nodes with a value written are the nodes with that node changed
  pub write_node-held : (cs : List (Node (K × X))) (c n : ℕ) (p : K × X) (v : X) → node_at cs c ≡ Held n p → write_node cs c v ≡ set cs c (Held n (p.0, v))
  write_node-held cs c n p v held = write_set cs c n p v (sym (node_at-below cs c (held_limit cs c n p held)) ∙ held)

  -- and so are the nodes with the value written in a node that was read
  pub set-write_node : (cs : List (Node (K × X))) (c n : ℕ) (p : K × X) (x : Node (K × X)) (v : X) → node_at cs c ≡ Held n p → x ≡ Held n p → set cs c (node_with x v) ≡ write_node cs c v
  set-write_node cs c n p x v held is = ap (λ y. set cs c (node_with y v)) is ∙ sym (write_node-held cs c n p v held)

  -- what contracts see of a pool in which a value was written
  pub Pool-written : (cs : List (Node (K × X))) (c : ℕ) (held : (n : ℕ) × (p : K × X) × (node_at cs c ≡ Held n p)) (x : Node (K × X)) (v : X) (most spare : ℕ) → length cs ≤ node_limit → x ≡ get_or cs c x
      → ◌≡◌ {A = Pool (K × X)}
      (record { nodes = set cs c (node_with x v); held = length (set cs c (node_with x v)) - spare; total = length (set cs c (node_with x v)) + (most - length (set cs c (node_with x v))) })
      (record { nodes = write_node cs c v; held = length cs - spare; total = length cs + (most - length cs) })
  Pool-written cs c held x v most spare few here i = record {
    nodes = set-write_node cs c held.0 held.1 x v held.2 (read_held cs c held.0 held.1 x few held.2 here) i;
    held = length-set cs c (node_with x v) i - spare;
    total = length-set cs c (node_with x v) i + (most - length-set cs c (node_with x v) i);
  }

  -- a pool with a value written is one of which that node is changed
  pub Changed-written : (a : Pool (K × X)) (c n : ℕ) (p : K × X) (v : X) → node_at a.nodes c ≡ Held n p → IsChanged a c n (p.0, v) (record a { nodes = write_node a.nodes c v })
  Changed-written a c n p v held = record { nodes = write_node-held a.nodes c n p v held; held = refl; total = refl }

  -- the pairs with the value written are the pairs with that pair changed
  pub set-write_at : (ps : List (K × X)) (i : ℕ) (p : K × X) (v : X) → p ≡ get_or ps i p → set ps i (p.0, v) ≡ write_at ps i v
  set-write_at [] i p v is = refl
  set-write_at (q ∷ ps) zero p v is = ap (λ r. (r.0, v) ∷ ps) is
  set-write_at (q ∷ ps) (suc i) p v is = ap (λ rs. q ∷ rs) (set-write_at ps i p v is)

  -- a value behind the first pair
  pub write_at-next : (p : K × X) (ps : List (K × X)) (j : ℕ) (v : X) → 0 < j → write_at (p ∷ ps) j v ≡ p ∷ write_at ps (j - 1) v
  write_at-next p ps zero v some = absurd (omega arith)
  write_at-next p ps (suc n) v some = let e : n ≡ suc n - 1 = omega arith in ap (λ k. p ∷ write_at ps k v) e

  -- the value at place j of a chain is written
  pub Written-chain : (a : Pool (K × X)) (l j c n : ℕ) (p : K × X) (v : X) → IsNodeAt a.nodes l j c → node_at a.nodes c ≡ Held n p
      → IsChainSet a l (write_at (chain_of a.nodes l) j v) (record a { nodes = write_node a.nodes c v }) l
  Written-chain a l j c n p v at held =
      let b : Pool (K × X) = record a { nodes = write_node a.nodes c v } in
      subst (λ ps. IsChainSet a l ps b l) (set-write_at (chain_of a.nodes l) j p v (NodeAt-value a.nodes l j c n p at held))
      (Set-swap a l j c n p (p.0, v) b at held (Changed-written a c n p v held))

  -- the value of a pair behind the first one is written, in a node
  behind : (a : Pool (K × X)) (l j c n : ℕ) (first p : K × X) (v : X) → 0 < j → IsNodeAt a.nodes l (j - 1) c → node_at a.nodes c ≡ Held n p
      → IsSlotSet a (Held l first) (write_at (first ∷ chain_of a.nodes l) j v) (record a { nodes = write_node a.nodes c v }) (Held l first)
  behind a l j c n first p v some at held =
      let b : Pool (K × X) = record a { nodes = write_node a.nodes c v } in
      subst (λ ps. IsSlotSet a (Held l first) ps b (Held l first)) (sym (write_at-next first (chain_of a.nodes l) j v some))
      (Slot-first a l first first (write_at (chain_of a.nodes l) (j - 1) v) b l (Written-chain a l (j - 1) c n p v at held))

  -- the same of any slot that has a first pair
  pub Written-behind : (a : Pool (K × X)) (s : Node (K × X)) (l j c n : ℕ) (first p : K × X) (v : X) → s ≡ Held l first → 0 < j → IsNodeAt a.nodes l (j - 1) c → node_at a.nodes c ≡ Held n p
      → IsSlotSet a s (write_at (row_in a.nodes s) j v) (record a { nodes = write_node a.nodes c v }) s
  Written-behind a s l j c n first p v is some at held =
      subst (λ t. IsSlotSet a t (write_at (row_in a.nodes t) j v) (record a { nodes = write_node a.nodes c v }) t) (sym is) (behind a l j c n first p v some at held)

  -- the value of its first pair is written, in the slot itself
  pub Written-first : (a : Pool (K × X)) (s : Node (K × X)) (v : X) → IsSlot a.nodes s → IsSlotSet a s (write_at (row_in a.nodes s) 0 v) a (node_with s v)
  Written-first a (Free n) v is = record { is = tt; pairs = refl; spares = λ t misses k n q passes at. at; held = refl }
  Written-first a (Held l p) v is = Slot-only a l p (p.0, v) is

  -- the pairs are at home in their slot once a value was written, if the keys alone say which slot that is
  pub AreHome-write_at : (home : K × X → ℕ) → ((p : K × X) (v : X) → home (p.0, v) ≡ home p) → (i : ℕ) (ps : List (K × X)) (j : ℕ) (v : X) → AreHome home i ps → AreHome home i (write_at ps j v)
  AreHome-write_at home by_key i [] j v own = tt
  AreHome-write_at home by_key i (p ∷ ps) zero v own = (by_key p v ∙ own.0, own.1)
  AreHome-write_at home by_key i (p ∷ ps) (suc j) v own = (own.0, AreHome-write_at home by_key i ps j v own.1)
