-- One value of slots that share a pool of nodes is written.
use Rattle.std.proofs.Common.{◌≡◌, ℕ, zero, suc, ◌-◌, ◌<◌, Bool, List, [], ◌∷◌, length, get_or, set, refl, sym, ap, ◌∙◌, subst, arith}
use Rattle.std.proofs.lemmas.List.{set-get_or, get_or_default}
use Rattle.intmap_table.specs.Classes.{slot_number}
use Rattle.intmap_table.specs.Tables.Nodes.{Node, Free, Held, empty, Pool, node_at, chain_of, row_in, rows_in, node_with, write_node, IsChain, IsNodeAt, IsSlot, IsSlotSet}
use Rattle.intmap_table.specs.Tables.Rows.{Contents, write_rows, AreRows}
use Rattle.intmap_table.specs.Tables.Slots.{write_at}
use Rattle.intmap_table.proofs.Tables.FilledLemmas.{row-within}
use Rattle.intmap_table.proofs.Nodes.ChainLemmas.{NodeAt-value}
use Rattle.intmap_table.proofs.Nodes.LinkedLemmas.{HaveRows, IsRow, Row-of, Row-kept}
use Rattle.intmap_table.proofs.Nodes.PathLemmas.{NodeAt-some}
use Rattle.intmap_table.proofs.Nodes.SlotLemmas.{get_or-behind}
use Rattle.intmap_table.proofs.Nodes.WrittenLemmas.{Written-first, Written-behind, AreHome-write_at}

module _ {K X : Type 0} where
  -- a write removes no pair
  pub length-write_at : (ps : List (K × X)) (i : ℕ) (v : X) → length (write_at ps i v) ≡ length ps
  length-write_at [] i v = refl
  length-write_at (p ∷ ps) zero v = refl
  length-write_at (p ∷ ps) (suc i) v = ap suc (length-write_at ps i v)

  -- the rows with a value written are the rows with that row changed
  set-write_rows : (R : List (List (K × X))) (i j : ℕ) (v : X) → set R i (write_at (get_or R i []) j v) ≡ write_rows R i j v
  set-write_rows [] i j v = refl
  set-write_rows (row ∷ R) zero j v = refl
  set-write_rows (row ∷ R) (suc i) j v = ap (λ S. row ∷ S) (set-write_rows R i j v)

  -- what contracts see of slots says what their rows are and for how many pairs there is memory
  pub same_contents : (R S : List (List (K × X))) (total : ℕ) → R ≡ S → ◌≡◌ {A = Contents K X} (record { rows = R; total = total }) (record { rows = S; total = total })
  same_contents R S total e i = record { rows = e i; total = total }

  -- a slot with a pair holds a first one
  first_in : (a : Pool (K × X)) (s : Node (K × X)) → 0 < length (row_in a.nodes s) → (l : ℕ) × (p : K × X) × (s ≡ Held l p)
  first_in a (Free n) some = absurd (omega arith)
  first_in a (Held l p) some = (l, p, refl)

-- s is slot i, which has a pair at place j
module _ {K X : Type 0} (number : K → ℕ) (slots : List (Node (K × X))) (a : Pool (K × X)) (marks : List Bool) (mask i j : ℕ) (s : Node (K × X))
    (are : AreRows number slots a marks mask) (read : s ≡ get_or slots i s) (within : j < length (get_or (rows_in slots a.nodes) i [])) where
  -- it has a row, whose pairs are at home there
  row : IsRow number slots a (rows_in slots a.nodes) i s
  row = Row-of number slots a marks mask i s are (row-within (rows_in slots a.nodes) i (omega (arith, within))) read

  -- it holds a first pair
  pub Lent-first : (l : ℕ) × (p : K × X) × (s ≡ Held l p)
  Lent-first = let len = ap length row.is in first_in a s (omega (arith, len, within))

  -- its link leads through pairs
  pub Lent-chain : (l : ℕ) (first : K × X) → s ≡ Held l first → IsChain a.nodes l
  Lent-chain l first is = subst (λ t. IsSlot a.nodes t) is row.chain

  -- the row is the first pair and those behind it
  pairs : (l : ℕ) (first : K × X) → s ≡ Held l first → get_or (rows_in slots a.nodes) i [] ≡ first ∷ chain_of a.nodes l
  pairs l first is = sym row.is ∙ ap (row_in a.nodes) is

  -- a node that is reached from there holds the pair at place j
  pub Lent-node : (l : ℕ) (first : K × X) (c : ℕ) → s ≡ Held l first → 0 < j → IsNodeAt a.nodes l (j - 1) c → (n : ℕ) × (p : K × X) × (node_at a.nodes c ≡ Held n p)
  Lent-node l first c is some at = let len = ap length (pairs l first is) in NodeAt-some a.nodes l (j - 1) c at (omega (arith, len, within, some))

  -- the slots with a value written in this slot
  written : (v : X) (b : Pool (K × X)) (t : Node (K × X)) → IsSlotSet a s (write_at (row_in a.nodes s) j v) b t → HaveRows number (set slots i t) b marks mask (write_rows (rows_in slots a.nodes) i j v)
  written v b t h =
      let R = rows_in slots a.nodes in
      let len = length-write_at (get_or R i []) j v in
      subst (λ S. HaveRows number (set slots i t) b marks mask S) (set-write_rows R i j v)
      (Row-kept number slots a marks mask i s (λ ps. write_at ps j v) b t are row h
      (AreHome-write_at (λ p. slot_number number p.0 (length slots)) (λ p w. refl) i (row_in a.nodes s) j v row.own)
      (omega (arith, within)) (omega (arith, len, within)))

  -- the value of the first pair is written
  pub Lent-in_slot : (v : X) → j ≡ 0 → HaveRows number (set slots i (node_with s v)) a marks mask (write_rows (rows_in slots a.nodes) i j v)
  Lent-in_slot v front =
      written v a (node_with s v) (subst (λ k. IsSlotSet a s (write_at (row_in a.nodes s) k v) a (node_with s v)) (sym front) (Written-first a s v row.chain))

  -- the value of a pair behind it is written
  pub Lent-in_node : (v : X) (l : ℕ) (first : K × X) (c n : ℕ) (p : K × X) → s ≡ Held l first → 0 < j → IsNodeAt a.nodes l (j - 1) c → node_at a.nodes c ≡ Held n p
      → HaveRows number slots (record a { nodes = write_node a.nodes c v }) marks mask (write_rows (rows_in slots a.nodes) i j v)
  Lent-in_node v l first c n p is some at held =
      let b : Pool (K × X) = record a { nodes = write_node a.nodes c v } in
      let same : set slots i s ≡ slots = ap (λ t. set slots i t) row.slot ∙ set-get_or slots i empty in
      subst (λ us. HaveRows number us b marks mask (write_rows (rows_in slots a.nodes) i j v)) same
      (written v b s (Written-behind a s l j c n first p v is some at held))

  -- what was read of the value of the first pair
  pub Lent-first_value : (w : X) → j ≡ 0 → (l : ℕ) × (p : K × X) × (s ≡ Held l p) × (w ≡ p.1) → (q : K × X) → w ≡ (get_or (get_or (rows_in slots a.nodes) i []) j q).1
  Lent-first_value w front is q =
      is.3 ∙ ap (λ k. (get_or (is.1 ∷ chain_of a.nodes is.0) k q).1) (sym front) ∙ ap (λ ps. (get_or ps j q).1) (sym (pairs is.0 is.1 is.2))

  -- and of that of a pair behind it
  pub Lent-node_value : (w : X) (l : ℕ) (first : K × X) (c : ℕ) → s ≡ Held l first → 0 < j → IsNodeAt a.nodes l (j - 1) c
      → (n : ℕ) × (p : K × X) × (node_at a.nodes c ≡ Held n p) × (w ≡ p.1) → (q : K × X) → w ≡ (get_or (get_or (rows_in slots a.nodes) i []) j q).1
  Lent-node_value w l first c is some at held q =
      let row_is = pairs l first is in
      let len = ap length row_is in
      let p = held.1 in
      let less : j - 1 < length (chain_of a.nodes l) = omega (arith, len, within, some) in
      held.3 ∙ ap (λ (r : K × X). r.1) (NodeAt-value a.nodes l (j - 1) c held.0 p at held.2 ∙ get_or_default (chain_of a.nodes l) (j - 1) p q less
      ∙ sym (get_or-behind first (chain_of a.nodes l) j q some) ∙ ap (λ ps. get_or ps j q) (sym row_is))
