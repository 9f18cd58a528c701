-- Where the pair of a key is in a slot, and what the slots are once its value was written there.
use Rattle.std.proofs.Common.{◌≡◌, ℕ, ◌+◌, ◌-◌, Bool, true, false, List, [], ◌∷◌, length, get_or, set, Some, None, refl, sym, ap, ◌∙◌, subst, arith}
use Rattle.std.specs.Prelude.{position}
use Rattle.std.specs.List.{position_or_len}
use Rattle.std.proofs.lemmas.List.{get_or_default}
use Rattle.intmap_table.specs.Bindings.{value_of}
use Rattle.intmap_table.specs.Classes.{same_key}
use Rattle.intmap_table.specs.Reach.{through_first}
use Rattle.intmap_table.specs.Tables.Nodes.{Node, Held, empty, Pool, node_at, chain_of, rows_in, node_with, write_node, IsNodeAt}
use Rattle.intmap_table.specs.Tables.Rows.{write_rows, AreRows}
use Rattle.intmap_table.proofs.PositionLemmas.{position-within, first_value-none}
use Rattle.intmap_table.proofs.Nodes.FoundLemmas.{Found-some, Found-value}
use Rattle.intmap_table.proofs.Nodes.LentLemmas.{Lent-in_slot, Lent-in_node}
use Rattle.intmap_table.proofs.Nodes.LinkedLemmas.{HaveRows, IsRow}

-- slot i has this link and this first pair, and the key k is sought there
module _ {K X : Type 0} (number : K → ℕ) (slots : List (Node (K × X))) (a : Pool (K × X)) (marks : List Bool) (mask i l : ℕ) (first : K × X) (k : K)
    (are : AreRows number slots a marks mask) (r : IsRow number slots a (rows_in slots a.nodes) i (Held l first)) where
  abbrev row : List (K × X)
  row = get_or (rows_in slots a.nodes) i []

  abbrev place : ℕ
  place = position_or_len (λ p. same_key number k p.0) row

  -- the slots with v as the value of the key there
  abbrev pub Sought-rows : List (Node (K × X)) → Pool (K × X) → X → Type 0
  Sought-rows ts b v = HaveRows number ts b marks mask (write_rows (rows_in slots a.nodes) i place v)

  row_is : row ≡ first ∷ chain_of a.nodes l
  row_is = sym r.is

  -- it is the key of the first pair
  module _ (same : same_key number k first.0 ≡ true) where
    -- then one key is compared
    pub Sought-reached : length (through_first (λ p. same_key number k p.0) row) ≡ 1
    Sought-reached = rw (row_is, same) refl

    -- its value is found
    pub Sought-first : value_of number row k ≡ Some first.1
    Sought-first = rw (row_is, same) refl

    -- and is written in the slot
    pub Sought-in_slot : (t : Node (K × X)) → t ≡ get_or slots i t → (v : X) → Sought-rows (set slots i (node_with t v)) a v
    Sought-in_slot t read v =
        let front : 0 ≡ place = rw (row_is, same) refl in
        let len = ap length row_is in
        subst (λ n. HaveRows number (set slots i (node_with t v)) a marks mask (write_rows (rows_in slots a.nodes) i n v)) front
        (Lent-in_slot number slots a marks mask i 0 t are read (omega (arith, len)) v refl)

  -- it isn't the key of the first pair
  module _ (differs : same_key number k first.0 ≡ false) where
    -- then one key more is compared than behind it
    pub Sought-behind : length (through_first (λ p. same_key number k p.0) row) ≡ length (through_first (λ p. same_key number k p.0) (chain_of a.nodes l)) + 1
    Sought-behind = rw (row_is, differs) (omega arith)

    -- nor of those behind it
    pub Sought-absent : position (λ p. same_key number k p.0) (chain_of a.nodes l) ≡ None → value_of number row k ≡ None
    Sought-absent none = rw (row_is, differs) (first_value-none (same_key number k) (chain_of a.nodes l) none)

    -- it is that of the pair in node c
    module _ (j c : ℕ) (at : IsNodeAt a.nodes l j c) (found : position (λ p. same_key number k p.0) (chain_of a.nodes l) ≡ Some j) where
      -- its value is found
      pub Sought-value : (n : ℕ) (p : K × X) → node_at a.nodes c ≡ Held n p → value_of number row k ≡ Some p.1
      Sought-value n p held = rw (row_is, differs) (Found-value number a.nodes l j c k at found n p held)

      -- and is written in the node
      pub Sought-in_node : (v : X) → Sought-rows slots (record a { nodes = write_node a.nodes c v }) v
      Sought-in_node v =
          let inside = position-within (λ (p : K × X). same_key number k p.0) (chain_of a.nodes l) j found in
          let len = ap length row_is in
          let behind : j + 1 ≡ place = rw (row_is, differs) (omega (arith, inside.0)) in
          let read = r.slot ∙ get_or_default slots i empty (Held l first) r.within in
          let held = Found-some number a.nodes l j c k at found in
          let e : j ≡ j + 1 - 1 = omega arith in
          subst (λ n. HaveRows number slots (record a { nodes = write_node a.nodes c v }) marks mask (write_rows (rows_in slots a.nodes) i n v)) behind
          (Lent-in_node number slots a marks mask i (j + 1) (Held l first) are read (omega (arith, len, inside.1)) v l first c held.0 held.1 refl (omega arith) (subst (λ n. IsNodeAt a.nodes l n c) e at) held.2)
