-- Walks through slots and the chains of their links.
use Rattle.std.proofs.Common.{◌≡◌, ℕ, ◌<◌, Bool, List, [], ◌∷◌, ◌++◌, length, get_or, sym, ap, ◌∙◌, subst, arith}
use Rattle.std.proofs.lemmas.Bool.{ltb-true}
use Rattle.std.proofs.lemmas.List.{get_or_default, get_or-map, length-map}
use Rattle.std.proofs.lemmas.List.Elements.{All-head, All-tail}
use Rattle.intmap_table.specs.Tables.Bits.{marked_indices}
use Rattle.intmap_table.specs.Tables.Nodes.{nowhere, Node, Free, Held, empty, Pool, node_at, chain_of, row_in, rows_in, IsSlot, IsWalk}
use Rattle.intmap_table.specs.Tables.Rows.{AreRows}
use Rattle.intmap_table.specs.Tables.Slots.{joined, pairs_at}
use Rattle.intmap_table.proofs.Nodes.NodeLemmas.{Stop}
use Rattle.intmap_table.proofs.Nodes.PathLemmas.{Chain-next, Chain-end, Chain-none, IsChain-none}
use Rattle.intmap_table.proofs.Tables.FilledLemmas.{row-within, pairs_at-marked}
use Rattle.intmap_table.proofs.Tables.MarkedLemmas.{All-marked_indices}

module _ {P : Type 0} (slots : List (Node P)) (nodes : List (Node P)) where
  -- the pairs of a walk
  abbrev pub walk : ℕ → List ℕ → List P
  walk l filled = chain_of nodes l ++ pairs_at (rows_in slots nodes) filled

  -- p is the next pair, and behind it are those of another walk
  pub record IsStep (l : ℕ) (filled : List ℕ) (p : P) (m : ℕ) (left : List ℕ) : Type 0 where
    pub is : IsWalk slots nodes m left
    pub pairs : walk l filled ≡ p ∷ walk m left

  -- the next pair is that of the node that the link leads to
  pub Walk-node : (l : ℕ) (filled : List ℕ) (n : ℕ) (p : P) → IsWalk slots nodes l filled → node_at nodes l ≡ Held n p → IsStep l filled p n filled
  Walk-node l filled n p w at =
      let next = Chain-next nodes l n p w.chain at in
      record {
        is = record { chain = next.is; chains = w.chains; some = w.some };
        pairs = ap (λ ps. ps ++ pairs_at (rows_in slots nodes) filled) next.pairs;
      }

  -- a walk without a link and without slots has no pair
  pub Walk-end : (l : ℕ) → IsWalk slots nodes l [] → Stop nodes l → walk l [] ≡ []
  Walk-end l w stop = ap (λ ps. ps ++ []) (Chain-end nodes l w.chain stop)

  -- the next slot of a walk is one of the slots
  pub Walk-within : (l i : ℕ) (filled : List ℕ) → IsWalk slots nodes l (i ∷ filled) → i < length slots
  Walk-within l i filled w =
      let row = row-within (rows_in slots nodes) i (All-head (λ j. 0 < length (get_or (rows_in slots nodes) j [])) i filled w.some) in
      let len = length-map slots (row_in nodes) in
      omega (arith, row, len)

  -- and its row is this
  row_of_slot : (l i : ℕ) (filled : List ℕ) (s t : Node P) → IsWalk slots nodes l (i ∷ filled) → get_or slots i s ≡ t → get_or (rows_in slots nodes) i [] ≡ row_in nodes t
  row_of_slot l i filled s t w at =
      let within = Walk-within l i filled w in
      get_or-map (row_in nodes) slots i empty [] within ∙ ap (row_in nodes) (sym (get_or_default slots i s empty within) ∙ at)

  -- it isn't empty
  pub Walk-filled : (l i : ℕ) (filled : List ℕ) (s : Node P) (n : ℕ) → IsWalk slots nodes l (i ∷ filled) → get_or slots i s ≡ Free n → ⊥
  Walk-filled l i filled s n w at =
      let some = All-head (λ j. 0 < length (get_or (rows_in slots nodes) j [])) i filled w.some in
      let none = ap length (row_of_slot l i filled s (Free n) w at) in
      omega (arith, some, none)

  -- and where the link leads nowhere, the next pair is its first one
  pub Walk-slot : (l i : ℕ) (filled : List ℕ) (s : Node P) (n : ℕ) (p : P) → IsWalk slots nodes l (i ∷ filled) → Stop nodes l → get_or slots i s ≡ Held n p → IsStep l (i ∷ filled) p n filled
  Walk-slot l i filled s n p w stop at =
      let R = rows_in slots nodes in
      let within = Walk-within l i filled w in
      let here : get_or slots i empty ≡ Held n p = sym (get_or_default slots i s empty within) ∙ at in
      record {
        is = record {
          chain = subst (λ t. IsSlot nodes t) here (w.chains i within);
          chains = w.chains;
          some = All-tail (λ j. 0 < length (get_or R j [])) i filled w.some;
        };
        pairs = ap (λ ps. ps ++ pairs_at R (i ∷ filled)) (Chain-end nodes l w.chain stop) ∙ ap (λ ps. ps ++ pairs_at R filled) (row_of_slot l i filled s (Held n p) w at);
      }

module _ {K X : Type 0} (number : K → ℕ) (slots : List (Node (K × X))) (pool : Pool (K × X)) (marks : List Bool) (mask : ℕ) (are : AreRows number slots pool marks mask) where
  -- the walk through the marked slots
  pub Walk-start : IsWalk slots pool.nodes nowhere (marked_indices marks)
  Walk-start = record {
    chain = IsChain-none pool.nodes;
    chains = are.linked.chains;
    some = λ k d less.
        let i = get_or (marked_indices marks) k d in
        ltb-true 0 (length (get_or (rows_in slots pool.nodes) i [])) (sym (are.marked.own i) ∙ (All-marked_indices marks k d less).1);
  }

  -- goes through the pairs of all slots
  pub Walk-all : walk slots pool.nodes nowhere (marked_indices marks) ≡ joined (rows_in slots pool.nodes)
  Walk-all = ap (λ ps. ps ++ pairs_at (rows_in slots pool.nodes) (marked_indices marks)) (Chain-none pool.nodes) ∙ pairs_at-marked (rows_in slots pool.nodes) marks are.marked
