-- Pairs of slots by value: each step takes the first one, and the others are left.
use Rattle.std.proofs.Common.{⊎_elim, ◌≡◌, ℕ, ◌+◌, ◌<◌, ◌≤◌, Bool, false, List, [], ◌∷◌, ◌++◌, length, length-set, get_or, set, refl, sym, ap, ◌∙◌, subst, arith, append-nil, get_or-set_same, get_or-set_other}
use Rattle.std.specs.Prelude.{nat_lt}
use Rattle.std.proofs.lemmas.Bool.{ltb-true}
use Rattle.std.proofs.lemmas.List.{ext_get_or, get_or_default, get_or_past, get_or-map, length-map, map-set}
use Rattle.intmap_table.specs.Classes.{slot_number}
use Rattle.intmap_table.specs.Tables.Bits.{marked, IsWordFrom, IsNextMark}
use Rattle.intmap_table.specs.Tables.Nodes.{node_limit, nowhere, Node, Free, Held, empty, Pool, chain_of, row_in, rows_in, IsSlot, IsCut, Spares, AreHome}
use Rattle.intmap_table.specs.Tables.Owned.{pairs_left, AreLeft}
use Rattle.intmap_table.specs.Tables.Rows.{AreRows}
use Rattle.intmap_table.specs.Tables.Slots.{joined, IsNextRow}
use Rattle.intmap_table.proofs.Nodes.NodeLemmas.{same_or_not}
use Rattle.intmap_table.proofs.Nodes.LinkedLemmas.{Stays, slot_stays}
use Rattle.intmap_table.proofs.Nodes.PathLemmas.{Chain-beyond, Chain-none, IsChain-none}
use Rattle.intmap_table.proofs.Nodes.ChainLemmas.{Cut-chain}
use Rattle.intmap_table.proofs.Tables.FilledLemmas.{row-within, joined-passed}
use Rattle.intmap_table.proofs.Tables.FrontLemmas.{joined-front, rows-before}
use Rattle.intmap_table.proofs.Tables.MarkedLemmas.{row-none}

-- at first those of all slots are left
pub Left-start : {K X : Type 0} (number : K → ℕ) (slots : List (Node (K × X))) (pool : Pool (K × X)) (marks : List Bool) (mask at word : ℕ) → AreRows number slots pool marks mask → IsWordFrom (marked marks) 0 at word
    → AreLeft slots pool.nodes marks nowhere 0 at word
Left-start number slots pool marks mask at word are left = record {
  home = λ p. slot_number number p.0 (length slots);
  chains = are.linked.chains;
  own = are.linked.own;
  chain = IsChain-none pool.nodes;
  slot = length slots;
  behind = subst (λ ps. AreHome (λ p. slot_number number p.0 (length slots)) (length slots) ps) (sym (Chain-none pool.nodes)) tt;
  taken = get_or_past slots (length slots) empty (omega arith);
  passed = λ i below. absurd (omega (arith, below));
  marked_is = λ i le. are.marked.own i;
  left = left;
}

module _ {P : Type 0} where
  -- p was the first pair, and the others are left
  pub record IsTaken (slots : List (Node P)) (cs : List (Node P)) (marks : List Bool) (link : ℕ) (p : P) (slots' : List (Node P)) (ds : List (Node P)) (m from at word : ℕ) : Type 0 where
    pub are : AreLeft slots' ds marks m from at word
    pub pairs : pairs_left slots cs link ≡ p ∷ pairs_left slots' ds m

  -- a change of nodes that the link leads to is none to the slots
  slots_stay : (slots : List (Node P)) (cs ds : List (Node P)) (marks : List Bool) (link from at word : ℕ) → (h : AreLeft slots cs marks link from at word) → Spares cs ds (chain_of cs link)
      → (j : ℕ) → j < length slots → Stays h.home j cs ds (get_or slots j empty)
  slots_stay slots cs ds marks link from at word h spares j below =
      ⊎_elim
      (λ e. let none : get_or slots j empty ≡ empty = ap (λ k. get_or slots k empty) e ∙ h.taken in
      record { chain = subst (λ s. IsSlot ds s) (sym none) tt; row = ap (row_in ds) none ∙ sym (ap (row_in cs) none) })
      (λ apart. slot_stays h.home h.slot j cs ds (chain_of cs link) (get_or slots j empty) (λ e. apart (sym e)) h.behind spares (h.chains j below) (h.own j below))
      (same_or_not j h.slot)

  -- the first pair is that of the node that the link leads to
  pub Left-node : (slots : List (Node P)) (a : Pool P) (marks : List Bool) (link from at word : ℕ) (p : P) (b : Pool P) (m : ℕ) → AreLeft slots a.nodes marks link from at word → IsCut a link 0 p b m
      → IsTaken slots a.nodes marks link p slots b.nodes m from at word
  Left-node slots a marks link from at word p b m h cut =
      let chain = Cut-chain a link p b m cut in
      let stays = slots_stay slots a.nodes b.nodes marks link from at word h cut.chain.spares in
      let rows : rows_in slots b.nodes ≡ rows_in slots a.nodes =
      ext_get_or [] (rows_in slots b.nodes) (rows_in slots a.nodes) (length-map slots (row_in b.nodes) ∙ sym (length-map slots (row_in a.nodes)))
      (λ j below. let len = length-map slots (row_in b.nodes) in
      let less : j < length slots = omega (arith, len, below) in
      get_or-map (row_in b.nodes) slots j empty [] less ∙ (stays j less).row ∙ sym (get_or-map (row_in a.nodes) slots j empty [] less)) in
      let own : AreHome h.home h.slot (p ∷ chain_of b.nodes m) = subst (λ ps. AreHome h.home h.slot ps) chain h.behind in
      record {
        are = record {
          home = h.home;
          chains = λ j below. (stays j below).chain;
          own = λ j below. subst (λ ps. AreHome h.home j ps) (sym (stays j below).row) (h.own j below);
          chain = cut.chain.is;
          slot = h.slot;
          behind = own.1;
          taken = h.taken;
          passed = λ j below. ap (λ R. get_or R j []) rows ∙ h.passed j below;
          marked_is = λ j le. h.marked_is j le ∙ ap (λ (R : List (List P)). nat_lt 0 (length (get_or R j []))) (sym rows);
          left = h.left;
        };
        pairs = ap (λ ps. ps ++ joined (rows_in slots a.nodes)) chain ∙ ap (λ R. p ∷ (chain_of b.nodes m ++ joined R)) (sym rows);
      }

  module _ (slots : List (Node P)) (nodes : List (Node P)) (marks : List Bool) (link from at word : ℕ) (h : AreLeft slots nodes marks link from at word) where
    -- the next marked slot is the next one that holds a pair
    next_row : (i : ℕ) → IsNextMark marks from i → IsNextRow (rows_in slots nodes) from i
    next_row i next =
        let some = ltb-true 0 (length (get_or (rows_in slots nodes) i [])) (sym (h.marked_is i next.behind) ∙ next.is) in
        record {
          behind = next.behind;
          within = row-within (rows_in slots nodes) i some;
          filled = some;
          between = λ j le lt. row-none (get_or (rows_in slots nodes) j []) (sym (h.marked_is j le) ∙ next.between j le lt);
        }

    slot_below : (i : ℕ) → IsNextMark marks from i → i < length slots
    slot_below i next = let row = next_row i next in let len = length-map slots (row_in nodes) in omega (arith, row.within, len)

    -- it isn't empty
    pub Left-filled : (i : ℕ) (s : Node P) → IsNextMark marks from i → s ≡ get_or slots i s → (m : ℕ) × (p : P) × (s ≡ Held m p)
    Left-filled i s next read =
        let below = slot_below i next in
        let row : get_or (rows_in slots nodes) i [] ≡ row_in nodes s = get_or-map (row_in nodes) slots i empty [] below ∙ ap (row_in nodes) (sym (get_or_default slots i s empty below) ∙ sym read) in
        let len = ap length row in let some = (next_row i next).filled in
        filled s (omega (arith, len, some))
      where
        filled : (t : Node P) → 0 < length (row_in nodes t) → (m : ℕ) × (p : P) × (t ≡ Held m p)
        filled (Free n) none = absurd (omega (arith, none))
        filled (Held m p) some = (m, p, refl)

    -- once the link leads nowhere, the first pair is that of the next marked slot
    pub Left-slot : (i : ℕ) (s : Node P) (m : ℕ) (p : P) (at' word' : ℕ) → node_limit ≤ link → IsNextMark marks from i → s ≡ get_or slots i s → s ≡ Held m p → IsWordFrom (marked marks) (i + 1) at' word'
        → IsTaken slots nodes marks link p (set slots i empty) nodes m (i + 1) at' word'
    Left-slot i s m p at' word' beyond next read is left =
        let R = rows_in slots nodes in
        let below = slot_below i next in
        let row = next_row i next in
        let here : get_or slots i empty ≡ Held m p = sym (get_or_default slots i s empty below) ∙ sym read ∙ is in
        let first : get_or R i [] ≡ p ∷ chain_of nodes m = get_or-map (row_in nodes) slots i empty [] below ∙ ap (row_in nodes) here in
        let rows : rows_in (set slots i empty) nodes ≡ set R i [] = map-set (row_in nodes) slots i empty in
        let len = length-set slots i empty in
        let own : AreHome h.home i (p ∷ chain_of nodes m) = subst (λ t. AreHome h.home i (row_in nodes t)) here (h.own i below) in
        let front = joined-front R from i row h.passed (p ∷ chain_of nodes m) [] (first ∙ sym (append-nil (p ∷ chain_of nodes m))) in
        let none : get_or (set slots i empty) i empty ≡ empty = get_or-set_same slots i empty empty below in
        record {
          are = record {
            home = h.home;
            chains = λ j less. ⊎_elim
                (λ e. subst (λ t. IsSlot nodes t) (sym (ap (λ k. get_or (set slots i empty) k empty) e ∙ none)) tt)
                (λ apart. subst (λ t. IsSlot nodes t) (sym (get_or-set_other slots i j empty empty apart)) (h.chains j (omega (arith, less, len))))
                (same_or_not j i);
            own = λ j less. ⊎_elim
                (λ e. subst (λ t. AreHome h.home j (row_in nodes t)) (sym (ap (λ k. get_or (set slots i empty) k empty) e ∙ none)) tt)
                (λ apart. subst (λ t. AreHome h.home j (row_in nodes t)) (sym (get_or-set_other slots i j empty empty apart)) (h.own j (omega (arith, less, len))))
                (same_or_not j i);
            chain = subst (λ t. IsSlot nodes t) here (h.chains i below);
            slot = i;
            behind = own.1;
            taken = none;
            passed = λ j less. ap (λ S. get_or S j []) rows ∙ ⊎_elim
                (λ e. ap (λ k. get_or (set R i []) k []) e ∙ get_or-set_same R i [] [] row.within)
                (λ apart. rows-before R from i row h.passed [] j (omega (arith, less, apart)))
                (same_or_not j i);
            marked_is = λ j le. h.marked_is j (omega (arith, le, row.behind))
                ∙ ap (λ (ps : List P). nat_lt 0 (length ps)) (sym (ap (λ S. get_or S j []) rows ∙ get_or-set_other R i j [] [] (λ e. omega (arith, e, le))));
            left = left;
          };
          pairs = ap (λ ps. ps ++ joined R) (Chain-beyond nodes link h.chain beyond) ∙ front ∙ ap (λ S. p ∷ (chain_of nodes m ++ joined S)) (sym rows);
        }

    -- if no slot is marked either, no pair is left
    pub Left-end : node_limit ≤ link → ((j : ℕ) → from ≤ j → marked marks j ≡ false) → pairs_left slots nodes link ≡ []
    Left-end beyond none =
        ap (λ ps. ps ++ joined (rows_in slots nodes)) (Chain-beyond nodes link h.chain beyond)
        ∙ joined-passed (rows_in slots nodes) from h.passed (λ j le. row-none (get_or (rows_in slots nodes) j []) (sym (h.marked_is j le) ∙ none j le))
