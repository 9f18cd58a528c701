-- Nodes and slots with other values, which are given as memory has them, or in the order of a walk.
use Rattle.std.proofs.Common.{◌≡◌, ℕ, ◌+◌, List, [], ◌∷◌, ◌++◌, length, take, drop, map, refl, sym, ap, ◌∙◌}
use Rattle.std.proofs.lemmas.List.{length-map}
use Rattle.std.specs.Map.{values_of}
use Rattle.intmap_table.specs.Tables.Slots.{joined}
use Rattle.intmap_table.specs.Tables.Nodes.{Node, Free, Held, rows_in}
use Rattle.intmap_table.specs.Values.{with_values, rows_with}
use Rattle.intmap_table.proofs.Lending.OpensLemmas.{row_count, row_put, row_put-append}
use Rattle.intmap_table.proofs.Lending.ChosenLemmas.{drained, refilled, sizes, map-drained}
use Rattle.intmap_table.proofs.Lending.Linked.PlacesLemmas.{in_node, laid, order, AreOnce, at_each, drained-once, order-rows}
use Rattle.intmap_table.proofs.Lending.Linked.RefilledLemmas.{joined-one, sizes-refilled, drained-refilled, rows_with-joined, drained-each_with, joined-rows_with, sizes-rows_with}
use Rattle.intmap_table.proofs.Lending.Linked.SameKeysLemmas.{node_keys, order-same_keys, sizes-same_keys}

module _ {K V : Type 0} where
  -- how many values a node takes, and the node with others
  abbrev pub node_count : Node (K × V) → ℕ
  node_count (Free n) = 0
  node_count (Held n p) = 1

  abbrev pub node_put : Node (K × V) → List V → Node (K × V)
  node_put (Free n) ws = Free n
  node_put (Held n p) [] = Held n p
  node_put (Held n p) (w ∷ ws) = Held n (p.0, w)

  abbrev pub put_nodes : List (Node (K × V)) → List V → List (Node (K × V))
  put_nodes = row_put node_count node_put

  in_nodes-put : (cs : List (Node (K × V))) (ws : List V) → map in_node (put_nodes cs ws) ≡ rows_with (map in_node cs) ws
  unfolding with_values
  in_nodes-put [] ws = refl
  in_nodes-put (Free n ∷ cs) ws = ap (λ R. [] ∷ R) (in_nodes-put cs ws)
  in_nodes-put (Held n p ∷ cs) [] = ap (λ R. (p ∷ []) ∷ R) (in_nodes-put cs [])
  in_nodes-put (Held n p ∷ cs) (w ∷ ws) = ap (λ R. ((p.0, w) ∷ []) ∷ R) (in_nodes-put cs ws)

  nodes-count : (S : List (Node (K × V))) → row_count node_count S ≡ row_count length (map in_node S)
  nodes-count [] = refl
  nodes-count (Free n ∷ S) = ap (λ k. 0 + k) (nodes-count S)
  nodes-count (Held n p ∷ S) = ap (λ k. 1 + k) (nodes-count S)

  -- links and keys stay
  pub node_keys-put : (cs : List (Node (K × V))) (ws : List V) → node_keys (put_nodes cs ws) ≡ node_keys cs
  node_keys-put [] ws = refl
  node_keys-put (Free n ∷ cs) ws = ap (λ L. Free n ∷ L) (node_keys-put cs ws)
  node_keys-put (Held n p ∷ cs) [] = ap (λ L. Held n p.0 ∷ L) (node_keys-put cs [])
  node_keys-put (Held n p ∷ cs) (w ∷ ws) = ap (λ L. Held n p.0 ∷ L) (node_keys-put cs ws)

  -- slots and nodes with other values, of which the slots take the first
  abbrev pub slots_with : List (Node (K × V)) → List V → List (Node (K × V))
  slots_with S ws = put_nodes S (take (row_count node_count S) ws)

  abbrev pub nodes_with : List (Node (K × V)) → List (Node (K × V)) → List V → List (Node (K × V))
  nodes_with S cs ws = put_nodes cs (drop (row_count node_count S) ws)

  rows_with-put : (R : List (List (K × V))) (ws : List V) → rows_with R ws ≡ row_put length with_values R ws
  rows_with-put [] ws = refl
  rows_with-put (r ∷ R) ws = ap (λ Q. with_values r (take (length r) ws) ∷ Q) (rows_with-put R (drop (length r) ws))

  -- what lies at each place has these values in turn
  laid-with : (S : List (Node (K × V))) (cs : List (Node (K × V))) (ws : List V) → laid (slots_with S ws) (nodes_with S cs ws) ≡ rows_with (laid S cs) ws
  laid-with S cs ws =
      let n = row_count node_count S in
      let m = row_count length (map in_node S) in
      (λ i. in_nodes-put S (take n ws) i ++ in_nodes-put cs (drop n ws) i)
      ∙ (λ i. rows_with (map in_node S) (take (nodes-count S i) ws) ++ rows_with (map in_node cs) (drop (nodes-count S i) ws))
      ∙ (λ i. rows_with-put (map in_node S) (take m ws) i ++ rows_with-put (map in_node cs) (drop m ws) i)
      ∙ row_put-append length with_values (map in_node S) (map in_node cs) ws ∙ sym (rows_with-put (laid S cs) ws)

  -- the values at each place
  abbrev pub values_laid : List (Node (K × V)) → List (Node (K × V)) → List (List V)
  values_laid S cs = map values_of (laid S cs)

  sizes-values : (R : List (List (K × V))) → sizes (map values_of R) ≡ sizes R
  sizes-values [] = refl
  sizes-values (r ∷ R) = λ i. length-map r (λ p. p.1) i ∷ sizes-values R i

  -- in a walk each place stands once
  module _ (S : List (Node (K × V))) (cs : List (Node (K × V))) (once : AreOnce (order S cs)) where
    abbrev O : List ℕ
    O = order S cs

    -- what is taken in its order are its pairs
    laid-drained : drained O (laid S cs) ≡ joined (rows_in S cs)
    laid-drained = drained-once O (laid S cs) once ∙ order-rows S cs

    -- and the values that are taken so are those of the walk
    pub values-drained : drained O (values_laid S cs) ≡ values_of (joined (rows_in S cs))
    values-drained = sym (map-drained (λ p. p.1) O (laid S cs)) ∙ ap values_of laid-drained

    -- values that are given in its order, in that of memory
    abbrev pub in_memory : List V → List V
    in_memory ws = joined (refilled O (values_laid S cs) ws)

    pub written-keys : (us : List V) → (node_keys (slots_with S us) ≡ node_keys S) × (node_keys (nodes_with S cs us) ≡ node_keys cs)
    written-keys us = (node_keys-put S (take (row_count node_count S) us), node_keys-put cs (drop (row_count node_count S) us))

    joined-written : (ws : List V) → length ws ≡ length (joined (rows_in S cs))
        → joined (rows_in (slots_with S (in_memory ws)) (nodes_with S cs (in_memory ws))) ≡ with_values (joined (rows_in S cs)) ws
    joined-written ws long =
        let R = laid S cs in
        let T = refilled O (values_laid S cs) ws in
        let us = in_memory ws in
        let many : length ws ≡ length (drained O (values_laid S cs)) =
        long ∙ sym (length-map (joined (rows_in S cs)) (λ p. p.1)) ∙ ap length (sym values-drained) in
        let alike : sizes R ≡ sizes T = sym (sizes-values R) ∙ sym (sizes-refilled O (values_laid S cs) ws many) in
        let keys = written-keys us in
        let same : order (slots_with S us) (nodes_with S cs us) ≡ O = order-same_keys (slots_with S us) (nodes_with S cs us) S cs keys.0 keys.1 in
        let now = laid (slots_with S us) (nodes_with S cs us) in
        sym (order-rows (slots_with S us) (nodes_with S cs us)) ∙ ap (at_each now) same ∙ sym (drained-once O now once)
        ∙ ap (drained O) (laid-with S cs us ∙ rows_with-joined R T alike) ∙ drained-each_with O R T alike
        ∙ (λ i. with_values (laid-drained i) (drained-refilled O (values_laid S cs) ws many i))

    -- the rows have these values in its order
    pub rows-written : (ws : List V) → length ws ≡ length (joined (rows_in S cs))
        → rows_in (slots_with S (in_memory ws)) (nodes_with S cs (in_memory ws)) ≡ rows_with (rows_in S cs) ws
    rows-written ws long =
        let us = in_memory ws in
        let keys = written-keys us in
        joined-one (rows_in (slots_with S us) (nodes_with S cs us)) (rows_with (rows_in S cs) ws)
        (sizes-same_keys (slots_with S us) (nodes_with S cs us) S cs keys.0 keys.1 ∙ sym (sizes-rows_with (rows_in S cs) ws))
        (joined-written ws long ∙ sym (joined-rows_with (rows_in S cs) ws))
