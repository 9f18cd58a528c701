-- In the walk of slots that lead through their own pairs, each place stands once.
use Rattle.std.proofs.Common.{◌≡◌, ℕ, zero, suc, ◌+◌, ◌<◌, List, [], ◌∷◌, ◌++◌, length, get_or, map, refl, sym, ap, ◌∙◌, subst, arith}
use Rattle.std.proofs.Math.ListN.{get_or-map}
use Rattle.std.proofs.lemmas.List.{length-map}
use Rattle.std.specs.declared.option.Option.TheVariants.{None, Some}
use Rattle.intmap_table.specs.Tables.Nodes.{Node, Free, Held, empty, Pool, node_at, chain_of, row_in, IsChain, IsSlot, AreHome, AreLinked}
use Rattle.intmap_table.proofs.Nodes.PathLemmas.{Chain-next}
use Rattle.intmap_table.proofs.Lending.ChosenLemmas.{at_place}
use Rattle.intmap_table.proofs.Lending.Linked.PlacesLemmas.{link, in_node, laid, order, link_at, passing, trail, slot_places, AreOnce, at_each, link-at, held_get, trail-chain_of, nodes_lie, slot_lies}
use Rattle.intmap_table.proofs.Lending.Linked.OnceLemmas.{AllAt, trail-once, trail-behind, walk_from-once}

module _ {P : Type 0} (home : P → ℕ) where
  -- where the first pair is at home
  abbrev home_of : List P → ℕ
  home_of [] = 0
  home_of (p ∷ ps) = home p

  -- pairs lie at these places
  abbrev HasPairs : List (List P) → List ℕ → Type 0
  HasPairs R [] = Unit {0}
  HasPairs R (u ∷ O) = (0 < length (at_place R u)) × HasPairs R O

  home-behind : (r Q : List P) (i : ℕ) → AreHome home i (r ++ Q) → AreHome home i Q
  home-behind [] Q i own = own
  home-behind (p ∷ r) Q i own = home-behind r Q i own.1

  home-first : (r Q : List P) (i : ℕ) → 0 < length r → AreHome home i (r ++ Q) → (home_of r ≡ i) × AreHome home i Q
  home-first [] Q i some own = absurd (omega (arith, some))
  home-first (p ∷ r) Q i some own = (own.0, home-behind r Q i own.1)

  home-each : (R : List (List P)) (i : ℕ) (O : List ℕ) → HasPairs R O → AreHome home i (at_each R O) → AllAt (λ u. home_of (at_place R u)) i O
  home-each R i [] some own = tt
  home-each R i (u ∷ O) some own = let h = home-first (at_place R u) (at_each R O) i some.0 own in (h.0, home-each R i O some.1 h.1)

  module _ (S : List (Node P)) (cs : List (Node P)) where
    abbrev m : ℕ
    m = length (map link S)

    abbrev R : List (List P)
    R = laid S cs

    passing-has : (l : ℕ) (c : Node P) → c ≡ node_at cs l → (more : ℕ → List ℕ) → ((n : ℕ) → HasPairs R (more n)) → HasPairs R (passing (link c) (m + l) more)
    passing-has l (Free n) is more each = tt
    passing-has l (Held n p) is more each =
        let one : length (at_place R (m + l)) ≡ 1 = ap length (nodes_lie S cs l ∙ ap in_node (held_get cs l n p (sym is))) in (omega (arith, one), each n)

    trail-has : (n l : ℕ) → HasPairs R (trail m (map link cs) n l)
    trail-has zero l = tt
    trail-has (suc n) l = subst (λ s. HasPairs R (passing s (m + l) (trail m (map link cs) n))) (sym (link-at cs l))
        (passing-has l (node_at cs l) refl (trail m (map link cs) n) (trail-has n))

    linked_held : (c : Node P) (n : ℕ) → link c ≡ Some n → (p : P) × (c ≡ Held n p)
    linked_held (Free k) n is = absurd cc
    linked_held (Held k p) n is = let same : k ≡ n = cc in (p, ap (λ j. Held j p) same)

    -- a link of a chain leads to one that is shorter by a pair
    next_ends : (l n : ℕ) → IsChain cs l → link_at (map link cs) l ≡ Some n → IsChain cs n × (length (chain_of cs l) ≡ suc (length (chain_of cs n)))
    next_ends l n ends is =
        let held = linked_held (node_at cs l) n (sym (link-at cs l) ∙ is) in
        let next = Chain-next cs l n held.0 ends held.1 in
        (next.is, ap length next.pairs)

    abbrev Places : ℕ → Node P → List ℕ
    Places i s = slot_places m (map link cs) i (link s)

    slot_once : (i : ℕ) (s : Node P) → i < m → at_place R i ≡ in_node s → IsSlot cs s → AreHome home i (row_in cs s)
        → AreOnce (Places i s) × AllAt (λ u. home_of (at_place R u)) i (Places i s)
    slot_once i (Free n) below lies ends own = (tt, tt)
    slot_once i (Held l p) below lies ends own =
        let n = length (map link cs) in
        let rank = λ (k : ℕ). length (chain_of cs k) in (
          (trail-behind m (map link cs) rank (IsChain cs) next_ends i n l below, (trail-once m (map link cs) rank (IsChain cs) next_ends n l ends).0),
          (
            ap home_of lies ∙ own.0,
            home-each R i (trail m (map link cs) n l) (trail-has n l) (subst (AreHome home i) (sym (trail-chain_of R m cs (nodes_lie S cs) l)) own.1),
          ),
        )

    -- slots in which each pair is at home
    order-once : ((i : ℕ) → i < length S → IsSlot cs (get_or S i empty) × AreHome home i (row_in cs (get_or S i empty))) → AreOnce (order S cs)
    order-once each = (walk_from-once (λ u. home_of (at_place R u)) m (map link cs) 0 (map link S) (λ k b.
        let long : length (map link S) ≡ length S = length-map S link in
        let below : k < length S = omega (arith, b, long) in
        let z : k ≡ 0 + k = omega arith in
        let fine = slot_once k (get_or S k empty) b (slot_lies S cs k below) (each k below).0 (each k below).1 in
        subst (λ j. AreOnce (slot_places m (map link cs) j (get_or (map link S) k None))
        × AllAt (λ u. home_of (at_place R u)) j (slot_places m (map link cs) j (get_or (map link S) k None))) z
        (subst (λ o. AreOnce (slot_places m (map link cs) k o) × AllAt (λ u. home_of (at_place R u)) k (slot_places m (map link cs) k o))
        (sym (get_or-map link S k empty)) fine))).0

  -- slots that lead through their own pairs
  pub Linked-once : (S : List (Node P)) (pool : Pool P) → AreLinked home S pool → AreOnce (order S pool.nodes)
  Linked-once S pool linked = order-once S pool.nodes (λ i below. (linked.chains i below, linked.own i below))
