-- The places of pairs in memory, slots first and nodes behind them, in the order in which a walk comes to them.
use Rattle.std.proofs.Common.{◌≡◌, ◌≢◌, ℕ, zero, suc, ◌+◌, ◌<◌, cond, Bool, true, false, List, [], ◌∷◌, ◌++◌, length, get_or, map, refl, sym, ap, ◌∙◌, arith}
use Rattle.std.specs.Prelude.{nat_lt}
use Rattle.std.proofs.lemmas.List.{get_or-set_other, length-map, append_assoc}
use Rattle.std.specs.declared.option.Option.{Option}
use Rattle.std.specs.declared.option.Option.TheVariants.{None, Some}
use Rattle.std.proofs.Math.ListN.{get_or-map}
use Rattle.intmap_table.specs.Tables.Slots.{joined}
use Rattle.intmap_table.specs.Tables.Nodes.{node_limit, Node, Free, Held, empty, node_at, onward, chain_in, chain_of, rows_in}
use Rattle.intmap_table.proofs.Nodes.NodeLemmas.{node_at-below, held_limit}
use Rattle.intmap_table.proofs.Lending.ChosenLemmas.{at_place, emptied, drained}

module _ {P : Type 0} where
  -- the link of a node that holds a pair
  abbrev pub link : Node P → Option ℕ
  link (Free n) = None
  link (Held n p) = Some n

  -- the pair that lies in a node itself
  abbrev pub in_node : Node P → List P
  in_node (Free n) = []
  in_node (Held n p) = p ∷ []

  -- what lies at each place
  abbrev pub laid : List (Node P) → List (Node P) → List (List P)
  laid slots nodes = map in_node slots ++ map in_node nodes

-- the link of the node of this number
abbrev pub link_at : List (Option ℕ) → ℕ → Option ℕ
link_at links l = cond (nat_lt l node_limit) (get_or links l None) None

-- the place of a node that has a link, before those that are made of the link
abbrev pub passing : Option ℕ → ℕ → (ℕ → List ℕ) → List ℕ
passing None at more = []
passing (Some n) at more = at ∷ more n

-- the places of up to n nodes that a link leads through, where there are m slots
abbrev pub trail : ℕ → List (Option ℕ) → ℕ → ℕ → List ℕ
trail m links zero l = []
trail m links (suc n) l = passing (link_at links l) (m + l) (trail m links n)

-- the places of the pairs of slot i
abbrev pub slot_places : ℕ → List (Option ℕ) → ℕ → Option ℕ → List ℕ
slot_places m links i None = []
slot_places m links i (Some l) = i ∷ trail m links (length links) l

-- the places of the pairs of the slots from i on
abbrev pub walk_from : ℕ → List (Option ℕ) → ℕ → List (Option ℕ) → List ℕ
walk_from m links i [] = []
walk_from m links i (s ∷ S) = slot_places m links i s ++ walk_from m links (suc i) S

-- the places of all pairs, in the order of a walk
abbrev pub walk_order : List (Option ℕ) → List (Option ℕ) → List ℕ
walk_order starts links = walk_from (length starts) links 0 starts

abbrev pub order : {P : Type 0} → List (Node P) → List (Node P) → List ℕ
order slots nodes = walk_order (map link slots) (map link nodes)

-- place t isn't in the list
abbrev pub Absent : ℕ → List ℕ → Type 0
Absent t [] = Unit {0}
Absent t (u ∷ O) = (u ≢ t) × Absent t O

-- no place stands twice in the list
abbrev pub AreOnce : List ℕ → Type 0
AreOnce [] = Unit {0}
AreOnce (t ∷ O) = Absent t O × AreOnce O

-- what lies at each place of the list, one row after another
abbrev pub at_each : {X : Type 0} → List (List X) → List ℕ → List X
at_each R [] = []
at_each R (p ∷ O) = at_place R p ++ at_each R O

at_each-append : {X : Type 0} (R : List (List X)) (O Q : List ℕ) → at_each R (O ++ Q) ≡ at_each R O ++ at_each R Q
at_each-append R [] Q = refl
at_each-append R (p ∷ O) Q = ap (λ xs. at_place R p ++ xs) (at_each-append R O Q) ∙ sym (append_assoc (at_place R p) (at_each R O) (at_each R Q))

at_each-emptied : {X : Type 0} (R : List (List X)) (p : ℕ) (O : List ℕ) → Absent p O → at_each (emptied R p) O ≡ at_each R O
at_each-emptied R p [] once = refl
at_each-emptied R p (u ∷ O) once = λ i. get_or-set_other R p u [] [] once.0 i ++ at_each-emptied R p O once.1 i

-- what is taken at places that stand once is what lies there
pub drained-once : {X : Type 0} (O : List ℕ) (R : List (List X)) → AreOnce O → drained O R ≡ at_each R O
drained-once [] R once = refl
drained-once (p ∷ O) R once = ap (λ xs. at_place R p ++ xs) (drained-once O (emptied R p) once.1 ∙ at_each-emptied R p O once.0)

at_place-right : {X : Type 0} (A B : List (List X)) (k : ℕ) → at_place (A ++ B) (length A + k) ≡ at_place B k
at_place-right [] B k = let e : 0 + k ≡ k = omega arith in ap (at_place B) e
at_place-right (a ∷ A) B k = let e : suc (length A) + k ≡ suc (length A + k) = omega arith in ap (at_place (a ∷ A ++ B)) e ∙ at_place-right A B k

module _ {P : Type 0} where
  link-if : (b : Bool) (c : Node P) → cond b (link c) None ≡ link (cond b c (Free 0))
  link-if true c = refl
  link-if false c = refl

  -- a node has its link
  pub link-at : (cs : List (Node P)) (l : ℕ) → link_at (map link cs) l ≡ link (node_at cs l)
  link-at cs l = ap (λ s. cond (nat_lt l node_limit) s None) (get_or-map link cs l (Free 0)) ∙ link-if (nat_lt l node_limit) (get_or cs l (Free 0))

  -- a node that holds a pair is in the list of nodes
  pub held_get : (cs : List (Node P)) (l n : ℕ) (p : P) → node_at cs l ≡ Held n p → get_or cs l (Free 0) ≡ Held n p
  held_get cs l n p is = sym (node_at-below cs l (held_limit cs l n p is)) ∙ is

  -- the nodes lie behind m slots
  abbrev pub LieBehind : ℕ → List (List P) → List (Node P) → Type 0
  LieBehind m R cs = (l : ℕ) → at_place R (m + l) ≡ in_node (get_or cs l (Free 0))

  passing-onward : (R : List (List P)) (m : ℕ) (cs : List (Node P)) → LieBehind m R cs
      → (l : ℕ) (c : Node P) → c ≡ node_at cs l → (tags : ℕ → List ℕ) (pairs : ℕ → List P) → ((k : ℕ) → at_each R (tags k) ≡ pairs k)
      → at_each R (passing (link c) (m + l) tags) ≡ onward c pairs
  passing-onward R m cs lie l (Free k) is tags pairs more = refl
  passing-onward R m cs lie l (Held k p) is tags pairs more =
      let here : at_place R (m + l) ≡ p ∷ [] = lie l ∙ ap in_node (held_get cs l k p (sym is)) in λ i. here i ++ more k i

  -- at the places of a chain lie its pairs
  trail-chain : (R : List (List P)) (m : ℕ) (cs : List (Node P)) → LieBehind m R cs → (n l : ℕ) → at_each R (trail m (map link cs) n l) ≡ chain_in cs n l
  trail-chain R m cs lie zero l = refl
  trail-chain R m cs lie (suc n) l = ap (λ s. at_each R (passing s (m + l) (trail m (map link cs) n))) (link-at cs l)
      ∙ passing-onward R m cs lie l (node_at cs l) refl (trail m (map link cs) n) (chain_in cs n) (trail-chain R m cs lie n)

  pub trail-chain_of : (R : List (List P)) (m : ℕ) (cs : List (Node P)) → LieBehind m R cs
      → (l : ℕ) → at_each R (trail m (map link cs) (length (map link cs)) l) ≡ chain_of cs l
  unfolding chain_of
  trail-chain_of R m cs lie l = trail-chain R m cs lie (length (map link cs)) l ∙ ap (λ n. chain_in cs n l) (length-map cs link)

  shifted : (R : List (List P)) (i k : ℕ) → at_place R (suc i + k) ≡ at_place R (i + suc k)
  shifted R i k = let e : suc i + k ≡ i + suc k = omega arith in ap (at_place R) e

  -- at the places of slots lie their rows
  walk_from-rows : (R : List (List P)) (m : ℕ) (cs : List (Node P)) → LieBehind m R cs
      → (i : ℕ) (T : List (Node P)) → ((k : ℕ) → k < length T → at_place R (i + k) ≡ in_node (get_or T k empty))
      → at_each R (walk_from m (map link cs) i (map link T)) ≡ joined (rows_in T cs)
  walk_from-rows R m cs lie i [] own = refl
  walk_from-rows R m cs lie i (Free n ∷ T) own = walk_from-rows R m cs lie (suc i) T (λ k b. shifted R i k ∙ own (suc k) (omega (arith, b)))
  walk_from-rows R m cs lie i (Held l p ∷ T) own =
      let z : i ≡ i + 0 = omega arith in
      let first : at_place R i ≡ p ∷ [] = ap (at_place R) z ∙ own 0 (omega arith) in
      let further = walk_from-rows R m cs lie (suc i) T (λ k b. shifted R i k ∙ own (suc k) (omega (arith, b))) in
      at_each-append R (i ∷ trail m (map link cs) (length (map link cs)) l) (walk_from m (map link cs) (suc i) (map link T))
      ∙ (λ j. (first j ++ trail-chain_of R m cs lie l j) ++ further j)

  in_node-at : (S : List (Node P)) (B : List (List P)) (k : ℕ) → k < length S → at_place (map in_node S ++ B) k ≡ in_node (get_or S k empty)
  in_node-at [] B k b = absurd (omega (arith, b))
  in_node-at (s ∷ S) B zero b = refl
  in_node-at (s ∷ S) B (suc k) b = in_node-at S B k (omega (arith, b))

  -- nodes lie behind the slots
  pub nodes_lie : (S : List (Node P)) (cs : List (Node P)) → LieBehind (length (map link S)) (laid S cs) cs
  nodes_lie S cs l = let e : length (map link S) ≡ length (map in_node S) = length-map S link ∙ sym (length-map S in_node) in
      ap (λ m. at_place (laid S cs) (m + l)) e ∙ at_place-right (map in_node S) (map in_node cs) l ∙ get_or-map in_node cs l (Free 0)

  -- slots lie before the nodes
  pub slot_lies : (S : List (Node P)) (cs : List (Node P)) (k : ℕ) → k < length S → at_place (laid S cs) k ≡ in_node (get_or S k empty)
  slot_lies S cs k b = in_node-at S (map in_node cs) k b

  -- at all places, in the order of a walk, lie the pairs of the walk
  pub order-rows : (S : List (Node P)) (cs : List (Node P)) → at_each (laid S cs) (order S cs) ≡ joined (rows_in S cs)
  order-rows S cs =
      walk_from-rows (laid S cs) (length (map link S)) cs (nodes_lie S cs)
      0 S (λ k b. let z : 0 + k ≡ k = omega arith in ap (at_place (laid S cs)) z ∙ slot_lies S cs k b)
