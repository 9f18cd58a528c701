-- Nodes of something else than pairs, with the same links, and slots, which are nodes.
use Rattle.std.proofs.Common.{◌≡◌, ℕ, zero, suc, ◌+◌, ◌-◌, ◌*◌, ◌/◌, cond, Bool, true, false, List, [], ◌∷◌, ◌++◌, length, get_or, map, refl, sym, ap, ◌∙◌, subst, arith}
use Rattle.std.specs.Prelude.{nat_lt}
use Rattle.std.proofs.Math.ListN.{get_or-map}
use Rattle.std.proofs.lemmas.List.{length-map, map-append}
use Rattle.std.proofs.lemmas.List.Sums.{sum_by-cons}
use Rattle.std.specs.declared.option.Option.TheVariants.{None, Some}
use Rattle.intmap_table.specs.Tables.Slots.{AreMarked}
use Rattle.intmap_table.specs.Tables.Nodes.{node_limit, Node, Free, Held, empty, Pool, node_at, Frees, IsPool, Path, onward, chain_in, chain_of, row_in, rows_in, further, IsSlot, AreHome, AreLinked}
use Rattle.intmap_table.proofs.Nodes.PathLemmas.{IsChain-leads}
use Rattle.intmap_table.proofs.Lending.ChosenLemmas.{sizes}
use Rattle.intmap_table.proofs.Lending.Linked.PlacesLemmas.{link, in_node, laid, order, walk_order}

module _ {P Q : Type 0} (f : P → Q) where
  abbrev pub map_node : Node P → Node Q
  map_node (Free n) = Free n
  map_node (Held n p) = Held n (f p)

  abbrev pub map_nodes : List (Node P) → List (Node Q)
  map_nodes cs = map map_node cs

  abbrev pub map_pool : Pool P → Pool Q
  map_pool a = record { nodes = map_nodes a.nodes; held = a.held; total = a.total }

  map_node-if : (b : Bool) (c : Node P) → cond b (map_node c) (Free 0) ≡ map_node (cond b c (Free 0))
  map_node-if true c = refl
  map_node-if false c = refl

  node_at-map : (cs : List (Node P)) (l : ℕ) → node_at (map_nodes cs) l ≡ map_node (node_at cs l)
  node_at-map cs l = ap (λ c. cond (nat_lt l node_limit) c (Free 0)) (get_or-map map_node cs l (Free 0)) ∙ map_node-if (nat_lt l node_limit) (get_or cs l (Free 0))

  onward-map : (c : Node P) (g : ℕ → List P) (h : ℕ → List Q) → ((k : ℕ) → h k ≡ map f (g k)) → onward (map_node c) h ≡ map f (onward c g)
  onward-map (Free n) g h same = refl
  onward-map (Held n p) g h same = ap (λ qs. f p ∷ qs) (same n)

  chain_in-map : (cs : List (Node P)) (n l : ℕ) → chain_in (map_nodes cs) n l ≡ map f (chain_in cs n l)
  chain_in-map cs zero l = refl
  chain_in-map cs (suc n) l = ap (λ c. onward c (chain_in (map_nodes cs) n)) (node_at-map cs l)
      ∙ onward-map (node_at cs l) (chain_in cs n) (chain_in (map_nodes cs) n) (chain_in-map cs n)

  chain_of-map : (cs : List (Node P)) (l : ℕ) → chain_of (map_nodes cs) l ≡ map f (chain_of cs l)
  unfolding chain_of
  chain_of-map cs l = ap (λ n. chain_in (map_nodes cs) n l) (length-map cs map_node) ∙ chain_in-map cs (length cs) l

  row-map : (cs : List (Node P)) (s : Node P) → row_in (map_nodes cs) (map_node s) ≡ map f (row_in cs s)
  row-map cs (Free n) = refl
  row-map cs (Held l p) = ap (λ qs. f p ∷ qs) (chain_of-map cs l)

  -- their rows are made of the rows of pairs
  pub rows-map : (S : List (Node P)) (cs : List (Node P)) → rows_in (map_nodes S) (map_nodes cs) ≡ map (map f) (rows_in S cs)
  rows-map [] cs = refl
  rows-map (s ∷ S) cs = λ i. row-map cs s i ∷ rows-map S cs i

  links-map : (cs : List (Node P)) → map link (map_nodes cs) ≡ map link cs
  links-map [] = refl
  links-map (Free n ∷ cs) = ap (λ L. None ∷ L) (links-map cs)
  links-map (Held n p ∷ cs) = ap (λ L. Some n ∷ L) (links-map cs)

  -- a walk comes to the same places
  pub order-map : (S : List (Node P)) (cs : List (Node P)) → order (map_nodes S) (map_nodes cs) ≡ order S cs
  order-map S cs = λ i. walk_order (links-map S i) (links-map cs i)

  in_nodes-map : (cs : List (Node P)) → map in_node (map_nodes cs) ≡ map (map f) (map in_node cs)
  in_nodes-map [] = refl
  in_nodes-map (Free n ∷ cs) = ap (λ R. [] ∷ R) (in_nodes-map cs)
  in_nodes-map (Held n p ∷ cs) = ap (λ R. (f p ∷ []) ∷ R) (in_nodes-map cs)

  -- what lies at these places is made of the pairs
  pub laid-map : (S : List (Node P)) (cs : List (Node P)) → laid (map_nodes S) (map_nodes cs) ≡ map (map f) (laid S cs)
  laid-map S cs = (λ i. in_nodes-map S i ++ in_nodes-map cs i) ∙ sym (map-append (map f) (map in_node S) (map in_node cs))

  pub sizes-map_rows : (R : List (List P)) → sizes (map (map f) R) ≡ sizes R
  sizes-map_rows [] = refl
  sizes-map_rows (r ∷ R) = λ i. length-map r f i ∷ sizes-map_rows R i

  unmap_free : (c : Node P) (n : ℕ) → map_node c ≡ Free n → c ≡ Free n
  unmap_free (Free k) n is = let same : k ≡ n = cc in ap (λ j. Free j) same
  unmap_free (Held k p) n is = absurd cc

  unmap_held : (c : Node P) (n : ℕ) (q : Q) → map_node c ≡ Held n q → (p : P) × (c ≡ Held n p)
  unmap_held (Free k) n q is = absurd cc
  unmap_held (Held k p) n q is = let same : k ≡ n = cc in (p, ap (λ j. Held j p) same)

  Frees-map : (cs : List (Node P)) (g n : ℕ) → Frees cs g n → Frees (map_nodes cs) g n
  Frees-map cs g zero frees = frees
  Frees-map cs g (suc n) frees =
      let long = length-map cs map_node in let below = frees.1 in
      (frees.0, omega (arith, below, long), node_at-map cs g ∙ ap map_node frees.2, Frees-map cs frees.0 n frees.3)

  Frees-unmap : (cs : List (Node P)) (g n : ℕ) → Frees (map_nodes cs) g n → Frees cs g n
  Frees-unmap cs g zero frees = frees
  Frees-unmap cs g (suc n) frees =
      let long = length-map cs map_node in let below = frees.1 in
      (frees.0, omega (arith, below, long), unmap_free (node_at cs g) frees.0 (sym (node_at-map cs g) ∙ frees.2), Frees-unmap cs frees.0 n frees.3)

  -- the same nodes are free
  pub IsPool-map : (cs : List (Node P)) (g n : ℕ) → IsPool cs g n → IsPool (map_nodes cs) g n
  IsPool-map cs g n is = let long = length-map cs map_node in let few = is.few in record { few = omega (arith, few, long); frees = Frees-map cs g n is.frees }

  pub IsPool-unmap : (cs : List (Node P)) (g n : ℕ) → IsPool (map_nodes cs) g n → IsPool cs g n
  IsPool-unmap cs g n is = let long = length-map cs map_node in let few = is.few in record { few = omega (arith, few, long); frees = Frees-unmap cs g n is.frees }

  Path-map : (cs : List (Node P)) (l : ℕ) (ps : List P) (m : ℕ) → Path cs l ps m → Path (map_nodes cs) l (map f ps) m
  Path-map cs l [] m path = path
  Path-map cs l (p ∷ ps) m path = (path.0, node_at-map cs l ∙ ap map_node path.1, Path-map cs path.0 ps m path.2)

  Path-unmap : (cs : List (Node P)) (l : ℕ) (qs : List Q) (m : ℕ) → Path (map_nodes cs) l qs m → (ps : List P) × Path cs l ps m
  Path-unmap cs l [] m path = ([], path)
  Path-unmap cs l (q ∷ qs) m path =
      let here = unmap_held (node_at cs l) path.0 q (sym (node_at-map cs l) ∙ path.1) in
      let rest = Path-unmap cs path.0 qs m path.2 in
      (here.0 ∷ rest.0, (path.0, here.1, rest.1))

  IsSlot-map : (cs : List (Node P)) (s : Node P) → IsSlot cs s → IsSlot (map_nodes cs) (map_node s)
  IsSlot-map cs (Free n) is = tt
  IsSlot-map cs (Held l p) is = IsChain-leads (map_nodes cs) l (map f (chain_of cs l)) (Path-map cs l (chain_of cs l) _ is)

  IsSlot-unmap : (cs : List (Node P)) (s : Node P) → IsSlot (map_nodes cs) (map_node s) → IsSlot cs s
  IsSlot-unmap cs (Free n) is = tt
  IsSlot-unmap cs (Held l p) is = let path = Path-unmap cs l (chain_of (map_nodes cs) l) _ is in IsChain-leads cs l path.0 path.1

  further-map : (R : List (List P)) → further (map (map f) R) ≡ further R
  further-map [] = refl
  further-map (r ∷ R) = sum_by-cons (λ row. length row - 1) (map f r) (map (map f) R) ∙ (λ i. length-map r f i - 1 + further-map R i)
      ∙ sym (sum_by-cons (λ row. length row - 1) r R)

  -- the same rows hold something, and are marked
  pub AreMarked-map : (R : List (List P)) (marks : List Bool) → AreMarked R marks → AreMarked (map (map f) R) marks
  AreMarked-map R marks are = record {
    words = subst (λ n. length marks ≡ 64 * ((n + 63) / 64)) (sym (length-map R (map f))) are.words;
    own = λ i. are.own i ∙ ap (nat_lt 0) (sym (length-map (get_or R i []) f) ∙ ap length (sym (get_or-map (map f) R i [])));
  }

  pub AreMarked-unmap : (R : List (List P)) (marks : List Bool) → AreMarked (map (map f) R) marks → AreMarked R marks
  AreMarked-unmap R marks are = record {
    words = subst (λ n. length marks ≡ 64 * ((n + 63) / 64)) (length-map R (map f)) are.words;
    own = λ i. are.own i ∙ ap (nat_lt 0) (ap length (get_or-map (map f) R i []) ∙ length-map (get_or R i []) f);
  }

  module _ (home : Q → ℕ) where
    AreHome-map : (i : ℕ) (ps : List P) → AreHome (λ p. home (f p)) i ps → AreHome home i (map f ps)
    AreHome-map i [] own = tt
    AreHome-map i (p ∷ ps) own = (own.0, AreHome-map i ps own.1)

    AreHome-unmap : (i : ℕ) (ps : List P) → AreHome home i (map f ps) → AreHome (λ p. home (f p)) i ps
    AreHome-unmap i [] own = tt
    AreHome-unmap i (p ∷ ps) own = (own.0, AreHome-unmap i ps own.1)

    -- slots lead through what is made of their own pairs
    pub AreLinked-map : (S : List (Node P)) (a : Pool P) → AreLinked (λ p. home (f p)) S a → AreLinked home (map_nodes S) (map_pool a)
    AreLinked-map S a is =
        let long = length-map S map_node in
        let at = λ (i : ℕ). get_or-map map_node S i empty in
        record {
          chains = λ i below. subst (IsSlot (map_nodes a.nodes)) (sym (at i)) (IsSlot-map a.nodes (get_or S i empty) (is.chains i (omega (arith, below, long))));
          own = λ i below. subst (AreHome home i) (sym (ap (row_in (map_nodes a.nodes)) (at i) ∙ row-map a.nodes (get_or S i empty)))
              (AreHome-map i (row_in a.nodes (get_or S i empty)) (is.own i (omega (arith, below, long))));
          held = ap further (rows-map S a.nodes) ∙ further-map (rows_in S a.nodes) ∙ is.held;
        }

    pub AreLinked-unmap : (S : List (Node P)) (a : Pool P) → AreLinked home (map_nodes S) (map_pool a) → AreLinked (λ p. home (f p)) S a
    AreLinked-unmap S a is =
        let long = length-map S map_node in
        let at = λ (i : ℕ). get_or-map map_node S i empty in
        record {
          chains = λ i below. IsSlot-unmap a.nodes (get_or S i empty) (subst (IsSlot (map_nodes a.nodes)) (at i) (is.chains i (omega (arith, below, long))));
          own = λ i below. AreHome-unmap i (row_in a.nodes (get_or S i empty))
              (subst (AreHome home i) (ap (row_in (map_nodes a.nodes)) (at i) ∙ row-map a.nodes (get_or S i empty)) (is.own i (omega (arith, below, long))));
          held = sym (further-map (rows_in S a.nodes)) ∙ ap further (sym (rows-map S a.nodes)) ∙ is.held;
        }
