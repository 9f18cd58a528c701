-- Walks along the pairs of one slot behind its first one.
use Rattle.std.proofs.Common.{◌≡◌, ◌≢◌, inl, ℕ, ◌+◌, ◌≤◌, Bool, true, false, List, [], ◌∷◌, ◌++◌, length, take, drop, set, refl, sym, ap, ◌∙◌, subst, arith}
use Rattle.std.proofs.Math.Seq.{drop-append_seam, take-append_seam, set-append_seam}
use Rattle.std.proofs.lemmas.List.{length-append, append_assoc, take_at, drop_at}
use Rattle.intmap_table.specs.Tables.Behind.{IsBehind, IsBehindFirst}
use Rattle.intmap_table.specs.Tables.Nodes.{node_limit, nowhere, Node, Held, Pool, node_at, chain_of, IsChain, Misses, IsChanged, IsChainSet}
use Rattle.intmap_table.specs.Tables.Walked.{IsWalked, IsUnlinked}
use Rattle.intmap_table.proofs.Nodes.BehindLemmas.{Behind-next, Behind-links, NodeAt-links, Links-set, Links-back}
use Rattle.intmap_table.proofs.Nodes.ChainLemmas.{Set-swap, misses_mid}
use Rattle.intmap_table.proofs.Nodes.NodeLemmas.{Stop}
use Rattle.intmap_table.proofs.Nodes.PathLemmas.{Path-append, SameBut, SameBut-set, Chain-end, Chain-next, IsChain-leads, Leads-limit}

module _ {P : Type 0} where
  -- a test that no pair of a row passes is passed by none at its end
  pub misses_right : (t : P → Bool) (xs ys : List P) → Misses t (xs ++ ys) → Misses t ys
  misses_right t [] ys h = h
  misses_right t (x ∷ xs) ys h = misses_right t xs ys h.1

  -- what is behind as many elements of a list is one
  same_behind : (xs ys vs ws : List P) → length xs ≡ length vs → xs ++ ys ≡ vs ++ ws → ys ≡ ws
  same_behind xs ys vs ws len e = sym (drop-append_seam xs ys) ∙ ap (λ k. drop k (xs ++ ys)) len ∙ ap (drop (length vs)) e ∙ drop-append_seam vs ws

  -- and so are they
  same_before : (xs ys vs ws : List P) → length xs ≡ length vs → xs ++ ys ≡ vs ++ ws → xs ≡ vs
  same_before xs ys vs ws len e = sym (take-append_seam xs ys) ∙ ap (λ k. take k (xs ++ ys)) len ∙ ap (take (length vs)) e ∙ take-append_seam vs ws

  -- a walk begins at any node of the chain, and nothing was changed
  pub Walked-from : (a : Pool P) (l i before at : ℕ) (h : IsBehind a.nodes l i before at) (first : P) (s : Node P) → s ≡ Held l first → IsWalked a l first a s h.reached.before (chain_of a.nodes at) before at
  Walked-from a l i before at h first s slot =
      let sum = ap length h.reached.pairs in
      record {
        link = l;
        slot = slot;
        behind = subst (λ k. IsBehind a.nodes l k before at) (sym h.reached.len) h;
        chain = record {
          is = IsChain-leads a.nodes l (h.reached.before ++ chain_of a.nodes at) (Path-append a.nodes l h.reached.before at (chain_of a.nodes at) nowhere h.reached.path h.reached.is);
          pairs = h.reached.pairs;
          spares = λ t misses k n p passes held. held;
          held = omega (arith, sum);
        };
        loose = λ j k r t misses n p is.
            misses_mid t r.before p (chain_of a.nodes n) (subst (Misses t) (r.pairs ∙ ap (λ ps. r.before ++ ps) (Chain-next a.nodes k n p r.is is).pairs) misses);
      }

  -- the pairs before that node are those before its place
  pub Walked-place : (a : Pool P) (l i before at : ℕ) → IsBehind a.nodes l i before at → (first : P) (s : Node P) → s ≡ Held l first
      → IsWalked a l first a s (take i (chain_of a.nodes l)) (drop i (chain_of a.nodes l)) before at × (length (take i (chain_of a.nodes l)) ≡ i)
  Walked-place a l i before at h first s slot =
      let r = h.reached in
      let passed : take i (chain_of a.nodes l) ≡ r.before = ap (take i) r.pairs ∙ take_at r.before (chain_of a.nodes at) i r.len in
      let left : drop i (chain_of a.nodes l) ≡ chain_of a.nodes at = ap (drop i) r.pairs ∙ drop_at r.before (chain_of a.nodes at) i r.len in
      (rw (passed, left) (Walked-from a l i before at h first s slot), ap length passed ∙ r.len)

  -- also at the front
  pub Walked-start : (a : Pool P) (l : ℕ) (first : P) (s : Node P) → s ≡ Held l first → IsChain a.nodes l → IsWalked a l first a s [] (chain_of a.nodes l) nowhere l
  Walked-start a l first s slot is = Walked-from a l 0 nowhere l (record { reached = record { before = []; pairs = refl; len = refl; path = refl; is = is }; last = inl (refl, refl) }) first s slot

  module _ (a : Pool P) (l : ℕ) (first : P) (b : Pool P) (t : Node P) (passed left : List P) (before at : ℕ) (w : IsWalked a l first b t passed left before at) where
    -- there are no more pairs than nodes
    pub Walked-few : length passed + length left ≤ node_limit
    Walked-few =
        let sum = length-append passed left in let all = ap length w.chain.pairs in let limit = Leads-limit b.nodes w.link (chain_of b.nodes w.link) w.chain.is in
        omega (arith, sum, all, limit)

    -- what is left lies from the node at hand on
    pub Walked-left : chain_of b.nodes at ≡ left
    Walked-left = same_behind w.behind.reached.before (chain_of b.nodes at) passed left w.behind.reached.len (sym w.behind.reached.pairs ∙ w.chain.pairs)

    -- nothing is left where nothing is held
    pub Walked-end : Stop b.nodes at → left ≡ []
    Walked-end stop = sym Walked-left ∙ Chain-end b.nodes at w.behind.reached.is stop

    module _ (n : ℕ) (p : P) (is : node_at b.nodes at ≡ Held n p) where
      -- the pair of the node at hand is the first of those that are left
      next : left ≡ p ∷ chain_of b.nodes n
      next = sym Walked-left ∙ (Chain-next b.nodes at n p w.behind.reached.is is).pairs

      -- so the node is one of the slot
      pub Walked-behind : IsBehindFirst b.nodes t before at
      Walked-behind =
          let sum = length-append passed left in let all = ap length w.chain.pairs in let more = ap length next in
          (w.link, length passed, first, w.slot, omega (arith, sum, all, more), w.behind)

      -- the pair is passed
      pub Walked-keep : (more : List P) × (left ≡ p ∷ more) × IsWalked a l first b t (passed ++ p ∷ []) more at n
      Walked-keep = (
        chain_of b.nodes n,
        next,
        record {
          link = w.link;
          slot = w.slot;
          behind = subst (λ k. IsBehind b.nodes w.link k at n) (sym (length-append passed (p ∷ []))) (Behind-next b.nodes w.link (length passed) at n p w.behind.reached is);
          chain = subst (λ ps. IsChainSet a l ps b w.link) (ap (λ L. passed ++ L) next ∙ sym (append_assoc passed (p ∷ []) (chain_of b.nodes n))) w.chain;
          loose = w.loose;
        },
      )

      -- it is changed
      pub Walked-changed : (q : P) (d : Pool P) → IsChanged b at n q d → (more : List P) × (left ≡ p ∷ more) × IsWalked a l first d t passed (q ∷ more) before at
      Walked-changed q d changed =
          let more = chain_of b.nodes n in
          let swapped = Set-swap b w.link (length passed) at n p q d w.behind.reached is changed in
          let same : SameBut b.nodes d.nodes at = subst (λ xs. SameBut b.nodes xs at) (sym changed.nodes) (SameBut-set b.nodes at (Held n q)) in
          let old = length-append passed (p ∷ more) in let new = length-append passed (q ∷ more) in let len = length-append passed left in let one = ap length next in
          let held = w.chain.held in let held' = changed.held in (
            more,
            next,
            record {
              link = w.link;
              slot = w.slot;
              behind = Behind-links b.nodes d.nodes w.link (length passed) before at (Links-set b.nodes at n p q d.nodes is changed.nodes) w.behind;
              chain = record {
                is = swapped.is;
                pairs = swapped.pairs ∙ ap (λ ps. set ps (length passed) q) (w.chain.pairs ∙ ap (λ L. passed ++ L) next) ∙ set-append_seam passed p more q;
                spares = λ test misses k m x passes at_k.
                    let apart : k ≢ at = λ e.
                    let fails : test x ≡ false = w.loose (length passed) at w.behind.reached test misses m x (ap (node_at a.nodes) (sym e) ∙ at_k) in
                    let both : true ≡ false = sym passes ∙ fails in
                    cc in
                    same k m x apart (w.chain.spares test misses k m x passes at_k);
                held = omega (arith, old, new, len, one, held, held');
              };
              loose = λ i k r. w.loose i k (NodeAt-links d.nodes b.nodes w.link i k (Links-back b.nodes at n p q d.nodes is changed.nodes) r);
            },
          )

      -- it is removed
      pub Walked-cut : (x : P) (d : Pool P) (u : Node P) → IsUnlinked b t before at x d u → (more : List P) × (left ≡ x ∷ more) × IsWalked a l first d u passed more before n
      Walked-cut x d u unlinked =
          let out = unlinked w.link (length passed) first w.slot w.behind in
          let cut = out.2 in
          let split : cut.before ++ x ∷ cut.behind ≡ passed ++ left = sym cut.pairs ∙ w.chain.pairs in
          let behind = same_behind cut.before (x ∷ cut.behind) passed left cut.len split in
          let before_is = same_before cut.before (x ∷ cut.behind) passed left cut.len split in
          let list : cut.before ++ cut.behind ≡ passed ++ cut.behind = ap (λ ps. ps ++ cut.behind) before_is in
          let all = ap length w.chain.pairs in let less = ap length list in
          let held = w.chain.held in let held' = cut.chain.held in (
            cut.behind,
            sym behind,
            record {
              link = out.0;
              slot = out.1;
              behind = out.3 n p is;
              chain = record {
                is = cut.chain.is;
                pairs = cut.chain.pairs ∙ list;
                spares = λ test misses k m y passes at_k.
                    cut.others k m y (λ j r.
                    let fails : test y ≡ false = w.loose j k r test misses m y at_k in
                    let both : true ≡ false = sym passes ∙ fails in
                    cc) (w.chain.spares test misses k m y passes at_k);
                held = omega (arith, all, less, held, held');
              };
              loose = λ j k r. let old = cut.within j k r in w.loose old.0 k old.1;
            },
          )
