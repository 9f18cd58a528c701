-- Nodes of a chain, and the node before each.
use Rattle.std.proofs.Common.{◌≡◌, ◌≢◌, ◌⊎◌, inl, inr, ℕ, ◌+◌, ◌<◌, ◌≤◌, List, [], ◌∷◌, length, set, refl, sym, ap, ◌∙◌, subst, arith}
use Rattle.intmap_table.specs.Tables.Behind.{IsBehind}
use Rattle.intmap_table.specs.Tables.Nodes.{Node, Free, Held, Pool, node_limit, nowhere, node_at, Path, chain_of, IsChain, IsNodeAt, IsReleased, IsChanged, IsCut}
use Rattle.intmap_table.proofs.Nodes.NodeLemmas.{below_or_not, same_or_not, held_limit, node_at-set_held, node_at-set_other}
use Rattle.intmap_table.proofs.Nodes.PathLemmas.{Chain-nowhere, Path-between, NodeAt-leads, NodeAt-start, NodeAt-next, NodeAt-len}
use Rattle.intmap_table.proofs.Nodes.ChainLemmas.{Cut-keeps, Cut-first, Cut-out}

module _ {P : Type 0} where
  -- the front of a chain has no node before it
  pub Behind-start : (cs : List (Node P)) (l : ℕ) → IsChain cs l → IsBehind cs l 0 nowhere l
  Behind-start cs l is = record { reached = NodeAt-start cs l is; last = inl (refl, refl) }

  -- the node that another leads to is behind that one
  pub Behind-next : (cs : List (Node P)) (from i at n : ℕ) (p : P) → IsNodeAt cs from i at → node_at cs at ≡ Held n p → IsBehind cs from (i + 1) at n
  Behind-next cs from i at n p h is = record { reached = NodeAt-next cs from i at n p h is; last = inr (i, p, refl, h, is) }

  -- behind the last node, the link leads nowhere
  pub Behind-end : (cs : List (Node P)) (from i last at : ℕ) → IsBehind cs from i last at → chain_of cs at ≡ [] → IsBehind cs from (length (chain_of cs from)) last nowhere
  Behind-end cs from i last at h none =
      let all = NodeAt-len cs from i at h.reached in let len = ap length none in
      let end : i ≡ length (chain_of cs from) = omega (arith, all, len) in
      subst (λ j. IsBehind cs from j last nowhere) end (subst (λ k. IsBehind cs from i last k) (Chain-nowhere cs at h.reached.is none) h)

  none_is : (cs : List (Node P)) (c : ℕ) (zs : List P) (d : ℕ) → length zs ≡ 0 → Path cs c zs d → c ≡ d
  none_is cs c [] d e path = path
  none_is cs c (z ∷ zs) d e path = absurd (omega (arith, e))

  -- one node is at a place
  pub NodeAt-one : (cs : List (Node P)) (from i c d : ℕ) → IsNodeAt cs from i c → IsNodeAt cs from i d → c ≡ d
  NodeAt-one cs from i c d r s =
      let a = r.len in let b = s.len in
      let between = Path-between cs from r.before c s.before d r.path s.path (omega (arith, a, b)) in
      let len = between.2 in
      none_is cs c between.0 d (omega (arith, a, b, len)) between.1

  -- and it is at no other
  pub NodeAt-place : (cs : List (Node P)) (from i j c : ℕ) → IsNodeAt cs from i c → IsNodeAt cs from j c → i ≡ j
  NodeAt-place cs from i j c r s = let a = NodeAt-len cs from i c r in let b = NodeAt-len cs from j c s in omega (arith, a, b)

  -- of two nodes, the one that isn't behind the other is before it
  pub NodeAt-before : (cs : List (Node P)) (from i j c d : ℕ) → IsNodeAt cs from i c → IsNodeAt cs from j d → i ≤ j → d ≢ c → i < j
  NodeAt-before cs from i j c d r s le apart = elim (below_or_not i j) as (λ _. i < j) [
    | inl less ↦ less
    | inr ge ↦ (let same : j ≡ i = omega (arith, le, ge) in absurd (apart (NodeAt-one cs from i d c (subst (λ k. IsNodeAt cs from k d) same s) r)))
  ]

  -- the node before is none at the front of a chain alone
  pub Behind-front : (cs : List (Node P)) (from i before at : ℕ) → IsBehind cs from i before at → node_limit ≤ before → (i ≡ 0) × (from ≡ at)
  Behind-front cs from i before at h beyond = elim h.last as (λ _. (i ≡ 0) × (from ≡ at)) [
    | inl none ↦ (let len = h.reached.len in let first = none.0 in (none.0, none_is cs from h.reached.before at (omega (arith, len, first)) h.reached.path))
    | inr z ↦ (let limit = held_limit cs before at z.1 z.4 in absurd (omega (arith, limit, beyond)))
  ]

  -- the one before another
  pub record IsTwo (cs : List (Node P)) (from i before at : ℕ) : Type 0 where
    pub place : ℕ
    pub pair : P
    pub is : i ≡ place + 1
    pub reached : IsNodeAt cs from place before
    pub held : node_at cs before ≡ Held at pair

  pub Behind-two : (cs : List (Node P)) (from i before at : ℕ) → IsBehind cs from i before at → before < node_limit → IsTwo cs from i before at
  Behind-two cs from i before at h below = elim h.last as (λ _. IsTwo cs from i before at) [
    | inl none ↦ absurd (omega (arith, none.1, below))
    | inr z ↦ record { place = z.0; pair = z.1; is = z.2; reached = z.3; held = z.4 }
  ]

  -- there is one, except at the front
  pub Behind-some : (cs : List (Node P)) (from i before at : ℕ) → IsBehind cs from i before at → 0 < i → IsTwo cs from i before at
  Behind-some cs from i before at h some = elim h.last as (λ _. IsTwo cs from i before at) [
    | inl none ↦ absurd (omega (arith, none.0, some))
    | inr z ↦ record { place = z.0; pair = z.1; is = z.2; reached = z.3; held = z.4 }
  ]

  -- the node before another one still holds a pair once that one is released
  pub Behind-held : (a : Pool P) (l i before at n : ℕ) (p q : P) (b : Pool P) → IsBehind a.nodes l i before at → before < node_limit → node_at a.nodes at ≡ Held n p → IsReleased a at q b
      → (m : ℕ) × (x : P) × (node_at b.nodes before ≡ Held m x)
  Behind-held a l i before at n p q b h below is out = elim h.last as (λ _. (m : ℕ) × (x : P) × (node_at b.nodes before ≡ Held m x)) [
    | inl none ↦ absurd (omega (arith, none.1, below))
    | inr z ↦ (at, z.1, Cut-keeps a.nodes l z.0 before at z.1 n p (Free out.free) b.nodes z.3 z.4 is out.nodes)
  ]

  -- nodes that held a pair hold one still, with the same link
  abbrev pub SameLinks : List (Node P) → List (Node P) → Type 0
  SameLinks cs ds = (k n : ℕ) (p : P) → node_at cs k ≡ Held n p → (q : P) × (node_at ds k ≡ Held n q)

  Path-links : (cs ds : List (Node P)) (l : ℕ) (ps : List P) (c : ℕ) → SameLinks cs ds → Path cs l ps c → (qs : List P) × Path ds l qs c × (length qs ≡ length ps)
  Path-links cs ds l [] c same path = ([], path, refl)
  Path-links cs ds l (p ∷ ps) c same path =
      let now = same l path.0 p path.1 in let rest = Path-links cs ds path.0 ps c same path.2 in let len = rest.2 in
      (now.0 ∷ rest.0, (path.0, now.1, rest.1), omega (arith, len))

  -- so they are where they were
  pub NodeAt-links : (cs ds : List (Node P)) (l i c : ℕ) → SameLinks cs ds → IsNodeAt cs l i c → IsNodeAt ds l i c
  NodeAt-links cs ds l i c same r =
      let to = Path-links cs ds l r.before c same r.path in let on = Path-links cs ds c (chain_of cs c) nowhere same r.is in
      NodeAt-leads ds l i c to.0 on.0 (to.2 ∙ r.len) to.1 on.1

  pub Behind-links : (cs ds : List (Node P)) (l i before at : ℕ) → SameLinks cs ds → IsBehind cs l i before at → IsBehind ds l i before at
  Behind-links cs ds l i before at same h = record {
    reached = NodeAt-links cs ds l i at same h.reached;
    last = elim h.last as (λ _. ((i ≡ 0) × (before ≡ nowhere)) ⊎ ((j : ℕ) × (p : P) × (i ≡ j + 1) × IsNodeAt ds l j before × (node_at ds before ≡ Held at p))) [
      | inl none ↦ inl none
      | inr z ↦ (let now = same before at z.1 z.4 in inr (z.0, now.0, z.2, NodeAt-links cs ds l z.0 before same z.3, now.1))
    ];
  }

  -- a change of a pair leaves all links, also if it is taken back
  pub Links-set : (cs : List (Node P)) (c n : ℕ) (p : P) (q : P) (ds : List (Node P)) → node_at cs c ≡ Held n p → ds ≡ set cs c (Held n q) → SameLinks cs ds
  Links-set cs c n p q ds is is_ds k m x at = elim (same_or_not k c) as (λ _. (y : P) × (node_at ds k ≡ Held m y)) [
    | inl e ↦
        let both : Held n p ≡ Held m x = sym is ∙ ap (node_at cs) (sym e) ∙ at in
        let link : n ≡ m = cc in
        (q, ap (node_at ds) e ∙ ap (λ xs. node_at xs c) is_ds ∙ node_at-set_held cs c n p (Held n q) is ∙ ap (λ j. Held j q) link)
    | inr apart ↦ (x, ap (λ xs. node_at xs k) is_ds ∙ node_at-set_other cs c k (Held n q) apart ∙ at)
  ]

  pub Links-back : (cs : List (Node P)) (c n : ℕ) (p : P) (q : P) (ds : List (Node P)) → node_at cs c ≡ Held n p → ds ≡ set cs c (Held n q) → SameLinks ds cs
  Links-back cs c n p q ds is is_ds k m x at = elim (same_or_not k c) as (λ _. (y : P) × (node_at cs k ≡ Held m y)) [
    | inl e ↦
        let both : Held n q ≡ Held m x = sym (ap (λ xs. node_at xs c) is_ds ∙ node_at-set_held cs c n p (Held n q) is) ∙ ap (node_at ds) (sym e) ∙ at in
        let link : n ≡ m = cc in
        (p, ap (node_at cs) e ∙ is ∙ ap (λ j. Held j p) link)
    | inr apart ↦ (x, sym (ap (λ xs. node_at xs k) is_ds ∙ node_at-set_other cs c k (Held n q) apart) ∙ at)
  ]

  -- that one is cut once the node before it has its link, and the next one is behind that node
  pub Behind-cut : (a : Pool P) (l i before at n : ℕ) (p q : P) (b : Pool P) (m : ℕ) (x : P) (d : Pool P) → IsBehind a.nodes l i before at → before < node_limit → node_at a.nodes at ≡ Held n p → IsReleased a at q b
      → node_at b.nodes before ≡ Held m x → IsChanged b before n x d → IsCut a l i q d l × IsBehind d.nodes l i before n
  Behind-cut a l i before at n p q b m x d h below is out was changed = elim h.last as (λ _. IsCut a l i q d l × IsBehind d.nodes l i before n) [
    | inl none ↦ absurd (omega (arith, none.1, below))
    | inr z ↦
        let cut = Cut-out a l z.0 before at z.1 n p q b m x d z.3 z.4 is out was changed in
        let now : node_at d.nodes before ≡ Held n x = ap (λ xs. node_at xs before) changed.nodes ∙ node_at-set_held b.nodes before m x (Held n x) was in
        subst (λ k. IsCut a l k q d l × IsBehind d.nodes l k before n) (sym z.2) (cut, Behind-next d.nodes l z.0 before n x (cut.stays z.0 before (omega arith) z.3) now)
  ]

  -- or if there is none before it
  pub Behind-cut_first : (a : Pool P) (l i before at n : ℕ) (p q : P) (b : Pool P) → IsBehind a.nodes l i before at → node_limit ≤ before → node_at a.nodes at ≡ Held n p → IsReleased a at q b
      → IsCut a l i q b n × IsBehind b.nodes n i before n
  Behind-cut_first a l i before at n p q b h beyond is out =
      let front = Behind-front a.nodes l i before at h beyond in
      let cut = Cut-first a l n p q b (subst (λ k. IsChain a.nodes k) (sym front.1) h.reached.is) (ap (node_at a.nodes) front.1 ∙ is) (subst (λ k. IsReleased a k q b) (sym front.1) out) in
      let none : before ≡ nowhere = elim h.last as (λ _. before ≡ nowhere) [
        | inl none ↦ none.1
        | inr z ↦ (let limit = held_limit a.nodes before at z.1 z.4 in absurd (omega (arith, limit, beyond)))
      ] in
      subst (λ k. IsCut a l k q b n × IsBehind b.nodes n k before n) (sym front.0) (cut, subst (λ k. IsBehind b.nodes n 0 k n) (sym none) (Behind-start b.nodes n cut.chain.is))
