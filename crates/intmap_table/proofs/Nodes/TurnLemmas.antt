-- A chain that is turned round.
use Rattle.std.proofs.Common.{◌≡◌, ◌≢◌, ℕ, ◌<◌, ◌≤◌, List, [], ◌∷◌, ◌++◌, length, reverse, set, refl, sym, ap, ◌∙◌, subst, arith}
use Rattle.std.proofs.lemmas.List.{length-append, append_assoc, append-nil, length-reverse, reverse-reverse}
use Rattle.std.proofs.lemmas.Grind.{reverse_onto}
use Rattle.intmap_table.specs.Tables.Nodes.{Node, Held, Pool, node_limit, nowhere, node_at, Path, Leads, chain_of, IsChain, Spares, IsChanged, IsChainSet}
use Rattle.intmap_table.proofs.Nodes.NodeLemmas.{node_at-set_held, node_at-set_other}
use Rattle.intmap_table.proofs.Nodes.PathLemmas.{stop_nowhere, Path-one, Path-append, Path-behind, Path-before, SameBut, SameBut-set, chain_is, IsChain-leads, Chain-next, Chain-first, Chain-some, Chain-beyond, Chain-none, IsChain-none}
use Rattle.intmap_table.proofs.Nodes.ChainLemmas.{Spares-but, Spares-trans}

module _ {P : Type 0} where
  -- no node that holds a pair is reached from both links
  abbrev pub Apart : List (Node P) → ℕ → ℕ → Type 0
  Apart cs l m = (k n : ℕ) (p : P) (xs ys : List P) → Path cs l xs k → Path cs m ys k → node_at cs k ≡ Held n p → ⊥

  -- from nowhere no node is reached that holds a pair
  apart_nowhere : (cs : List (Node P)) (m : ℕ) → Apart cs nowhere m
  apart_nowhere cs m k n p [] ys path other is = stop_nowhere cs n p (ap (node_at cs) path ∙ is)
  apart_nowhere cs m k n p (x ∷ xs) ys path other is = stop_nowhere cs path.0 x path.1

  -- a path from a link that never leads to a node doesn't go through it
  path_off : (cs ds : List (Node P)) (c l : ℕ) (ps : List P) (m : ℕ) → SameBut cs ds c → ((xs : List P) → Path cs l xs c → ⊥) → Path cs l ps m → Path ds l ps m
  path_off cs ds c l [] m same off path = path
  path_off cs ds c l (p ∷ ps) m same off path =
      (path.0, same l path.0 p (λ e. off [] e) path.1, path_off cs ds c path.0 ps m same (λ xs on. off (p ∷ xs) (path.0, path.1, on)) path.2)

  -- before a node was changed, the others were as they are now
  SameBut-back : (cs : List (Node P)) (c : ℕ) (x : Node P) → SameBut (set cs c x) cs c
  SameBut-back cs c x k n p apart is = sym (node_at-set_other cs c k x apart) ∙ is

  -- no chain leads from behind a node to that node
  no_ring : (cs : List (Node P)) (c n : ℕ) (p : P) (zs xs : List P) → node_at cs c ≡ Held n p → Leads cs n zs → Path cs n xs c → ⊥
  no_ring cs c n p zs xs is leads path =
      let whole : Path cs c (p ∷ zs) nowhere = (n, is, leads) in
      let long : Path cs c (p ∷ (xs ++ p ∷ zs)) nowhere = (n, is, Path-append cs n xs c (p ∷ zs) nowhere path whole) in
      let equal : length (p ∷ (xs ++ p ∷ zs)) ≡ length (p ∷ zs) = ap length (Path-one cs c (p ∷ (xs ++ p ∷ zs)) nowhere (p ∷ zs) nowhere (stop_nowhere cs) (stop_nowhere cs) long whole) in
      let sum = length-append xs (p ∷ zs) in
      omega (arith, equal, sum)

  -- node c, the first one of a chain that is left, was put before another chain
  pub record IsMoved (cs ds : List (Node P)) (turned c n : ℕ) (p : P) : Type 0 where
    pub same : SameBut cs ds c
    pub now : node_at ds c ≡ Held turned p
    pub done : Leads ds turned (chain_of cs turned)
    pub leads : Leads ds n (chain_of cs n)
    pub apart : Apart ds c n

  -- where two chains are apart, the first node of one can be put before the other
  moved : (cs ds : List (Node P)) (turned c n : ℕ) (p : P) → IsChain cs turned → IsChain cs c → Apart cs turned c
      → node_at cs c ≡ Held n p → ds ≡ set cs c (Held turned p) → IsMoved cs ds turned c n p
  moved cs ds turned c n p done left apart is is_ds =
      let next = Chain-next cs c n p left is in
      let whole : Path cs c (p ∷ chain_of cs n) nowhere = (n, is, next.is) in
      let same : SameBut cs ds c = subst (λ xs. SameBut cs xs c) (sym is_ds) (SameBut-set cs c (Held turned p)) in
      let back : SameBut ds cs c = subst (λ xs. SameBut xs cs c) (sym is_ds) (SameBut-back cs c (Held turned p)) in
      let now : node_at ds c ≡ Held turned p = ap (λ xs. node_at xs c) is_ds ∙ node_at-set_held cs c n p (Held turned p) is in
      let stays : Leads ds turned (chain_of cs turned) = path_off cs ds c turned (chain_of cs turned) nowhere same (λ xs on. apart c n p xs [] on refl is) done in
      let rest : Leads ds n (chain_of cs n) = Path-behind cs ds c (p ∷ chain_of cs n) nowhere n (chain_of cs n) (stop_nowhere cs) same whole (omega arith) next.is in
      let front : Path ds c (p ∷ chain_of cs turned) nowhere = (turned, now, stays) in
      let to_c : (l : ℕ) (xs : List P) → Path ds l xs c → Path cs l xs c = λ l xs path. Path-before ds cs c (p ∷ chain_of cs turned) nowhere l xs c [] (stop_nowhere ds) back front refl path in
      let off_turned : (xs : List P) → Path ds turned xs c → ⊥ = λ xs path. apart c n p xs [] (to_c turned xs path) refl is in
      let off_next : (xs : List P) → Path ds n xs c → ⊥ = λ xs path. no_ring cs c n p (chain_of cs n) xs is next.is (to_c n xs path) in
      record {
        same = same;
        now = now;
        done = stays;
        leads = rest;
        apart = parts back now off_turned off_next;
      }
    where
      parts : SameBut ds cs c → node_at ds c ≡ Held turned p → ((xs : List P) → Path ds turned xs c → ⊥) → ((xs : List P) → Path ds n xs c → ⊥) → Apart ds c n
      parts back now off_turned off_next k m q [] ys one two at = off_next ys (subst (λ j. Path ds n ys j) (sym one) two)
      parts back now off_turned off_next k m q (x ∷ xs) ys one two at =
          let twice : Held one.0 x ≡ Held turned p = sym one.1 ∙ now in
          let link : one.0 ≡ turned = cc in
          let first : Path ds turned xs k = subst (λ j. Path ds j xs k) link one.2 in
          let other : k ≢ c = λ e. off_next ys (subst (λ j. Path ds n ys j) e two) in
          apart k m q xs (p ∷ ys) (path_off ds cs c turned xs k back off_turned first) (n, is, path_off ds cs c n ys k back off_next two) (back k m q other at)

  -- from turned on are the pairs that link led through first, turned round, and from left on the others
  pub record IsTurned (a : Pool P) (link : ℕ) (b : Pool P) (turned left : ℕ) : Type 0 where
    pub done : IsChain b.nodes turned
    pub leads : IsChain b.nodes left
    pub apart : Apart b.nodes turned left
    pub pairs : chain_of a.nodes link ≡ reverse (chain_of b.nodes turned) ++ chain_of b.nodes left
    pub spares : Spares a.nodes b.nodes (chain_of a.nodes link)
    pub held : b.held ≡ a.held
    pub total : b.total ≡ a.total

  -- at the start no pair is turned
  pub Turned-start : (a : Pool P) (link : ℕ) → IsChain a.nodes link → IsTurned a link a nowhere link
  Turned-start a link is = record {
    done = IsChain-none a.nodes;
    leads = is;
    apart = apart_nowhere a.nodes link;
    pairs = sym (ap (λ ps. reverse ps ++ chain_of a.nodes link) (Chain-none a.nodes));
    spares = λ t misses k n p passes at. at;
    held = refl;
    total = refl;
  }

  -- a link below the limit leads to a pair that is not turned yet
  pub Turned-some : (a : Pool P) (link : ℕ) (b : Pool P) (turned left : ℕ) → IsTurned a link b turned left → left < node_limit → (n : ℕ) × (p : P) × (node_at b.nodes left ≡ Held n p)
  Turned-some a link b turned left h below = Chain-first b.nodes left h.leads (Chain-some b.nodes left h.leads below)

  -- the same pair was read and found when its link was changed
  moved_pool : (a : Pool P) (link : ℕ) (b : Pool P) (turned left n : ℕ) (p : P) (m : ℕ) (q : P) (d : Pool P) → IsTurned a link b turned left → node_at b.nodes left ≡ Held n p
      → node_at b.nodes left ≡ Held m q → IsChanged b left turned q d → IsMoved b.nodes d.nodes turned left n p
  moved_pool a link b turned left n p m q d h is is' changed =
      let twice : Held m q ≡ Held n p = sym is' ∙ is in
      let pair : q ≡ p = cc in
      moved b.nodes d.nodes turned left n p h.done h.leads h.apart is (changed.nodes ∙ ap (λ x. set b.nodes left (Held turned x)) pair)

  -- the first node that is left has the link to those that are turned
  pub Turned-next : (a : Pool P) (link : ℕ) (b : Pool P) (turned left n : ℕ) (p : P) (m : ℕ) (q : P) (d : Pool P) → IsTurned a link b turned left → node_at b.nodes left ≡ Held n p
      → node_at b.nodes left ≡ Held m q → IsChanged b left turned q d → IsTurned a link d left n
  Turned-next a link b turned left n p m q d h is is' changed =
      let cs = b.nodes in let ds = d.nodes in
      let qs = chain_of cs turned in let ps = chain_of cs n in
      let next = Chain-next cs left n p h.leads is in
      let move = moved_pool a link b turned left n p m q d h is is' changed in
      let front : Leads ds left (p ∷ qs) = (turned, move.now, move.done) in
      let split : chain_of a.nodes link ≡ reverse qs ++ p ∷ ps = h.pairs ∙ ap (λ xs. reverse qs ++ xs) next.pairs in
      let again : reverse (p ∷ qs) ++ ps ≡ reverse qs ++ p ∷ ps = ap (λ xs. xs ++ ps) (reverse_onto qs p []) ∙ append_assoc (reverse qs) (p ∷ []) ps in
      let list : reverse (chain_of ds left) ++ chain_of ds n ≡ reverse (p ∷ qs) ++ ps =
      ap (λ xs. reverse xs ++ chain_of ds n) (chain_is ds left (p ∷ qs) front) ∙ ap (λ xs. reverse (p ∷ qs) ++ xs) (chain_is ds n ps move.leads) in
      record {
        done = IsChain-leads ds left (p ∷ qs) front;
        leads = IsChain-leads ds n ps move.leads;
        apart = move.apart;
        pairs = split ∙ sym (list ∙ again);
        spares = Spares-trans a.nodes cs ds (chain_of a.nodes link) h.spares (Spares-but cs ds left n p (reverse qs) ps (chain_of a.nodes link) move.same is split);
        held = changed.held ∙ h.held;
        total = changed.total ∙ h.total;
      }

  -- and fewer pairs are left
  pub Turned-smaller : (a : Pool P) (link : ℕ) (b : Pool P) (turned left n : ℕ) (p : P) (m : ℕ) (q : P) (d : Pool P) → IsTurned a link b turned left → node_at b.nodes left ≡ Held n p
      → node_at b.nodes left ≡ Held m q → IsChanged b left turned q d → length (chain_of d.nodes n) < length (chain_of b.nodes left)
  Turned-smaller a link b turned left n p m q d h is is' changed =
      let move = moved_pool a link b turned left n p m q d h is is' changed in
      let now = ap length (chain_is d.nodes n (chain_of b.nodes n) move.leads) in
      let was = ap length (Chain-next b.nodes left n p h.leads is).pairs in
      omega (arith, now, was)

  -- at the end all pairs are turned
  pub Turned-end : (a : Pool P) (link : ℕ) (b : Pool P) (turned left : ℕ) → IsTurned a link b turned left → node_limit ≤ left → IsChainSet a link (reverse (chain_of a.nodes link)) b turned
  Turned-end a link b turned left h beyond =
      let qs = chain_of b.nodes turned in
      let all : chain_of a.nodes link ≡ reverse qs = h.pairs ∙ ap (λ ps. reverse qs ++ ps) (Chain-beyond b.nodes left h.leads beyond) ∙ append-nil (reverse qs) in
      let len = length-reverse (chain_of a.nodes link) in
      let held = h.held in
      record { is = h.done; pairs = sym (ap reverse all ∙ reverse-reverse qs); spares = h.spares; held = omega (arith, len, held) }
