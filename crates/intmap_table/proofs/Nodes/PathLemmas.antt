-- Paths through nodes.
use Rattle.std.proofs.Common.{◌≡◌, ◌≢◌, ℕ, zero, suc, ◌+◌, ◌<◌, ◌≤◌, List, [], ◌∷◌, ◌++◌, length, get_or, set, take, refl, sym, ap, ◌∙◌, subst, arith}
use Rattle.std.specs.Prelude.{sum_by}
use Rattle.std.proofs.lemmas.List.{length-append, get_or-take, length-take}
use Rattle.std.proofs.lemmas.List.Sums.{sum_by-set, sum_by-cons}
use Rattle.intmap_table.specs.Tables.Nodes.{Node, Free, Held, node_limit, nowhere, node_at, Path, Leads, onward, chain_in, chain_of, IsChain, IsNodeAt}
use Rattle.intmap_table.proofs.Nodes.NodeLemmas.{Stop, node_at-below, node_at-beyond, node_at-set_other, held_below, held_limit, stop_beyond}

module _ {P : Type 0} where
  pub stop_nowhere : (cs : List (Node P)) → Stop cs nowhere
  stop_nowhere cs = stop_beyond cs nowhere (omega arith)

  stop_is : (cs : List (Node P)) (l m : ℕ) → l ≡ m → Stop cs m → Stop cs l
  stop_is cs l m e stop n p is = stop n p (ap (node_at cs) (sym e) ∙ is)

  -- from a link to where nothing is held leads one path at most
  pub Path-one : (cs : List (Node P)) (l : ℕ) (ps : List P) (m : ℕ) (qs : List P) (k : ℕ) → Stop cs m → Stop cs k → Path cs l ps m → Path cs l qs k → ps ≡ qs
  Path-one cs l [] m [] k s t a b = refl
  Path-one cs l [] m (q ∷ qs) k s t a b = absurd (stop_is cs l m a s b.0 q b.1)
  Path-one cs l (p ∷ ps) m [] k s t a b = absurd (stop_is cs l k b t a.0 p a.1)
  Path-one cs l (p ∷ ps) m (q ∷ qs) k s t a b =
      let same : Held a.0 p ≡ Held b.0 q = sym a.1 ∙ b.1 in
      let link : a.0 ≡ b.0 = cc in
      let pair : p ≡ q = cc in
      let rest : ps ≡ qs = Path-one cs b.0 ps m qs k s t (subst (λ n. Path cs n ps m) link a.2) b.2 in
      cc

  pub Path-append : (cs : List (Node P)) (l : ℕ) (ps : List P) (m : ℕ) (qs : List P) (k : ℕ) → Path cs l ps m → Path cs m qs k → Path cs l (ps ++ qs) k
  Path-append cs l [] m qs k a b = subst (λ n. Path cs n qs k) (sym a) b
  Path-append cs l (p ∷ ps) m qs k a b = (a.0, a.1, Path-append cs a.0 ps m qs k a.2 b)

  -- a shorter path is a part of a longer one
  pub Path-between : (cs : List (Node P)) (l : ℕ) (xs : List P) (c : ℕ) (ys : List P) (d : ℕ) → Path cs l xs c → Path cs l ys d → length xs ≤ length ys → (zs : List P) × Path cs c zs d × (length xs + length zs ≡ length ys)
  Path-between cs l [] c ys d a b short = (ys, subst (λ k. Path cs k ys d) a b, omega arith)
  Path-between cs l (x ∷ xs) c [] d a b short = absurd (omega (arith, short))
  Path-between cs l (x ∷ xs) c (y ∷ ys) d a b short =
      let same : Held a.0 x ≡ Held b.0 y = sym a.1 ∙ b.1 in
      let link : b.0 ≡ a.0 = cc in
      let rest = Path-between cs a.0 xs c ys d a.2 (subst (λ k. Path cs k ys d) link b.2) (omega (arith, short)) in
      let len = rest.2 in
      (rest.0, rest.1, omega (arith, len))

  -- nodes that held a pair are as they were, but for node c
  abbrev pub SameBut : List (Node P) → List (Node P) → ℕ → Type 0
  SameBut cs ds c = (k n : ℕ) (p : P) → k ≢ c → node_at cs k ≡ Held n p → node_at ds k ≡ Held n p

  -- the path behind a node doesn't go through it
  pub Path-behind : (cs ds : List (Node P)) (c : ℕ) (zs : List P) (m : ℕ) (l : ℕ) (ps : List P) → Stop cs m → SameBut cs ds c → Path cs c zs m → length ps < length zs
      → Path cs l ps m → Path ds l ps m
  Path-behind cs ds c zs m l [] s same whole less path = path
  Path-behind cs ds c zs m l (p ∷ ps) s same whole less path =
      let apart : l ≢ c = λ e.
      let equal : length (p ∷ ps) ≡ length zs = ap length (Path-one cs c (p ∷ ps) m zs m s s (subst (λ n. Path cs n (p ∷ ps) m) e path) whole) in
      omega (arith, equal, less) in
      (path.0, same l path.0 p apart path.1, Path-behind cs ds c zs m path.0 ps s same whole (omega arith) path.2)

  -- nor does the path to a node before it, or to itself
  pub Path-before : (cs ds : List (Node P)) (c : ℕ) (zs : List P) (m : ℕ) (l : ℕ) (ps : List P) (k : ℕ) (ws : List P) → Stop cs m → SameBut cs ds c → Path cs c zs m → Path cs k ws c
      → Path cs l ps k → Path ds l ps k
  Path-before cs ds c zs m l [] k ws s same whole on path = path
  Path-before cs ds c zs m l (p ∷ ps) k ws s same whole on path =
      let apart : l ≢ c = λ e.
      let behind : Path cs path.0 (ps ++ (ws ++ zs)) m = Path-append cs path.0 ps k (ws ++ zs) m path.2 (Path-append cs k ws c zs m on whole) in
      let long : Path cs c (p ∷ (ps ++ (ws ++ zs))) m = subst (λ n. Path cs n (p ∷ (ps ++ (ws ++ zs))) m) e (path.0, path.1, behind) in
      let equal : length (p ∷ (ps ++ (ws ++ zs))) ≡ length zs = ap length (Path-one cs c (p ∷ (ps ++ (ws ++ zs))) m zs m s s long whole) in
      let sum = length-append ps (ws ++ zs) in
      let sum2 = length-append ws zs in
      omega (arith, equal, sum, sum2) in
      (path.0, same l path.0 p apart path.1, Path-before cs ds c zs m path.0 ps k ws s same whole on path.2)

  -- the path behind two nodes goes through neither
  pub Path-behind-two : (cs ds : List (Node P)) (c d : ℕ) (zs ws : List P) (m : ℕ) (l : ℕ) (ps : List P) → Stop cs m
      → ((k n : ℕ) (p : P) → k ≢ c → k ≢ d → node_at cs k ≡ Held n p → node_at ds k ≡ Held n p) → Path cs c zs m → Path cs d ws m → length ps < length zs → length ps < length ws
      → Path cs l ps m → Path ds l ps m
  Path-behind-two cs ds c d zs ws m l [] s same one two less less' path = path
  Path-behind-two cs ds c d zs ws m l (p ∷ ps) s same one two less less' path =
      let off_c : l ≢ c = λ e.
      let equal : length (p ∷ ps) ≡ length zs = ap length (Path-one cs c (p ∷ ps) m zs m s s (subst (λ n. Path cs n (p ∷ ps) m) e path) one) in
      omega (arith, equal, less) in
      let off_d : l ≢ d = λ e.
      let equal : length (p ∷ ps) ≡ length ws = ap length (Path-one cs d (p ∷ ps) m ws m s s (subst (λ n. Path cs n (p ∷ ps) m) e path) two) in
      omega (arith, equal, less') in
      (path.0, same l path.0 p off_c off_d path.1, Path-behind-two cs ds c d zs ws m path.0 ps s same one two (omega arith) (omega arith) path.2)

  pub SameBut-set : (cs : List (Node P)) (c : ℕ) (x : Node P) → SameBut cs (set cs c x) c
  SameBut-set cs c x k n p apart is = node_at-set_other cs c k x apart ∙ is

  abbrev one : Node P → ℕ
  one (Free n) = 0
  one (Held n p) = 1

  -- what a link leads through, as far as n pairs
  Leads-chain : (cs : List (Node P)) (n l : ℕ) (ps : List P) → length ps ≤ n → Leads cs l ps → chain_in cs n l ≡ ps
  Leads-chain cs zero l [] short a = refl
  Leads-chain cs zero l (p ∷ ps) short a = absurd (omega arith)
  Leads-chain cs (suc n) l [] short a =
      let is : node_at cs l ≡ Free 0 = ap (node_at cs) a ∙ node_at-beyond cs nowhere (omega arith) in
      ap (λ c. onward c (chain_in cs n)) is
  Leads-chain cs (suc n) l (p ∷ ps) short a =
      ap (λ c. onward c (chain_in cs n)) a.1 ∙ ap (λ qs. p ∷ qs) (Leads-chain cs n a.0 ps (omega arith) a.2)

  -- no path is longer than the number of nodes, since it goes through none twice
  count_le : (cs : List (Node P)) → sum_by one cs ≤ length cs
  count_le [] = omega arith
  count_le (Free n ∷ cs) = let h = count_le cs in let e = sum_by-cons one (Free n) cs in omega (arith, h, e)
  count_le (Held n p ∷ cs) = let h = count_le cs in let e = sum_by-cons one (Held n p) cs in omega (arith, h, e)

  path_count : (cs : List (Node P)) (l : ℕ) (ps : List P) (m : ℕ) → Stop cs m → Path cs l ps m → length ps ≤ sum_by one cs
  path_count cs l [] m s path = omega arith
  path_count cs l (p ∷ ps) m s path =
      let below = held_below cs l path.0 p path.1 in
      let rest : Path (set cs l (Free 0)) path.0 ps m = Path-behind cs (set cs l (Free 0)) l (p ∷ ps) m path.0 ps s (SameBut-set cs l (Free 0)) path (omega arith) path.2 in
      let stop : Stop (set cs l (Free 0)) m = λ n q is. s n q (sym (node_at-set_other cs l m (Free 0) (λ e. s path.0 p (ap (node_at cs) e ∙ path.1))) ∙ is) in
      let h = path_count (set cs l (Free 0)) path.0 ps m stop rest in
      let e = sum_by-set one cs l (Free 0) (Free 0) below in
      let at : node_at cs l ≡ get_or cs l (Free 0) = node_at-below cs l (held_limit cs l path.0 p path.1) in
      let o : one (get_or cs l (Free 0)) ≡ 1 = ap one (sym at ∙ path.1) in
      omega (arith, h, e, o)

  pub Path-short : (cs : List (Node P)) (l : ℕ) (ps : List P) (m : ℕ) → Stop cs m → Path cs l ps m → length ps ≤ length cs
  Path-short cs l ps m s path = let a = path_count cs l ps m s path in let b = count_le cs in omega (arith, a, b)

  -- nor longer than the limit
  front_at : (cs : List (Node P)) (l n : ℕ) (p : P) → node_at cs l ≡ Held n p → node_at (take node_limit cs) l ≡ Held n p
  front_at cs l n p is =
      let limit = held_limit cs l n p is in
      node_at-below (take node_limit cs) l limit ∙ get_or-take node_limit cs l (Free 0) limit ∙ sym (node_at-below cs l limit) ∙ is

  front_path : (cs : List (Node P)) (l : ℕ) (ps : List P) (m : ℕ) → Path cs l ps m → Path (take node_limit cs) l ps m
  front_path cs l [] m path = path
  front_path cs l (p ∷ ps) m path = (path.0, front_at cs l path.0 p path.1, front_path cs path.0 ps m path.2)

  pub Leads-limit : (cs : List (Node P)) (l : ℕ) (ps : List P) → Leads cs l ps → length ps ≤ node_limit
  Leads-limit cs l ps leads =
      let a = Path-short (take node_limit cs) l ps nowhere (stop_nowhere (take node_limit cs)) (front_path cs l ps nowhere leads) in
      let b = length-take node_limit cs in
      omega (arith, a, b)

  -- what a link leads through is its chain
  pub chain_is : (cs : List (Node P)) (l : ℕ) (ps : List P) → Leads cs l ps → chain_of cs l ≡ ps
  unfolding chain_of
  chain_is cs l ps leads = Leads-chain cs (length cs) l ps (Path-short cs l ps nowhere (stop_nowhere cs) leads) leads

  pub IsChain-leads : (cs : List (Node P)) (l : ℕ) (ps : List P) → Leads cs l ps → IsChain cs l
  IsChain-leads cs l ps leads = subst (λ qs. Leads cs l qs) (sym (chain_is cs l ps leads)) leads

  -- what a held node leads to
  pub record IsNext (cs : List (Node P)) (l n : ℕ) (p : P) : Type 0 where
    pub pairs : chain_of cs l ≡ p ∷ chain_of cs n
    pub is : IsChain cs n

  next_of : (cs : List (Node P)) (l n : ℕ) (p : P) (ps : List P) → chain_of cs l ≡ ps → Leads cs l ps → node_at cs l ≡ Held n p → IsNext cs l n p
  next_of cs l n p [] e leads is = absurd (stop_is cs l nowhere leads (stop_nowhere cs) n p is)
  next_of cs l n p (q ∷ qs) e leads is =
      let same : Held leads.0 q ≡ Held n p = sym leads.1 ∙ is in
      let link : leads.0 ≡ n = cc in
      let pair : q ≡ p = cc in
      let rest : Leads cs n qs = subst (λ m. Leads cs m qs) link leads.2 in
      let is_qs : chain_of cs n ≡ qs = chain_is cs n qs rest in
      record { pairs = cc; is = subst (λ ps. Leads cs n ps) (sym is_qs) rest }

  pub Chain-next : (cs : List (Node P)) (l n : ℕ) (p : P) → IsChain cs l → node_at cs l ≡ Held n p → IsNext cs l n p
  Chain-next cs l n p leads is = next_of cs l n p (chain_of cs l) refl leads is

  end_of : (cs : List (Node P)) (l : ℕ) (ps : List P) → Leads cs l ps → Stop cs l → ps ≡ []
  end_of cs l [] leads free = refl
  end_of cs l (p ∷ ps) leads free = absurd (free leads.0 p leads.1)

  -- a chain ends where nothing is held
  pub Chain-end : (cs : List (Node P)) (l : ℕ) → IsChain cs l → Stop cs l → chain_of cs l ≡ []
  Chain-end cs l leads free = end_of cs l (chain_of cs l) leads free

  nowhere_of : (cs : List (Node P)) (l : ℕ) (ps : List P) → ps ≡ [] → Leads cs l ps → l ≡ nowhere
  nowhere_of cs l ps none leads = let e : Leads cs l [] = subst (λ qs. Leads cs l qs) none leads in e

  -- and then its link leads nowhere
  pub Chain-nowhere : (cs : List (Node P)) (l : ℕ) → IsChain cs l → chain_of cs l ≡ [] → l ≡ nowhere
  Chain-nowhere cs l is none = nowhere_of cs l (chain_of cs l) none is

  -- a link of at least the limit leads nowhere
  pub Chain-beyond : (cs : List (Node P)) (l : ℕ) → IsChain cs l → node_limit ≤ l → chain_of cs l ≡ []
  Chain-beyond cs l is beyond = Chain-end cs l is (stop_beyond cs l beyond)

  first_of : (cs : List (Node P)) (l : ℕ) (ps : List P) → Leads cs l ps → 0 < length ps → (n : ℕ) × (p : P) × (node_at cs l ≡ Held n p)
  first_of cs l [] leads some = absurd (omega arith)
  first_of cs l (p ∷ ps) leads some = (leads.0, p, leads.1)

  -- where a link leads through pairs, the first is held there
  pub Chain-first : (cs : List (Node P)) (l : ℕ) → IsChain cs l → 0 < length (chain_of cs l) → (n : ℕ) × (p : P) × (node_at cs l ≡ Held n p)
  Chain-first cs l leads some = first_of cs l (chain_of cs l) leads some

  some_of : (cs : List (Node P)) (l : ℕ) (ps : List P) → Leads cs l ps → l < node_limit → 0 < length ps
  some_of cs l [] leads below = absurd (omega (arith, leads, below))
  some_of cs l (p ∷ ps) leads below = omega arith

  -- a link below the limit leads through a pair
  pub Chain-some : (cs : List (Node P)) (l : ℕ) → IsChain cs l → l < node_limit → 0 < length (chain_of cs l)
  Chain-some cs l is below = some_of cs l (chain_of cs l) is below

  pub Chain-none : (cs : List (Node P)) → chain_of cs nowhere ≡ []
  Chain-none cs = chain_is cs nowhere [] refl

  pub IsChain-none : (cs : List (Node P)) → IsChain cs nowhere
  IsChain-none cs = IsChain-leads cs nowhere [] refl

  -- a node that a path leads to, and that leads through pairs and then nowhere
  pub NodeAt-path : (cs : List (Node P)) (from : ℕ) (ps : List P) (c i : ℕ) → Path cs from ps c → IsChain cs c → length ps ≡ i → IsNodeAt cs from i c
  NodeAt-path cs from ps c i path is len =
      record { before = ps; pairs = chain_is cs from (ps ++ chain_of cs c) (Path-append cs from ps c (chain_of cs c) nowhere path is); len = len; path = path; is = is }

  pub NodeAt-leads : (cs : List (Node P)) (l i c : ℕ) (ps qs : List P) → length ps ≡ i → Path cs l ps c → Leads cs c qs → IsNodeAt cs l i c
  NodeAt-leads cs l i c ps qs len path leads = NodeAt-path cs l ps c i path (IsChain-leads cs c qs leads) len

  -- nodes that are reached from one of the chain are of the chain, if each step leads to one
  pub NodeAt-within : (cs ds : List (Node P)) (l : ℕ) → ((c n : ℕ) (p : P) → (j : ℕ) × IsNodeAt cs l j c → node_at ds c ≡ Held n p → (j : ℕ) × IsNodeAt cs l j n)
      → (m : ℕ) → (j : ℕ) × IsNodeAt cs l j m → (i c : ℕ) → IsNodeAt ds m i c → (j : ℕ) × IsNodeAt cs l j c
  NodeAt-within cs ds l step m first i c r = along m r.before first r.path
    where
      along : (k : ℕ) (ps : List P) → (j : ℕ) × IsNodeAt cs l j k → Path ds k ps c → (j : ℕ) × IsNodeAt cs l j c
      along k [] at path = subst (λ n. (j : ℕ) × IsNodeAt cs l j n) path at
      along k (p ∷ ps) at path = along path.0 ps (step k path.0 p at path.1) path.2

  pub NodeAt-start : (cs : List (Node P)) (l : ℕ) → IsChain cs l → IsNodeAt cs l 0 l
  NodeAt-start cs l is = NodeAt-path cs l [] l 0 refl is refl

  -- a node that is reached from one that is reached
  pub NodeAt-on : (cs : List (Node P)) (from i l j c : ℕ) → IsNodeAt cs from i l → IsNodeAt cs l j c → IsNodeAt cs from (i + j) c
  NodeAt-on cs from i l j c r s =
      let sum = length-append r.before s.before in
      NodeAt-path cs from (r.before ++ s.before) c (i + j) (Path-append cs from r.before l s.before c r.path s.path) s.is (omega (arith, sum, r.len, s.len))

  pub NodeAt-next : (cs : List (Node P)) (from i l n : ℕ) (p : P) → IsNodeAt cs from i l → node_at cs l ≡ Held n p → IsNodeAt cs from (i + 1) n
  NodeAt-next cs from i l n p r is = NodeAt-on cs from i l 1 n r (NodeAt-path cs l (p ∷ []) n 1 (n, is, refl) (Chain-next cs l n p r.is is).is refl)

  pub NodeAt-len : (cs : List (Node P)) (from i l : ℕ) → IsNodeAt cs from i l → length (chain_of cs from) ≡ i + length (chain_of cs l)
  NodeAt-len cs from i l r =
      let sum = length-append r.before (chain_of cs l) in
      let all = ap length r.pairs in
      omega (arith, sum, all, r.len)

  -- where fewer pairs are passed than there are, one is held
  pub NodeAt-some : (cs : List (Node P)) (from i l : ℕ) → IsNodeAt cs from i l → i < length (chain_of cs from) → (n : ℕ) × (p : P) × (node_at cs l ≡ Held n p)
  NodeAt-some cs from i l r less = let all = NodeAt-len cs from i l r in Chain-first cs l r.is (omega (arith, all, less))

  -- no place is beyond the limit
  pub NodeAt-limit : (cs : List (Node P)) (from i l : ℕ) → IsNodeAt cs from i l → i ≤ node_limit
  NodeAt-limit cs from i l r =
      let limit = Leads-limit cs from (r.before ++ chain_of cs l) (Path-append cs from r.before l (chain_of cs l) nowhere r.path r.is) in
      let sum = length-append r.before (chain_of cs l) in
      omega (arith, limit, sum, r.len)

  -- it is as long as the last node's place tells
  pub NodeAt-ends : (cs : List (Node P)) (from i l n : ℕ) (p : P) → IsNodeAt cs from i l → node_at cs l ≡ Held n p → node_limit ≤ n → length (chain_of cs from) ≡ i + 1
  NodeAt-ends cs from i l n p r is beyond =
      let next = Chain-next cs l n p r.is is in
      let none = ap length (Chain-beyond cs n next.is beyond) in
      let all = NodeAt-len cs from i l r in
      let e = ap length next.pairs in
      omega (arith, none, all, e)
