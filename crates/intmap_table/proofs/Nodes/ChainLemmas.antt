-- Changes of one chain.
use Rattle.std.proofs.Common.{◌≡◌, ◌≢◌, inl, inr, ℕ, ◌+◌, Bool, true, false, List, [], ◌∷◌, ◌++◌, length, get_or, set, refl, sym, ap, ◌∙◌, subst, arith}
use Rattle.std.proofs.lemmas.List.{length-append, append_assoc, nil_from_length}
use Rattle.std.proofs.Math.Seq.{set-append_seam}
use Rattle.intmap_table.specs.Tables.Nodes.{Node, Free, Held, Pool, nowhere, node_at, Path, Leads, chain_of, IsChain, IsNodeAt, Misses, Spares, IsAdded, IsReleased, IsChanged, IsChainSet, IsCut}
use Rattle.intmap_table.proofs.Nodes.NodeLemmas.{same_or_not, node_at-set_held, node_at-set_other, stop_free}
use Rattle.intmap_table.proofs.Nodes.PathLemmas.{stop_nowhere, Path-append, Path-between, Path-before, Path-behind, Path-behind-two, SameBut, SameBut-set, chain_is, IsChain-leads, Chain-next, NodeAt-leads, NodeAt-within, NodeAt-start, NodeAt-next}

module _ {P : Type 0} where
  pub misses_mid : (t : P → Bool) (xs : List P) (p : P) (ys : List P) → Misses t (xs ++ p ∷ ys) → t p ≡ false
  misses_mid t [] p ys h = h.0
  misses_mid t (x ∷ xs) p ys h = misses_mid t xs p ys h.1

  -- one node was changed, which held one of these pairs
  pub Spares-but : (cs ds : List (Node P)) (c n : ℕ) (p : P) (xs ys ps : List P) → SameBut cs ds c → node_at cs c ≡ Held n p → ps ≡ xs ++ p ∷ ys → Spares cs ds ps
  Spares-but cs ds c n p xs ys ps same is split t misses k m q passes at_k =
      let fails : t p ≡ false = misses_mid t xs p ys (subst (λ l. Misses t l) split misses) in
      let apart : k ≢ c = λ e.
      let at_c : node_at cs c ≡ Held m q = ap (node_at cs) (sym e) ∙ at_k in
      let one : Held m q ≡ Held n p = sym at_c ∙ is in
      let pair : q ≡ p = cc in
      let both : true ≡ false = sym passes ∙ ap t pair ∙ fails in
      cc in
      same k m q apart at_k

  pub Spares-trans : (cs ds es : List (Node P)) (ps : List P) → Spares cs ds ps → Spares ds es ps → Spares cs es ps
  Spares-trans cs ds es ps a b t misses k n p passes is = b t misses k n p passes (a t misses k n p passes is)

  -- a chain that was set twice, where the second time left the nodes of other chains than the first one
  pub Set-trans : (a : Pool P) (l : ℕ) (ps : List P) (b : Pool P) (m : ℕ) (qs : List P) (d : Pool P) (n : ℕ) → IsChainSet a l ps b m → IsChainSet b m qs d n → Spares b.nodes d.nodes (chain_of a.nodes l) → IsChainSet a l qs d n
  Set-trans a l ps b m qs d n h s spares =
      let len = ap length h.pairs in
      let one = h.held in let two = s.held in
      record { is = s.is; pairs = s.pairs; spares = Spares-trans a.nodes b.nodes d.nodes (chain_of a.nodes l) h.spares spares; held = omega (arith, len, one, two) }

  pub set_of_leads : (a : Pool P) (l : ℕ) (ps : List P) (b : Pool P) (m : ℕ) → Leads b.nodes m ps → Spares a.nodes b.nodes (chain_of a.nodes l)
      → b.held + length (chain_of a.nodes l) ≡ a.held + length ps → IsChainSet a l ps b m
  set_of_leads a l ps b m leads spares held = record { is = IsChain-leads b.nodes m ps leads; pairs = chain_is b.nodes m ps leads; spares = spares; held = held }

  -- a pair before those that the link leads through
  pub Set-front : (a : Pool P) (l : ℕ) (b : Pool P) (c : ℕ) (p : P) → IsChain a.nodes l → IsAdded a c l p b → IsChainSet a l (p ∷ chain_of a.nodes l) b c
  Set-front a l b c p is added =
      set_of_leads a l (p ∷ chain_of a.nodes l) b c
      (l, added.is, moved l (chain_of a.nodes l) is)
      (λ t misses k n q passes at. added.others k n q at)
      (let h = added.held in omega (arith, h))
    where
      moved : (m : ℕ) (ps : List P) → Leads a.nodes m ps → Leads b.nodes m ps
      moved m [] leads = leads
      moved m (q ∷ ps) leads = (leads.0, added.others m leads.0 q leads.1, moved leads.0 ps leads.2)

  -- the first pair behind a link that leads nowhere
  pub Set-first : (a : Pool P) (l : ℕ) (b : Pool P) (c : ℕ) (p : P) → chain_of a.nodes l ≡ [] → IsAdded a c nowhere p b → IsChainSet a l (chain_of a.nodes l ++ p ∷ []) b c
  Set-first a l b c p none added =
      let e = ap length none in
      subst (λ ps. IsChainSet a l (ps ++ p ∷ []) b c) (sym none)
      (set_of_leads a l (p ∷ []) b c (nowhere, added.is, refl) (λ t misses k n q passes is. added.others k n q is) (let h = added.held in omega (arith, h, e)))

  -- a pair behind the last one
  pub Set-append : (a : Pool P) (l i k : ℕ) (x : P) (b : Pool P) (c : ℕ) (p : P) (d : Pool P) (n : ℕ) (q : P)
      → IsNodeAt a.nodes l i k → node_at a.nodes k ≡ Held nowhere x → IsAdded a c nowhere p b → node_at b.nodes k ≡ Held n q → IsChanged b k c q d → IsChainSet a l (chain_of a.nodes l ++ p ∷ []) d l
  Set-append a l i k x b c p d n q last is added at_k changed =
      let cs = a.nodes in let es = d.nodes in
      let same : SameBut cs es k = λ j m y apart held. ap (λ xs. node_at xs j) changed.nodes ∙ SameBut-set b.nodes k (Held c q) j m y apart (added.others j m y held) in
      let twice : Held nowhere x ≡ Held n q = sym (added.others k nowhere x is) ∙ at_k in
      let pair : q ≡ x = cc in
      let path : Path es l last.before k = Path-before cs es k (x ∷ []) nowhere l last.before k [] (stop_nowhere cs) same (nowhere, is, refl) refl last.path in
      let now : node_at es k ≡ Held c x = ap (λ xs. node_at xs k) changed.nodes ∙ node_at-set_held b.nodes k n q (Held c q) at_k ∙ ap (λ y. Held c y) pair in
      let apart : c ≢ k = λ e. added.fresh nowhere x (ap (node_at cs) e ∙ is) in
      let new : node_at es c ≡ Held nowhere p = ap (λ xs. node_at xs c) changed.nodes ∙ SameBut-set b.nodes k (Held c q) c nowhere p apart added.is in
      let leads : Leads es l (last.before ++ x ∷ p ∷ []) = Path-append es l last.before k (x ∷ p ∷ []) nowhere path (c, now, (nowhere, new, refl)) in
      let pairs : chain_of cs l ≡ last.before ++ x ∷ [] = last.pairs ∙ ap (λ ps. last.before ++ ps) (chain_is cs k (x ∷ []) (nowhere, is, refl)) in
      let list : chain_of cs l ++ p ∷ [] ≡ last.before ++ x ∷ p ∷ [] = ap (λ ps. ps ++ p ∷ []) pairs ∙ append_assoc last.before (x ∷ []) (p ∷ []) in
      let more = length-append (chain_of cs l) (p ∷ []) in
      let total = ap length list in
      let h = added.held in let h' = changed.held in
      subst (λ ps. IsChainSet a l ps d l) (sym list)
      (set_of_leads a l (last.before ++ x ∷ p ∷ []) d l leads (Spares-but cs es k nowhere x last.before [] (chain_of cs l) same is pairs)
      (omega (arith, more, total, h, h')))

  -- and then it has these
  pub Set-then : (a : Pool P) (l : ℕ) (ps : List P) (b : Pool P) (m : ℕ) (qs : List P) (d : Pool P) (k : ℕ) → IsChainSet a l ps b m → IsChainSet b m qs d k → ((t : P → Bool) → Misses t (chain_of a.nodes l) → Misses t ps)
      → IsChainSet a l qs d k
  Set-then a l ps b m qs d k one two part =
      let len = ap length one.pairs in
      let h = one.held in let h' = two.held in
      record {
        is = two.is;
        pairs = two.pairs;
        spares = λ t misses j n q passes at. two.spares t (subst (Misses t) (sym one.pairs) (part t misses)) j n q passes (one.spares t misses j n q passes at);
        held = omega (arith, len, h, h');
      }

  -- the node before another still holds its pair once that one is released
  pub Cut-keeps : (cs : List (Node P)) (l i k m : ℕ) (p : P) (n : ℕ) (q : P) (x : Node P) (ds : List (Node P))
      → IsNodeAt cs l i k → node_at cs k ≡ Held m p → node_at cs m ≡ Held n q → ds ≡ set cs m x → node_at ds k ≡ Held m p
  Cut-keeps cs l i k m p n q x ds r at_k at_m is_ds =
      let behind = Chain-next cs k m p r.is at_k in
      let next = Chain-next cs m n q behind.is at_m in
      let same : SameBut cs ds m = subst (λ xs. SameBut cs xs m) (sym is_ds) (SameBut-set cs m x) in
      let path : Path ds k (p ∷ []) m = Path-before cs ds m (q ∷ chain_of cs n) nowhere k (p ∷ []) m [] (stop_nowhere cs) same (n, at_m, next.is) refl (m, at_k, refl) in
      path.1 ∙ ap (λ j. Held j p) path.2

  -- the node behind another one is released, and that one has its link
  pub Cut-behind : (a : Pool P) (l i k m : ℕ) (p : P) (n : ℕ) (q : P) (b : Pool P) (d : Pool P)
      → IsNodeAt a.nodes l i k → node_at a.nodes k ≡ Held m p → node_at a.nodes m ≡ Held n q → IsReleased a m q b → IsChanged b k n p d → IsCut a l (i + 1) q d l
  Cut-behind a l i k m p n q b d r at_k at_m out changed =
      let cs = a.nodes in let ds = b.nodes in let es = d.nodes in
      let behind = Chain-next cs k m p r.is at_k in
      let next = Chain-next cs m n q behind.is at_m in
      let rest = chain_of cs n in
      let whole : Path cs m (q ∷ rest) nowhere = (n, at_m, next.is) in
      let same : SameBut cs ds m = subst (λ xs. SameBut cs xs m) (sym out.nodes) (SameBut-set cs m (Free out.free)) in
      let stop = stop_nowhere cs in
      let to_k : Path ds l r.before k = Path-before cs ds m (q ∷ rest) nowhere l r.before k (p ∷ []) stop same whole (m, at_k, refl) r.path in
      let now_k : node_at ds k ≡ Held m p = Cut-keeps cs l i k m p n q (Free out.free) ds r at_k at_m out.nodes in
      let tail : Path ds n rest nowhere = Path-behind cs ds m (q ∷ rest) nowhere n rest stop same whole (omega arith) next.is in
      let free : node_at ds m ≡ Free out.free = ap (λ xs. node_at xs m) out.nodes ∙ node_at-set_held cs m n q (Free out.free) at_m in
      let same' : SameBut ds es k = subst (λ xs. SameBut ds xs k) (sym changed.nodes) (SameBut-set ds k (Held n p)) in
      let to_m : Path ds k (p ∷ []) m = (m, now_k, refl) in
      let stays : Path es l r.before k = Path-before ds es k (p ∷ []) m l r.before k [] (stop_free ds m out.free free) same' to_m refl to_k in
      let new : node_at es k ≡ Held n p = ap (λ xs. node_at xs k) changed.nodes ∙ node_at-set_held ds k m p (Held n p) now_k in
      let tail' : Path es n rest nowhere =
      Path-behind-two cs es k m (p ∷ q ∷ rest) (q ∷ rest) nowhere n rest stop (λ j x y off_k off_m is. same' j x y off_k (same j x y off_m is)) (m, at_k, whole) whole (omega arith) (omega arith) next.is in
      let leads : Leads es l (r.before ++ p ∷ rest) = Path-append es l r.before k (p ∷ rest) nowhere stays (n, new, tail') in
      let two : chain_of cs l ≡ r.before ++ p ∷ q ∷ rest = r.pairs ∙ ap (λ ps. r.before ++ ps) (behind.pairs ∙ ap (λ ps. p ∷ ps) next.pairs) in
      let split : chain_of cs l ≡ (r.before ++ p ∷ []) ++ q ∷ rest = two ∙ sym (append_assoc r.before (p ∷ []) (q ∷ rest)) in
      let left : (r.before ++ p ∷ []) ++ rest ≡ r.before ++ p ∷ rest = append_assoc r.before (p ∷ []) rest in
      let sum = length-append r.before (p ∷ []) in
      let all = ap length two ∙ length-append r.before (p ∷ q ∷ rest) in
      let less = ap length left ∙ length-append r.before (p ∷ rest) in
      let h = out.held in let h' = changed.held in
      record {
        before = r.before ++ p ∷ [];
        behind = rest;
        pairs = split;
        len = omega (arith, sum, r.len);
        chain = set_of_leads a l ((r.before ++ p ∷ []) ++ rest) d l (subst (λ ps. Leads es l ps) (sym left) leads)
            (Spares-trans cs ds es (chain_of cs l) (Spares-but cs ds m n q (r.before ++ p ∷ []) rest (chain_of cs l) same at_m split)
            (Spares-but ds es k m p r.before (q ∷ rest) (chain_of cs l) same' now_k two))
            (omega (arith, all, less, h, h'));
        stays = λ j c less s.
            let e = s.len in let f = r.len in
            let between = Path-between cs l s.before c r.before k s.path r.path (omega (arith, e, f, less)) in
            let zs = between.0 in
            let on : Path ds c zs k = Path-before cs ds m (q ∷ rest) nowhere c zs k (p ∷ []) stop same whole (m, at_k, refl) between.1 in
            let to_c : Path ds l s.before c = Path-before cs ds m (q ∷ rest) nowhere l s.before c (zs ++ p ∷ []) stop same whole (Path-append cs c zs k (p ∷ []) m between.1 (m, at_k, refl)) s.path in
            let on' : Path es c zs k = Path-before ds es k (p ∷ []) m c zs k [] (stop_free ds m out.free free) same' to_m refl on in
            let to_c' : Path es l s.before c = Path-before ds es k (p ∷ []) m l s.before c zs (stop_free ds m out.free free) same' to_m on to_c in
            NodeAt-leads es l j c s.before (zs ++ p ∷ rest) e to_c' (Path-append es c zs k (p ∷ rest) nowhere on' (n, new, tail'));
        within = NodeAt-within cs es l (λ c o x at held.
            elim (same_or_not c k) as (λ _. (j : ℕ) × IsNodeAt cs l j o) [
              | inl e ↦
                  let both : Held o x ≡ Held n p = sym held ∙ ap (node_at es) e ∙ new in
                  let link : n ≡ o = cc in
                  (i + 1 + 1, subst (λ y. IsNodeAt cs l (i + 1 + 1) y) link (NodeAt-next cs l (i + 1) m n q (NodeAt-next cs l i k m p r at_k) at_m))
              | inr off_k ↦
                  let held' : node_at ds c ≡ Held o x = sym (ap (λ xs. node_at xs c) changed.nodes ∙ node_at-set_other ds k c (Held n p) off_k) ∙ held in
                  let off_m : c ≢ m = λ e. stop_free ds m out.free free o x (ap (node_at ds) (sym e) ∙ held') in
                  (at.0 + 1, NodeAt-next cs l at.0 c o x at.1 (sym (ap (λ xs. node_at xs c) out.nodes ∙ node_at-set_other cs m c (Free out.free) off_m) ∙ held'))
            ]) l (0, NodeAt-start cs l (IsChain-leads cs l (r.before ++ chain_of cs k) (Path-append cs l r.before k (chain_of cs k) nowhere r.path r.is)));
        others = λ c o x off held.
            same' c o x (λ e. off i (subst (λ y. IsNodeAt cs l i y) (sym e) r))
            (same c o x (λ e. off (i + 1) (subst (λ y. IsNodeAt cs l (i + 1) y) (sym e) (NodeAt-next cs l i k m p r at_k))) held);
      }

  pub Cut-out : (a : Pool P) (l i k m : ℕ) (p : P) (n : ℕ) (r q : P) (b : Pool P) (n' : ℕ) (p' : P) (d : Pool P)
      → IsNodeAt a.nodes l i k → node_at a.nodes k ≡ Held m p → node_at a.nodes m ≡ Held n r → IsReleased a m q b → node_at b.nodes k ≡ Held n' p' → IsChanged b k n p' d → IsCut a l (i + 1) q d l
  Cut-out a l i k m p n r q b n' p' d reached at_k at_m out now_k changed =
      let twice : Held n r ≡ Held out.link q = sym at_m ∙ out.was in
      let pair : r ≡ q = cc in
      let keeps : node_at b.nodes k ≡ Held m p = Cut-keeps a.nodes l i k m p n r (Free out.free) b.nodes reached at_k at_m out.nodes in
      let both : Held m p ≡ Held n' p' = sym keeps ∙ now_k in
      let same : p' ≡ p = cc in
      Cut-behind a l i k m p n q b d reached at_k (at_m ∙ ap (λ x. Held n x) pair) out (subst (λ x. IsChanged b k n x d) same changed)

  -- the first node is released
  pub Cut-first : (a : Pool P) (l n : ℕ) (p q : P) (b : Pool P) → IsChain a.nodes l → node_at a.nodes l ≡ Held n p → IsReleased a l q b → IsCut a l 0 q b n
  Cut-first a l n p q b is at out =
      let cs = a.nodes in let ds = b.nodes in
      let twice : Held out.link q ≡ Held n p = sym out.was ∙ at in
      let link : out.link ≡ n = cc in
      let at' : node_at cs l ≡ Held n q = out.was ∙ ap (λ m. Held m q) link in
      let next = Chain-next cs l n q is at' in
      let rest = chain_of cs n in
      let same : SameBut cs ds l = subst (λ xs. SameBut cs xs l) (sym out.nodes) (SameBut-set cs l (Free out.free)) in
      let behind : Leads ds n rest = Path-behind cs ds l (q ∷ rest) nowhere n rest (stop_nowhere cs) same (n, at', next.is) (omega arith) next.is in
      let free : node_at ds l ≡ Free out.free = ap (λ xs. node_at xs l) out.nodes ∙ node_at-set_held cs l n p (Free out.free) at in
      let all = ap length next.pairs in
      let h = out.held in
      record {
        before = [];
        behind = rest;
        pairs = next.pairs;
        len = refl;
        chain = set_of_leads a l rest b n behind (Spares-but cs ds l n q [] rest (chain_of cs l) same at' next.pairs) (omega (arith, all, h));
        stays = λ j c less s. absurd (omega (arith, less));
        within = NodeAt-within cs ds l (λ c o x here held.
            let off : c ≢ l = λ e. stop_free ds l out.free free o x (ap (node_at ds) (sym e) ∙ held) in
            (here.0 + 1, NodeAt-next cs l here.0 c o x here.1 (sym (ap (λ xs. node_at xs c) out.nodes ∙ node_at-set_other cs l c (Free out.free) off) ∙ held)))
            n (1, NodeAt-next cs l 0 l n q (NodeAt-start cs l is) at');
        others = λ c o x off held. same c o x (λ e. off 0 (subst (λ y. IsNodeAt cs l 0 y) (sym e) (NodeAt-start cs l is))) held;
      }

  -- what is left behind the first one
  pub Cut-chain : (a : Pool P) (l : ℕ) (p : P) (b : Pool P) (m : ℕ) → IsCut a l 0 p b m → chain_of a.nodes l ≡ p ∷ chain_of b.nodes m
  Cut-chain a l p b m cut =
      let none = nil_from_length cut.before cut.len in
      cut.pairs ∙ ap (λ xs. xs ++ p ∷ cut.behind) none ∙ ap (λ ps. p ∷ ps) (sym (cut.chain.pairs ∙ ap (λ xs. xs ++ cut.behind) none))

  -- a node has another pair
  pub Set-swap : (a : Pool P) (l i c n : ℕ) (r q : P) (b : Pool P) → IsNodeAt a.nodes l i c → node_at a.nodes c ≡ Held n r → IsChanged a c n q b → IsChainSet a l (set (chain_of a.nodes l) i q) b l
  Set-swap a l i c n r q b at is changed =
      let cs = a.nodes in let es = b.nodes in
      let next = Chain-next cs c n r at.is is in
      let rest = chain_of cs n in
      let whole : Path cs c (r ∷ rest) nowhere = (n, is, next.is) in
      let stop = stop_nowhere cs in
      let same : SameBut cs es c = subst (λ xs. SameBut cs xs c) (sym changed.nodes) (SameBut-set cs c (Held n q)) in
      let before : Path es l at.before c = Path-before cs es c (r ∷ rest) nowhere l at.before c [] stop same whole refl at.path in
      let behind : Path es n rest nowhere = Path-behind cs es c (r ∷ rest) nowhere n rest stop same whole (omega arith) next.is in
      let new : node_at es c ≡ Held n q = ap (λ xs. node_at xs c) changed.nodes ∙ node_at-set_held cs c n r (Held n q) is in
      let leads : Leads es l (at.before ++ q ∷ rest) = Path-append es l at.before c (q ∷ rest) nowhere before (n, new, behind) in
      let two : chain_of cs l ≡ at.before ++ r ∷ rest = at.pairs ∙ ap (λ ps. at.before ++ ps) next.pairs in
      let list : set (chain_of cs l) i q ≡ at.before ++ q ∷ rest =
      ap (λ ps. set ps i q) two ∙ ap (λ j. set (at.before ++ r ∷ rest) j q) (sym at.len) ∙ set-append_seam at.before r rest q in
      let e = length-append at.before (q ∷ rest) in
      let f = ap length two ∙ length-append at.before (r ∷ rest) in
      let h = changed.held in
      subst (λ ps. IsChainSet a l ps b l) (sym list)
      (set_of_leads a l (at.before ++ q ∷ rest) b l leads (Spares-but cs es c n r at.before rest (chain_of cs l) same is two) (omega (arith, e, f, h)))

  get_or_seam : (xs : List P) (y : P) (ys : List P) → get_or (xs ++ y ∷ ys) (length xs) y ≡ y
  get_or_seam [] y ys = refl
  get_or_seam (x ∷ xs) y ys = get_or_seam xs y ys

  pub NodeAt-value : (cs : List (Node P)) (l i c n : ℕ) (p : P) → IsNodeAt cs l i c → node_at cs c ≡ Held n p → p ≡ get_or (chain_of cs l) i p
  NodeAt-value cs l i c n p at is =
      let next = Chain-next cs c n p at.is is in
      let two : chain_of cs l ≡ at.before ++ p ∷ chain_of cs n = at.pairs ∙ ap (λ ps. at.before ++ ps) next.pairs in
      sym (ap (λ ps. get_or ps i p) two ∙ ap (λ j. get_or (at.before ++ p ∷ chain_of cs n) j p) (sym at.len) ∙ get_or_seam at.before p (chain_of cs n))

  -- nodes with other pairs are as they were
  pub Changed-alone : (a : Pool P) (c n : ℕ) (r q : P) (b : Pool P) → node_at a.nodes c ≡ Held n r → IsChanged a c n q b → Spares a.nodes b.nodes (r ∷ [])
  Changed-alone a c n r q b at changed =
      Spares-but a.nodes b.nodes c n r [] [] (r ∷ []) (subst (λ xs. SameBut a.nodes xs c) (sym changed.nodes) (SameBut-set a.nodes c (Held n q))) at refl
