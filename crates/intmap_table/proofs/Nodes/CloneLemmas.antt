-- Clones of chains and of slots, in new nodes.
use Rattle.std.proofs.Common.{⊎_elim, ◌≡◌, ◌≢◌, ℕ, zero, suc, ◌+◌, ◌-◌, ◌*◌, ◌/◌, ◌<◌, ◌≤◌, Bool, List, [], ◌∷◌, ◌++◌, length, get_or, set, replicate, get_or-set_same, get_or-set_other, refl, sym, ap, ◌∙◌, subst, arith}
use Rattle.std.specs.Prelude.{nat_lt}
use Rattle.std.specs.List.{AllZip}
use Rattle.std.proofs.lemmas.List.{append_assoc, append-nil, length-map, length_push, get_or_append_left, get_or_push, get_or-map, map-append, ext_get_or}
use Rattle.std.proofs.lemmas.List.Sums.{sum_by-append, sum_by-cons}
use Rattle.intmap_table.specs.Classes.{slot_number}
use Rattle.intmap_table.specs.Cloning.{IsPairClone}
use Rattle.intmap_table.specs.Tables.Nodes.{node_limit, nowhere, Node, Held, empty, Pool, node_at, Path, chain_of, IsChain, IsAdded, row_in, rows_in, IsSlot, IsSlotSet, Misses, AreHome, further, AreLinked}
use Rattle.intmap_table.specs.Tables.Rows.{AreRows, IsChainClone, IsRowClone}
use Rattle.intmap_table.proofs.Nodes.NodeLemmas.{same_or_not, below_or_not, Stop, held_limit}
use Rattle.intmap_table.proofs.Nodes.PathLemmas.{Path-append, Chain-next, Chain-end, Chain-none, Chain-nowhere, Chain-beyond}
use Rattle.intmap_table.proofs.Nodes.ChainLemmas.{set_of_leads}
use Rattle.intmap_table.proofs.Nodes.SlotLemmas.{Slot-first, Slot-free, Slot-none}
use Rattle.intmap_table.proofs.Nodes.LinkedLemmas.{Stays, slot_stays, Linked-set, IsRow}
use Rattle.intmap_table.proofs.Tables.CloneLemmas.{AreClones, AllZip-append}

module _ {P : Type 0} where
  -- nodes that held a pair are as they were
  abbrev pub Kept : List (Node P) → List (Node P) → Type 0
  Kept cs ds = (k n : ℕ) (p : P) → node_at cs k ≡ Held n p → node_at ds k ≡ Held n p

  -- a path through them is as it was
  path_kept : (cs ds : List (Node P)) (l : ℕ) (ps : List P) (m : ℕ) → Kept cs ds → Path cs l ps m → Path ds l ps m
  path_kept cs ds l [] m kept path = path
  path_kept cs ds l (p ∷ ps) m kept path = (path.0, kept l path.0 p path.1, path_kept cs ds path.0 ps m kept path.2)

module _ {P : Type 0} (home : P → ℕ) where
  -- one more slot, with this row
  pub record ArePushed (T : List (Node P)) (a : Pool P) (row : List P) (T' : List (Node P)) (b : Pool P) : Type 0 where
    pub linked : AreLinked home T' b
    pub rows : rows_in T' b.nodes ≡ rows_in T a.nodes ++ row ∷ []

  -- slot j leads through its own pairs
  record IsThere (T' : List (Node P)) (ds : List (Node P)) (j : ℕ) : Type 0 where
    chain : IsSlot ds (get_or T' j empty)
    own : AreHome home j (row_in ds (get_or T' j empty))

  -- so does a slot that is read there
  there : (T' : List (Node P)) (ds : List (Node P)) (j : ℕ) (s : Node P) → get_or T' j empty ≡ s → IsSlot ds s → AreHome home j (row_in ds s) → IsThere T' ds j
  there T' ds j s e chain own = record { chain = subst (λ t. IsSlot ds t) (sym e) chain; own = subst (λ t. AreHome home j (row_in ds t)) (sym e) own }

  -- a slot came behind the others, and its pairs behind the first one are in nodes that were free
  pub Linked-push : (T : List (Node P)) (a : Pool P) (row : List P) (b : Pool P) (t : Node P) → AreLinked home T a → IsSlotSet a empty row b t → AreHome home (length T) row → ArePushed T a row (T ++ t ∷ []) b
  Linked-push T a row b t linked h own =
      let stays : (j : ℕ) → j < length T → Stays home j a.nodes b.nodes (get_or T j empty) = λ j below.
      slot_stays home (length T) j a.nodes b.nodes [] (get_or T j empty) (λ e. absurd (omega (arith, e, below))) tt h.spares (linked.chains j below) (linked.own j below) in
      let at : (j : ℕ) → j < length (T ++ t ∷ []) → IsThere (T ++ t ∷ []) b.nodes j = λ j below.
      ⊎_elim
      (λ less. there (T ++ t ∷ []) b.nodes j (get_or T j empty) (get_or_append_left T (t ∷ []) empty j less) (stays j less).chain (subst (λ ps. AreHome home j ps) (sym (stays j less).row) (linked.own j less)))
      (λ le. let n = length_push T t in
      let e : length T ≡ j = omega (arith, n, below, le) in
      there (T ++ t ∷ []) b.nodes j t (get_or_push T t empty j e) h.is (subst (λ ps. AreHome home j ps) (sym h.pairs) (subst (λ k. AreHome home k row) e own)))
      (below_or_not j (length T)) in
      let same : rows_in T b.nodes ≡ rows_in T a.nodes =
      ext_get_or [] (rows_in T b.nodes) (rows_in T a.nodes) (length-map T (row_in b.nodes) ∙ sym (length-map T (row_in a.nodes)))
      (λ j below. let x = length-map T (row_in b.nodes) in
      let less : j < length T = omega (arith, x, below) in
      get_or-map (row_in b.nodes) T j empty [] less ∙ (stays j less).row ∙ sym (get_or-map (row_in a.nodes) T j empty [] less)) in
      let rows : rows_in (T ++ t ∷ []) b.nodes ≡ rows_in T a.nodes ++ row ∷ [] = map-append (row_in b.nodes) T (t ∷ []) ∙ ap (λ R. R ++ row_in b.nodes t ∷ []) same ∙ ap (λ ps. rows_in T a.nodes ++ ps ∷ []) h.pairs in
      let sum = ap further rows ∙ sum_by-append (λ (ps : List P). length ps - 1) (rows_in T a.nodes) (row ∷ []) in
      let one = sum_by-cons (λ (ps : List P). length ps - 1) row [] in
      let held = h.held in let before = linked.held in
      record {
        linked = record { chains = λ j below. (at j below).chain; own = λ j below. (at j below).own; held = omega (arith, sum, one, held, before) };
        rows = rows;
      }

module _ {P : Type 0} where
  -- a row without pairs at the end shows nowhere
  get_or-none : (S : List (List P)) (j : ℕ) → get_or (S ++ [] ∷ []) j [] ≡ get_or S j []
  get_or-none [] zero = refl
  get_or-none [] (suc j) = refl
  get_or-none (s ∷ S) zero = refl
  get_or-none (s ∷ S) (suc j) = get_or-none S j

module _ {K X : Type 0} (clones : X → X → Type 0) where
  -- the pairs before link `link` of a chain have clones, and node `first` leads through them, to node m: it comes next, if there are further pairs
  pub record AreCloned (cs : List (Node (K × X))) (from link : ℕ) (a : Pool (K × X)) (first : ℕ) (b : Pool (K × X)) : Type 0 where
    pub leads : IsChain cs link
    pub before : List (K × X)
    pub copies : List (K × X)
    pub m : ℕ
    pub pairs : chain_of cs from ≡ before ++ chain_of cs link
    pub are : AllZip (IsPairClone clones) before copies
    pub path : Path b.nodes first copies m
    pub on : link < node_limit → m ≡ b.held
    pub ends : node_limit ≤ link → m ≡ nowhere
    pub full : b.held ≡ length b.nodes
    pub held : b.held ≡ a.held + length copies
    pub kept : Kept a.nodes b.nodes

  -- no pair is cloned yet
  pub Cloned-start : (cs : List (Node (K × X))) (from : ℕ) (a : Pool (K × X)) (first : ℕ) → IsChain cs from → from < node_limit → first ≡ a.held → a.held ≡ length a.nodes → AreCloned cs from from a first a
  Cloned-start cs from a first is below at full = record {
    leads = is;
    before = [];
    copies = [];
    m = first;
    pairs = refl;
    are = tt;
    path = refl;
    on = λ _. at;
    ends = λ beyond. absurd (omega (arith, below, beyond));
    full = full;
    held = omega arith;
    kept = λ k n p is. is;
  }

  -- the next pair is cloned too
  pub Cloned-next : (cs : List (Node (K × X))) (from link : ℕ) (a : Pool (K × X)) (first : ℕ) (b : Pool (K × X)) (next : ℕ) (p q : K × X) (c onward : ℕ) (d : Pool (K × X))
      → AreCloned cs from link a first b → node_at cs link ≡ Held next p → IsPairClone clones p q → IsAdded b c onward q d → c ≡ b.held → length d.nodes ≡ length b.nodes + 1
      → (next < node_limit → onward ≡ b.held + 1) → (node_limit ≤ next → onward ≡ nowhere) → AreCloned cs from next a first d
  Cloned-next cs from link a first b next p q c onward d h at is added where_is len on ends =
      let step = Chain-next cs link next p h.leads at in
      let here : c ≡ h.m = where_is ∙ sym (h.on (held_limit cs link next p at)) in
      let more = length_push h.copies q in
      record {
        leads = step.is;
        before = h.before ++ p ∷ [];
        copies = h.copies ++ q ∷ [];
        m = onward;
        pairs = h.pairs ∙ ap (λ ps. h.before ++ ps) step.pairs ∙ sym (append_assoc h.before (p ∷ []) (chain_of cs next));
        are = AllZip-append (IsPairClone clones) h.before (p ∷ []) h.copies (q ∷ []) h.are (is, tt);
        path = Path-append d.nodes first h.copies h.m (q ∷ []) onward (path_kept b.nodes d.nodes first h.copies h.m added.others h.path)
            (onward, subst (λ k. node_at d.nodes k ≡ Held onward q) here added.is, refl);
        on = λ below. on below ∙ sym added.held;
        ends = ends;
        full = (let x = added.held in let y = h.full in omega (arith, x, y, len));
        held = (let x = added.held in let y = h.held in omega (arith, x, y, more));
        kept = λ k n r was. added.others k n r (h.kept k n r was);
      }

  -- all are cloned
  pub Cloned-all : (cs : List (Node (K × X))) (from link : ℕ) (a : Pool (K × X)) (first : ℕ) (b : Pool (K × X)) → AreCloned cs from link a first b → Stop cs link → IsChainClone clones (chain_of cs from) a b first
  Cloned-all cs from link a first b h stop =
      let none = Chain-end cs link h.leads stop in
      let nowhere_is = Chain-nowhere cs link h.leads none in
      let m_is : h.m ≡ nowhere = h.ends (omega (arith, nowhere_is)) in
      let all : chain_of cs from ≡ h.before = h.pairs ∙ ap (λ ps. h.before ++ ps) none ∙ append-nil h.before in
      let empty = ap length (Chain-none a.nodes) in
      let held = h.held in
      record {
        copies = h.copies;
        are = subst (λ ps. AllZip (IsPairClone clones) ps h.copies) (sym all) h.are;
        chain = set_of_leads a nowhere h.copies b first (subst (λ k. Path b.nodes first h.copies k) m_is h.path) (λ t misses k n p passes is. h.kept k n p is) (omega (arith, empty, held));
      }

  -- a link that leads nowhere
  pub Cloned-none : (cs : List (Node (K × X))) (from : ℕ) (a : Pool (K × X)) → IsChain cs from → node_limit ≤ from → IsChainClone clones (chain_of cs from) a a nowhere
  Cloned-none cs from a is beyond =
      let none = Chain-beyond cs from is beyond in
      let empty = ap length (Chain-none a.nodes) in
      record {
        copies = [];
        are = subst (λ ps. AllZip (IsPairClone clones) ps []) (sym none) tt;
        chain = set_of_leads a nowhere [] a nowhere refl (λ t misses k n p passes at. at) (omega (arith, empty));
      }

  -- the clone of a slot with a pair
  pub Slot-cloned : (cs : List (Node (K × X))) (l : ℕ) (p q : K × X) (a b : Pool (K × X)) (m : ℕ) → IsPairClone clones p q → IsChainClone clones (chain_of cs l) a b m → IsRowClone clones (row_in cs (Held l p)) a b (Held m q)
  Slot-cloned cs l p q a b m is h =
      let first = Slot-first a nowhere q q h.copies b m h.chain in
      let empty = ap length (Chain-none a.nodes) in
      let held = h.chain.held in
      record {
        copies = q ∷ h.copies;
        are = (is, h.are);
        slot = record {
          is = h.chain.is;
          pairs = ap (λ ps. q ∷ ps) h.chain.pairs;
          spares = λ t misses k n r passes at. h.chain.spares t (subst (λ ps. Misses t ps) (sym (Chain-none a.nodes)) tt) k n r passes at;
          held = omega (arith, empty, held);
        };
      }

  -- clones at each place are clones of all
  zip_rows : (R S : List (List (K × X))) → length R ≡ length S → ((j : ℕ) → j < length R → AreClones clones (get_or R j []) (get_or S j [])) → AllZip (AreClones clones) R S
  zip_rows [] [] len each = tt
  zip_rows [] (s ∷ S) len each = absurd (omega (arith, len))
  zip_rows (r ∷ R) [] len each = absurd (omega (arith, len))
  zip_rows (r ∷ R) (s ∷ S) len each = (each 0 (omega arith), zip_rows R S (omega (arith, len)) (λ j less. each (suc j) (omega (arith, less))))

  -- there are as many rows of clones
  same_lengths : (R S : List (List (K × X))) → AllZip (AreClones clones) R S → length R ≡ length S
  same_lengths [] [] all = refl
  same_lengths [] (s ∷ S) all = absurd all
  same_lengths (r ∷ R) [] all = absurd all
  same_lengths (r ∷ R) (s ∷ S) all = ap suc (same_lengths R S all.1)

  -- a row of clones is as long
  same_row : (r s : List (K × X)) → AreClones clones r s → length r ≡ length s
  same_row [] [] all = refl
  same_row [] (q ∷ s) all = absurd all
  same_row (p ∷ r) [] all = absurd all
  same_row (p ∷ r) (q ∷ s) all = ap suc (same_row r s all.1)

  -- so is that of each slot
  same_rows : (R S : List (List (K × X))) (i : ℕ) → AllZip (AreClones clones) R S → length (get_or R i []) ≡ length (get_or S i [])
  same_rows [] [] i all = refl
  same_rows [] (s ∷ S) i all = absurd all
  same_rows (r ∷ R) [] i all = absurd all
  same_rows (r ∷ R) (s ∷ S) zero all = same_row r s all.0
  same_rows (r ∷ R) (s ∷ S) (suc i) all = same_rows R S i all.1

  -- clones are at home where their originals are, if that depends on the keys
  home_cloned : (C : ℕ) (number : K → ℕ) (i : ℕ) (r s : List (K × X)) → AreClones clones r s → AreHome (λ p. slot_number number p.0 C) i r → AreHome (λ p. slot_number number p.0 C) i s
  home_cloned C number i [] [] all own = tt
  home_cloned C number i [] (q ∷ s) all own = absurd all
  home_cloned C number i (p ∷ r) [] all own = absurd all
  home_cloned C number i (p ∷ r) (q ∷ s) all own = (ap (λ k. slot_number number k C) all.0.0 ∙ own.0, home_cloned C number i r s all.1 own.1)

  -- slots T with nodes b have clones of the rows before row k, and no other pairs
  pub record AreClonedBelow (number : K → ℕ) (R : List (List (K × X))) (C k : ℕ) (T : List (Node (K × X))) (b : Pool (K × X)) : Type 0 where
    pub linked : AreLinked (λ p. slot_number number p.0 C) T b
    pub are : (j : ℕ) → j < k → AreClones clones (get_or R j []) (get_or (rows_in T b.nodes) j [])
    pub none : (j : ℕ) → k ≤ j → get_or (rows_in T b.nodes) j [] ≡ []

  -- slots without a pair are added
  Below-added : (number : K → ℕ) (R : List (List (K × X))) (C k : ℕ) (T : List (Node (K × X))) (a : Pool (K × X)) (n : ℕ) → AreClonedBelow number R C k T a → AreClonedBelow number R C k (T ++ replicate n empty) a
  Below-added number R C k T a zero h = subst (λ S. AreClonedBelow number R C k S a) (sym (append-nil T)) h
  Below-added number R C k T a (suc n) h =
      let more = Linked-push (λ (p : K × X). slot_number number p.0 C) T a [] a empty h.linked (Slot-none a) tt in
      let same : (j : ℕ) → get_or (rows_in (T ++ empty ∷ []) a.nodes) j [] ≡ get_or (rows_in T a.nodes) j [] = λ j. ap (λ S. get_or S j []) more.rows ∙ get_or-none (rows_in T a.nodes) j in
      let one : AreClonedBelow number R C k (T ++ empty ∷ []) a = record {
        linked = more.linked;
        are = λ j below. subst (λ row. AreClones clones (get_or R j []) row) (sym (same j)) (h.are j below);
        none = λ j le. same j ∙ h.none j le;
      } in
      subst (λ S. AreClonedBelow number R C k S a) (append_assoc T (empty ∷ []) (replicate n empty)) (Below-added number R C k (T ++ empty ∷ []) a n one)

  pub Below-more : (number : K → ℕ) (R : List (List (K × X))) (C k : ℕ) (T S : List (Node (K × X))) (a : Pool (K × X)) (n : ℕ) → AreClonedBelow number R C k T a → S ≡ T ++ replicate n empty → AreClonedBelow number R C k S a
  Below-more number R C k T S a n h is = subst (λ U. AreClonedBelow number R C k U a) (sym is) (Below-added number R C k T a n h)

  -- rows without pairs are passed
  pub Below-passed : (number : K → ℕ) (R : List (List (K × X))) (C k m : ℕ) (T : List (Node (K × X))) (a : Pool (K × X)) → k ≤ m → ((j : ℕ) → k ≤ j → j < m → get_or R j [] ≡ []) → AreClonedBelow number R C k T a → AreClonedBelow number R C m T a
  Below-passed number R C k m T a up empty h = record {
    linked = h.linked;
    are = λ j below. ⊎_elim (λ less. h.are j less)
        (λ le. subst (λ row. AreClones clones row (get_or (rows_in T a.nodes) j [])) (sym (empty j le below)) (subst (λ row. AreClones clones [] row) (sym (h.none j le)) tt))
        (below_or_not j k);
    none = λ j le. h.none j (omega (arith, up, le));
  }

  -- the next slot is cloned
  pub Below-next : (number : K → ℕ) (slots : List (Node (K × X))) (pool : Pool (K × X)) (k : ℕ) (s : Node (K × X)) (T : List (Node (K × X))) (a : Pool (K × X)) (t : Node (K × X)) (b : Pool (K × X))
      → IsRow number slots pool (rows_in slots pool.nodes) k s → IsRowClone clones (row_in pool.nodes s) a b t → AreClonedBelow number (rows_in slots pool.nodes) (length slots) k T a → k < length T
      → AreClonedBelow number (rows_in slots pool.nodes) (length slots) (k + 1) (set T k t) b
  Below-next number slots pool k s T a t b row h below within =
      let R = rows_in slots pool.nodes in
      let len = length-map T (row_in a.nodes) in
      let was : row_in a.nodes (get_or T k empty) ≡ [] = sym (get_or-map (row_in a.nodes) T k empty [] within) ∙ below.none k (omega arith) in
      let own = home_cloned (length slots) number k (row_in pool.nodes s) h.copies h.are row.own in
      let next = Linked-set (λ (p : K × X). slot_number number p.0 (length slots)) T a k h.copies b t within below.linked (Slot-free a (get_or T k empty) h.copies b t was h.slot) own in
      let here : get_or (rows_in (set T k t) b.nodes) k [] ≡ h.copies = ap (λ S. get_or S k []) next.rows ∙ get_or-set_same (rows_in T a.nodes) k h.copies [] (omega (arith, len, within)) in
      let other : (j : ℕ) → j ≢ k → get_or (rows_in (set T k t) b.nodes) j [] ≡ get_or (rows_in T a.nodes) j [] = λ j apart. ap (λ S. get_or S j []) next.rows ∙ get_or-set_other (rows_in T a.nodes) k j h.copies [] apart in
      let mine : AreClones clones (get_or R k []) (get_or (rows_in (set T k t) b.nodes) k []) = subst (λ ps. AreClones clones ps (get_or (rows_in (set T k t) b.nodes) k [])) row.is (subst (λ ps. AreClones clones (row_in pool.nodes s) ps) (sym here) h.are) in
      record {
        linked = next.linked;
        are = λ j less. ⊎_elim
            (λ e. subst (λ i. AreClones clones (get_or R i []) (get_or (rows_in (set T k t) b.nodes) i [])) (sym e) mine)
            (λ apart. subst (λ ps. AreClones clones (get_or R j []) ps) (sym (other j apart)) (below.are j (omega (arith, less, apart))))
            (same_or_not j k);
        none = λ j le. other j (λ e. omega (arith, e, le)) ∙ below.none j (omega (arith, le));
      }

  -- all rows are cloned
  pub Below-all : (number : K → ℕ) (R : List (List (K × X))) (C k : ℕ) (T : List (Node (K × X))) (b : Pool (K × X)) → AreClonedBelow number R C k T b → ((j : ℕ) → k ≤ j → get_or R j [] ≡ []) → length T ≡ length R
      → AllZip (AreClones clones) R (rows_in T b.nodes)
  Below-all number R C k T b h empty len =
      let all = Below-passed number R C k (k + length R) T b (omega arith) (λ j le less. empty j le) h in
      zip_rows R (rows_in T b.nodes) (sym len ∙ sym (length-map T (row_in b.nodes))) (λ j less. all.are j (omega (arith, less)))

  -- clones of all rows are the rows of slots with the same marks
  pub Rows-cloned : (number : K → ℕ) (slots : List (Node (K × X))) (pool : Pool (K × X)) (marks : List Bool) (mask : ℕ) (T : List (Node (K × X))) (b : Pool (K × X)) → AreRows number slots pool marks mask
      → AreLinked (λ p. slot_number number p.0 (length slots)) T b → AllZip (AreClones clones) (rows_in slots pool.nodes) (rows_in T b.nodes) → AreRows number T b marks mask
  Rows-cloned number slots pool marks mask T b are linked all =
      let R = rows_in slots pool.nodes in
      let S = rows_in T b.nodes in
      let rows : length R ≡ length S = same_lengths R S all in
      let old : length R ≡ length slots = length-map slots (row_in pool.nodes) in
      let new : length S ≡ length T = length-map T (row_in b.nodes) in
      let len : length T ≡ length slots = omega (arith, rows, old, new) in
      record {
        linked = subst (λ C. AreLinked (λ p. slot_number number p.0 C) T b) (sym len) linked;
        capacity = rw len are.capacity;
        marked = record {
          words = are.marked.words ∙ ap (λ n. 64 * ((n + 63) / 64)) rows;
          own = λ i. are.marked.own i ∙ ap (nat_lt 0) (same_rows R S i all);
        };
        count = are.count ∙ sym len;
      }
