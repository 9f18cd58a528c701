-- A pair that is replaced by the last one of its chain, behind which a new one comes.
use Rattle.std.proofs.Common.{◌≡◌, ◌≢◌, ℕ, ◌+◌, ◌<◌, [], ◌∷◌, ◌++◌, length, get_or, set, refl, sym, ap, ◌∙◌, subst, arith}
use Rattle.std.specs.Prelude.{swap_remove}
use Rattle.std.proofs.lemmas.List.{set-set, set_comm}
use Rattle.intmap_table.specs.Tables.Behind.{IsBehind}
use Rattle.intmap_table.specs.Tables.Nodes.{Held, Pool, nowhere, node_at, Path, chain_of, IsNodeAt, IsChanged, IsChainSet}
use Rattle.intmap_table.proofs.Nodes.NodeLemmas.{node_at-set_other}
use Rattle.intmap_table.proofs.Nodes.PathLemmas.{stop_nowhere, Path-before, SameBut, SameBut-set, Chain-next, Chain-first, NodeAt-path, NodeAt-start, NodeAt-on, NodeAt-ends}
use Rattle.intmap_table.proofs.Nodes.ChainLemmas.{misses_mid, Set-trans, Set-swap, NodeAt-value, Changed-alone}
use Rattle.intmap_table.proofs.Nodes.SlotLemmas.{swap_push}
use Rattle.intmap_table.proofs.Nodes.BehindLemmas.{IsTwo, Behind-some, NodeAt-place, NodeAt-before}

-- node `at` is the one at place i, and the last node behind it, whose pair was r, has pair q
module _ {P : Type 0} (a : Pool P) (from i at : ℕ) (reached : IsNodeAt a.nodes from i at) (last : ℕ) (end : IsBehind a.nodes at (length (chain_of a.nodes at)) last nowhere)
    (some : 0 < length (chain_of a.nodes at)) (m : ℕ) (r q : P) (b : Pool P) (was : node_at a.nodes last ≡ Held m r) (changed : IsChanged a last m q b) where
  two : IsTwo a.nodes at (length (chain_of a.nodes at)) last nowhere
  two = Behind-some a.nodes at (length (chain_of a.nodes at)) last nowhere end some

  abbrev place : ℕ
  place = i + two.place

  whole : IsNodeAt a.nodes from place last
  whole = NodeAt-on a.nodes from i at two.place last reached two.reached

  len : length (chain_of a.nodes from) ≡ place + 1
  len = NodeAt-ends a.nodes from place last nowhere two.pair whole two.held (omega arith)

  is : r ≡ get_or (chain_of a.nodes from) place r
  is = NodeAt-value a.nodes from place last m r whole was

  put : IsChainSet a from (set (chain_of a.nodes from) place q) b from
  put = Set-swap a from place last m r q b whole was changed

  -- it is that node
  module _ (same : last ≡ at) where
    front : place ≡ i
    front =
        let e = NodeAt-place a.nodes at two.place 0 last two.reached (subst (λ k. IsNodeAt a.nodes at 0 k) (sym same) (NodeAt-start a.nodes at reached.is)) in
        omega (arith, e)

    pub Same-value : r ≡ get_or (chain_of a.nodes from) i r
    Same-value = subst (λ k. r ≡ get_or (chain_of a.nodes from) k r) front is

    pub Same-chain : IsChainSet a from (swap_remove (chain_of a.nodes from) i r ++ q ∷ []) b from
    Same-chain =
        let xs = chain_of a.nodes from in
        subst (λ ps. IsChainSet a from ps b from)
        (sym (swap_push xs place i r r q len is ∙ ap (λ k. set (set xs i r) k q) front ∙ set-set xs i r q ∙ ap (λ k. set xs k q) (sym front))) put

  -- it is another one
  module _ (apart : last ≢ at) where
    as_it_was : node_at b.nodes at ≡ node_at a.nodes at
    as_it_was = ap (λ cs. node_at cs at) changed.nodes ∙ node_at-set_other a.nodes last at (Held m q) (λ e. apart (sym e))

    pub Other-held : (k : ℕ) × (x : P) × (node_at b.nodes at ≡ Held k x)
    Other-held = let held = Chain-first a.nodes at reached.is some in (held.0, held.1, as_it_was ∙ held.2)

    pub Other-value : (k : ℕ) (x : P) → node_at b.nodes at ≡ Held k x → x ≡ get_or (chain_of a.nodes from) i x
    Other-value k x held = NodeAt-value a.nodes from i at k x reached (sym as_it_was ∙ held)

    stays : IsNodeAt b.nodes from i at
    stays =
        let cs = a.nodes in let ds = b.nodes in
        let same : SameBut cs ds last = subst (λ xs. SameBut cs xs last) (sym changed.nodes) (SameBut-set cs last (Held m q)) in
        let path : Path ds from reached.before at = Path-before cs ds last (two.pair ∷ []) nowhere from reached.before at two.reached.before (stop_nowhere cs) same (nowhere, two.held, refl) two.reached.path reached.path in
        NodeAt-path ds from reached.before at i path (Set-swap a at two.place last m r q b two.reached was changed).is reached.len

    -- which held x, and has pair r instead
    pub Other-chain : (k : ℕ) (x : P) → node_at b.nodes at ≡ Held k x → (d : Pool P) → IsChanged b at k r d → IsChainSet a from (swap_remove (chain_of a.nodes from) i x ++ q ∷ []) d from
    Other-chain k x held d moved =
        let xs = chain_of a.nodes from in
        let less = NodeAt-before a.nodes from i place at last reached whole (omega arith) apart in
        let list : set (chain_of b.nodes from) i r ≡ swap_remove xs i x ++ q ∷ [] =
        ap (λ ps. set ps i r) put.pairs ∙ set_comm xs place i q r (λ e. omega (arith, e, less)) ∙ sym (swap_push xs place i r x q len is) in
        let pairs = reached.pairs ∙ ap (λ ps. reached.before ++ ps) (Chain-next a.nodes at k x reached.is (sym as_it_was ∙ held)).pairs in
        subst (λ ps. IsChainSet a from ps d from) list
        (Set-trans a from (set xs place q) b from (set (chain_of b.nodes from) i r) d from put (Set-swap b from i at k x r d stays held moved)
        (λ t misses. Changed-alone b at k x r d held moved t (misses_mid t reached.before x (chain_of a.nodes k) (rw pairs at misses), tt)))
