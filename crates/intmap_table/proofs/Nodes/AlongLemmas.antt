-- Walks along the pairs of one slot behind its first one, at each of which a closure is called: it leaves some, changes some and unlinks some.
use Rattle.std.proofs.Common.{◌≡◌, ℕ, ◌<◌, List, [], ◌∷◌, ◌++◌, length, refl, sym, ap, ◌∙◌, subst, arith, append-nil, append_assoc}
use Rattle.intmap_table.specs.Taking.{TakesEach}
use Rattle.intmap_table.specs.Tables.Nodes.{Node, Held, Pool, node_at, chain_of, IsChanged, IsSlotSet}
use Rattle.intmap_table.specs.Tables.Walked.{IsWalked, IsUnlinked}
use Rattle.intmap_table.specs.Tables.Behind.{IsBehindFirst}
use Rattle.intmap_table.proofs.TakingLemmas.{TakesEach-first, TakesEach-next}
use Rattle.intmap_table.proofs.Nodes.NodeLemmas.{Stop, node_at-set_held}
use Rattle.intmap_table.proofs.Nodes.SlotLemmas.{Slot-first}
use Rattle.intmap_table.proofs.Nodes.WalkedLemmas.{Walked-behind, Walked-keep, Walked-changed, Walked-cut, Walked-left, Walked-end}

module _ {P : Type 0} where
  -- equal lists begin with the same element
  pub same_first : (p q : P) (ps qs : List P) → p ∷ ps ≡ q ∷ qs → p ≡ q
  same_first p q ps qs e = cc

  -- and have the same ones behind it
  pub same_rest : (p q : P) (ps qs : List P) → p ∷ ps ≡ q ∷ qs → ps ≡ qs
  same_rest p q ps qs e = cc

  -- what a changed node has
  pub node_changed : (b : Pool P) (at n : ℕ) (p q : P) (d : Pool P) → node_at b.nodes at ≡ Held n p → IsChanged b at n q d → node_at d.nodes at ≡ Held n q
  node_changed b at n p q d is changed = ap (λ xs. node_at xs at) changed.nodes ∙ node_at-set_held b.nodes at n p (Held n q) is

  -- the slot has what was passed and what is left
  pub Walked-slot : (a : Pool P) (l : ℕ) (first : P) (b : Pool P) (t : Node P) (passed left : List P) (before at : ℕ) → IsWalked a l first b t passed left before at
      → (s : Node P) (p : P) → s ≡ Held l p → IsSlotSet a s (first ∷ (passed ++ left)) b t
  Walked-slot a l first b t passed left before at w s p is =
      subst (λ u. IsSlotSet a u (first ∷ (passed ++ left)) b t) (sym is) (subst (λ u. IsSlotSet a (Held l p) (first ∷ (passed ++ left)) b u) (sym w.slot)
      (Slot-first a l p first (passed ++ left) b w.link w.chain))

module _ {P F Y : Type 0} (R : F → P → Y → F → Type 0) (Q : F → P → Type 0) (Goes : F → List P → List P → F → Type 0) (a : Pool P) (l : ℕ) (first : P) (f₀ : F) (front todo : List P) where
  -- behind the pairs `front` of the slot, the closure was called at those of `todo` before node `at`, and it may be called at each that is left
  pub record IsAlong (f : F) (b : Pool P) (t : Node P) (before at : ℕ) : Type 0 where
    pub gone : List P
    pub done : List P
    pub left : List P
    pub walked : IsWalked a l first b t (front ++ done) left before at
    pub split : todo ≡ gone ++ left
    pub went : Goes f₀ gone done f
    pub callable : TakesEach R Q f left

  -- it was called at none yet
  abbrev pub Along-start : (s : Node P) (before at : ℕ) → IsWalked a l first a s front todo before at → TakesEach R Q f₀ todo → Goes f₀ [] [] f₀ → IsAlong f₀ a s before at
  Along-start s before at w callable none = record {
    gone = [];
    done = [];
    left = todo;
    walked = subst (λ ps. IsWalked a l first a s ps todo before at) (sym (append-nil front)) w;
    split = refl;
    went = none;
    callable = callable;
  }

  module _ (f : F) (b : Pool P) (t : Node P) (before at : ℕ) (r : IsAlong f b t before at) where
    -- it was called at all
    pub Along-end : Stop b.nodes at → (s : Node P) (p : P) → s ≡ Held l p → IsSlotSet a s (first ∷ (front ++ r.done)) b t × Goes f₀ todo r.done f
    Along-end stop s p is =
        let none = Walked-end a l first b t (front ++ r.done) r.left before at r.walked stop in (
          subst (λ ps. IsSlotSet a s (first ∷ ps) b t) (ap (λ L. (front ++ r.done) ++ L) none ∙ append-nil (front ++ r.done))
              (Walked-slot a l first b t (front ++ r.done) r.left before at r.walked s p is),
          subst (λ L. Goes f₀ L r.done f) (sym (r.split ∙ ap (λ L. r.gone ++ L) none ∙ append-nil r.gone)) r.went,
        )

    module _ (n : ℕ) (p : P) (is : node_at b.nodes at ≡ Held n p) where
      pub kept : (more : List P) × (r.left ≡ p ∷ more) × IsWalked a l first b t ((front ++ r.done) ++ p ∷ []) more at n
      kept = Walked-keep a l first b t (front ++ r.done) r.left before at r.walked n p is

      -- it may be called at the pair at hand
      pub Along-asks : Q f p
      Along-asks = TakesEach-first R Q f p kept.0 (subst (TakesEach R Q f) kept.1 r.callable)

      -- the pair at hand is changed, so another one is left in its node
      module _ (q : P) (d : Pool P) (changed : IsChanged b at n q d) where
        pub set : (more : List P) × (r.left ≡ p ∷ more) × IsWalked a l first d t (front ++ r.done) (q ∷ more) before at
        set = Walked-changed a l first b t (front ++ r.done) r.left before at r.walked n p is q d changed

        pub Along-behind : IsBehindFirst d.nodes t before at
        Along-behind = Walked-behind a l first d t (front ++ r.done) (q ∷ set.0) before at set.2 n q (node_changed b at n p q d is changed)

        -- it is unlinked
        pub Along-cut : (x : P) (e : Pool P) (u : Node P) → IsUnlinked d t before at x e u → (x ≡ q) × IsWalked a l first e u (front ++ r.done) set.0 before n
        Along-cut x e u out =
            let cut = Walked-cut a l first d t (front ++ r.done) (q ∷ set.0) before at set.2 n q (node_changed b at n p q d is changed) x e u out in
            (sym (same_first q x set.0 cut.0 cut.1), subst (λ L. IsWalked a l first e u (front ++ r.done) L before n) (sym (same_rest q x set.0 cut.0 cut.1)) cut.2)

      module _ (append : (f g h : F) (L L' M M' : List P) → Goes f L M g → Goes g L' M' h → Goes f (L ++ L') (M ++ M') h) (y : Y) (h : F) (call : R f p y h) where
        -- the call left `made` of the pair at hand
        abbrev pub next : (made more : List P) (d : Pool P) (u : Node P) (before' at' : ℕ) → Goes f (p ∷ []) made h → r.left ≡ p ∷ more → IsWalked a l first d u (front ++ (r.done ++ made)) more before' at'
            → IsAlong h d u before' at' × length (chain_of d.nodes at') < length (chain_of b.nodes at)
        next made more d u before' at' one first_left w =
            let old = ap length (Walked-left a l first b t (front ++ r.done) r.left before at r.walked ∙ first_left) in
            let new = ap length (Walked-left a l first d u (front ++ (r.done ++ made)) more before' at' w) in (
              record {
                gone = r.gone ++ p ∷ [];
                done = r.done ++ made;
                left = more;
                walked = w;
                split = r.split ∙ ap (λ L. r.gone ++ L) first_left ∙ sym (append_assoc r.gone (p ∷ []) more);
                went = append f₀ f h r.gone (p ∷ []) r.done made r.went one;
                callable = TakesEach-next R Q f h p y more (subst (TakesEach R Q f) first_left r.callable) call;
              },
              omega (arith, old, new),
            )

        -- the pair stays
        abbrev pub Along-stays : Goes f (p ∷ []) (p ∷ []) h → IsAlong h b t at n × length (chain_of b.nodes n) < length (chain_of b.nodes at)
        Along-stays one =
            next (p ∷ []) kept.0 b t at n one kept.1 (subst (λ ps. IsWalked a l first b t ps kept.0 at n) (append_assoc front r.done (p ∷ [])) kept.2)

        -- it is unlinked
        abbrev pub Along-goes : Goes f (p ∷ []) [] h → (x : P) (d : Pool P) (u : Node P) → IsUnlinked b t before at x d u → IsAlong h d u before n × length (chain_of d.nodes n) < length (chain_of b.nodes at)
        Along-goes one x d u out =
            let cut = Walked-cut a l first b t (front ++ r.done) r.left before at r.walked n p is x d u out in
            let pair = same_first x p cut.0 kept.0 (sym cut.1 ∙ kept.1) in
            next [] cut.0 d u before n one (cut.1 ∙ ap (λ z. z ∷ cut.0) pair) (subst (λ ps. IsWalked a l first d u (front ++ ps) cut.0 before n) (sym (append-nil r.done)) cut.2)

        -- it is changed
        abbrev pub Along-changed : (q : P) → Goes f (p ∷ []) (q ∷ []) h → (d : Pool P) → IsChanged b at n q d → IsAlong h d t at n × length (chain_of d.nodes n) < length (chain_of b.nodes at)
        Along-changed q one d changed =
            let w = set q d changed in
            let on = Walked-keep a l first d t (front ++ r.done) (q ∷ w.0) before at w.2 n q (node_changed b at n p q d is changed) in
            let same = same_rest q q on.0 w.0 (sym on.1) in
            next (q ∷ []) w.0 d t at n one w.1
            (subst (λ ps. IsWalked a l first d t ps w.0 at n) (append_assoc front r.done (q ∷ [])) (subst (λ L. IsWalked a l first d t ((front ++ r.done) ++ q ∷ []) L at n) same on.2))
