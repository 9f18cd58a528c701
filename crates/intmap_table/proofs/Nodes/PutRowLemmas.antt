-- A key that is put into the row of a slot.
use Rattle.std.proofs.Common.{◌≡◌, ℕ, ◌<◌, Bool, true, false, List, [], ◌∷◌, ◌++◌, length, get_or, set, take, Some, None, refl, sym, ap, ◌∙◌, subst, arith}
use Rattle.std.specs.Prelude.{cond, is_none, All, position, swap_remove}
use Rattle.std.proofs.lemmas.List.{length-append, length-map, set-get_or}
use Rattle.std.proofs.lemmas.List.Elements.{All-nil, All-cons, All-head, All-tail}
use Rattle.intmap_table.specs.Bindings.{swap_out, value_of}
use Rattle.intmap_table.specs.Classes.{same_key, slot_number}
use Rattle.intmap_table.specs.Tables.Nodes.{nowhere, Node, Free, Held, Pool, chain_of, row_in, rows_in, IsChainSet, IsSlotSet, AreHome}
use Rattle.intmap_table.specs.Tables.Putting.{put_last}
use Rattle.intmap_table.specs.Tables.Rows.{Contents, AreRows}
use Rattle.intmap_table.proofs.DistinctLemmas.{All-swap_out}
use Rattle.intmap_table.proofs.PositionLemmas.{swap_remove-position, swap_out-none, first_value-position, first_value-none}
use Rattle.intmap_table.proofs.Nodes.LinkedLemmas.{HaveRows, IsRow, Row-kept, home-append}
use Rattle.intmap_table.proofs.Nodes.SlotLemmas.{Slot-first, Slot-put}

module _ {P : Type 0} where
  -- the first pair of a slot that holds none
  pub Slot-fill : (a : Pool P) (s t : Node P) (p : P) → row_in a.nodes s ≡ [] → t ≡ Held nowhere p → IsSlotSet a s (row_in a.nodes s ++ p ∷ []) a t
  Slot-fill a (Free n) t p none is = subst (λ u. IsSlotSet a (Free n) (p ∷ []) a u) (sym is) (Slot-put a n p)
  Slot-fill a (Held l q) t p none is = absurd (let some = ap length none in omega (arith, some))

module _ {K X : Type 0} where
  slots_same : (slots : List (Node (K × X))) (i : ℕ) (s t : Node (K × X)) → s ≡ get_or slots i s → t ≡ s → set slots i t ≡ slots
  slots_same slots i s t read slot = ap (set slots i) (slot ∙ read) ∙ set-get_or slots i s

  -- with the slot and the nodes that were there, the slots are seen as they were
  pub Contents-same : (slots : List (Node (K × X))) (a : Pool (K × X)) (i : ℕ) (s t : Node (K × X)) (b : Pool (K × X)) → s ≡ get_or slots i s → t ≡ s → b ≡ a
      → ◌≡◌ {A = Contents K X} (record { rows = rows_in (set slots i t) b.nodes; total = b.total }) (record { rows = rows_in slots a.nodes; total = a.total })
  Contents-same slots a i s t b read slot pool =
      let same = slots_same slots i s t read slot in
      λ j. record { rows = rows_in (same j) (pool j).nodes; total = (pool j).total }

  -- and have rows still
  pub Rows-same : (number : K → ℕ) (slots : List (Node (K × X))) (a : Pool (K × X)) (marks : List Bool) (mask : ℕ) (i : ℕ) (s t : Node (K × X)) (b : Pool (K × X)) → s ≡ get_or slots i s → t ≡ s → b ≡ a
      → AreRows number slots a marks mask → AreRows number (set slots i t) b marks mask
  Rows-same number slots a marks mask i s t b read slot pool are = rw (slots_same slots i s t read slot, pool) are

module _ {P : Type 0} (home : P → ℕ) (i : ℕ) where
  all_home : (ps : List P) → AreHome home i ps → All (λ p. home p ≡ i) ps
  all_home [] own = All-nil (λ p. home p ≡ i)
  all_home (p ∷ ps) own = All-cons (λ p. home p ≡ i) p ps own.0 (all_home ps own.1)

  home_all : (ps : List P) → All (λ p. home p ≡ i) ps → AreHome home i ps
  home_all [] all = tt
  home_all (p ∷ ps) all = (All-head (λ p. home p ≡ i) p ps all, home_all ps (All-tail (λ p. home p ≡ i) p ps all))

module _ {K X : Type 0} (number : K → ℕ) where
  -- the pairs of the row are at home still
  pub home-put_last : (n i : ℕ) (row : List (K × X)) (k : K) (v : X) → AreHome (λ p. slot_number number p.0 n) i row → slot_number number k n ≡ i → AreHome (λ p. slot_number number p.0 n) i (put_last number row k v)
  home-put_last n i row k v own here =
      let home : K × X → ℕ = λ p. slot_number number p.0 n in
      let left : List (K × X) = swap_out (λ p. same_key number k p.0) (λ _. true) row in
      home-append home i left (k, v) (home_all home i left (All-swap_out (λ p. home p ≡ i) (λ p. same_key number k p.0) (λ _. true) row (all_home home i row own))) here

  not_first : (b : Bool) (x : X) → cond b (Some x) None ≡ None → b ≡ false
  not_first true x e = absurd (cc)
  not_first false x e = refl

  -- the first pair of the slot has another key
  module _ (a : Pool (K × X)) (s : Node (K × X)) (l : ℕ) (p : K × X) (k : K) (is : s ≡ Held l p) (other : value_of number (take 1 (row_in a.nodes s)) k ≡ None) where
    fails : same_key number k p.0 ≡ false
    fails = not_first (same_key number k p.0) p.1 (rw is at other)

    value-behind : value_of number (row_in a.nodes s) k ≡ value_of number (chain_of a.nodes l) k
    value-behind = rw is (ap (λ b. cond b (Some p.1) (value_of number (chain_of a.nodes l) k)) fails)

    put-behind : (v : X) → p ∷ put_last number (chain_of a.nodes l) k v ≡ put_last number (row_in a.nodes s) k v
    put-behind v = rw is (simp fails refl)

    -- the key is present if a pair behind it has the key
    pub Value-present : (i : ℕ) → position (λ q. same_key number k q.0) (chain_of a.nodes l) ≡ Some i → is_none (value_of number (row_in a.nodes s) k) ≡ false
    Value-present i at = ap is_none (value-behind ∙ first_value-position (same_key number k) (chain_of a.nodes l) i p at)

    -- a pair behind it has the key
    module _ (i : ℕ) (x : K × X) (at : position (λ q. same_key number k q.0) (chain_of a.nodes l) ≡ Some i) (here : x ≡ get_or (chain_of a.nodes l) i x) where
      pub Value-found : value_of number (row_in a.nodes s) k ≡ Some x.1
      Value-found = value-behind ∙ first_value-position (same_key number k) (chain_of a.nodes l) i x at ∙ ap (λ (q : K × X). Some q.1) (sym here)

      pub Put-found : (v : X) (b : Pool (K × X)) → IsChainSet a l (swap_remove (chain_of a.nodes l) i x ++ (k, v) ∷ []) b l → IsSlotSet a s (put_last number (row_in a.nodes s) k v) b s
      Put-found v b h =
          let left = swap_remove-position (λ q. same_key number k q.0) (chain_of a.nodes l) i x at here in
          subst (λ ps. IsSlotSet a s ps b s) (ap (λ ps. p ∷ (ps ++ (k, v) ∷ [])) left ∙ put-behind v)
          (subst (λ t. IsSlotSet a t (p ∷ (swap_remove (chain_of a.nodes l) i x ++ (k, v) ∷ [])) b t) (sym is) (Slot-first a l p p (swap_remove (chain_of a.nodes l) i x ++ (k, v) ∷ []) b l h))

    -- none has it
    module _ (none : position (λ q. same_key number k q.0) (chain_of a.nodes l) ≡ None) where
      pub Value-missing : value_of number (row_in a.nodes s) k ≡ None
      Value-missing = value-behind ∙ first_value-none (same_key number k) (chain_of a.nodes l) none

      pub Put-missing : (v : X) (b : Pool (K × X)) (t : Node (K × X)) → IsSlotSet a s (row_in a.nodes s ++ (k, v) ∷ []) b t → IsSlotSet a s (put_last number (row_in a.nodes s) k v) b t
      Put-missing v b t h =
          subst (λ ps. IsSlotSet a s ps b t)
          (ap (λ u. row_in a.nodes u ++ (k, v) ∷ []) is ∙ ap (λ ps. p ∷ (ps ++ (k, v) ∷ [])) (sym (swap_out-none (λ q. same_key number k q.0) (λ _. true) (chain_of a.nodes l) none)) ∙ put-behind v) h

  -- the slots with the row of a slot that a key was put into
  pub Row-put : (slots : List (Node (K × X))) (a : Pool (K × X)) (marks : List Bool) (mask : ℕ) (i : ℕ) (s : Node (K × X)) (k : K) (v : X) (b : Pool (K × X)) (t : Node (K × X))
      → AreRows number slots a marks mask → IsRow number slots a (rows_in slots a.nodes) i s → IsSlotSet a s (put_last number (row_in a.nodes s) k v) b t
      → slot_number number k (length (rows_in slots a.nodes)) ≡ i → 0 < length (get_or (rows_in slots a.nodes) i [])
      → HaveRows number (set slots i t) b marks mask (set (rows_in slots a.nodes) i (put_last number (get_or (rows_in slots a.nodes) i []) k v))
  Row-put slots a marks mask i s k v b t are row h own some =
      let R = rows_in slots a.nodes in
      let here : slot_number number k (length slots) ≡ i = ap (slot_number number k) (sym (length-map slots (row_in a.nodes))) ∙ own in
      let more = length-append (swap_out (λ (p : K × X). same_key number k p.0) (λ _. true) (get_or R i [])) ((k, v) ∷ []) in
      Row-kept number slots a marks mask i s (λ ps. put_last number ps k v) b t are row h (home-put_last (length slots) i (row_in a.nodes s) k v row.own here) some (omega (arith, more))
