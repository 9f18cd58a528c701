-- Single nodes of a list.
use Rattle.std.proofs.Common.{◌⊎◌, ⊎_elim, inl, inr, ◌≡◌, ◌≢◌, ℕ, ◌<◌, ◌≤◌, cond, List, length, get_or, set, sym, ap, ◌∙◌, arith}
use Rattle.std.proofs.lemmas.Bool.{lt-ltb, le-ltb}
use Rattle.std.proofs.lemmas.Bool.Decides.{eqb_tells}
use Rattle.std.proofs.lemmas.List.{get_or_past, get_or_read, get_or-set_same, get_or-set_other}
use Rattle.intmap_table.specs.Tables.Nodes.{Node, Free, Held, node_limit, node_at}

pub below_or_not : (l m : ℕ) → (l < m) ⊎ (m ≤ l)
below_or_not l m = grind arith

pub same_or_not : (j i : ℕ) → (j ≡ i) ⊎ (j ≢ i)
same_or_not j i = elim (eqb_tells j i) [ inl h ↦ inl h.1 | inr h ↦ inr h.1 ]

module _ {P : Type 0} where
  -- nothing is held in node m
  abbrev pub Stop : List (Node P) → ℕ → Type 0
  Stop cs m = (n : ℕ) (p : P) → node_at cs m ≡ Held n p → ⊥

  pub node_at-below : (cs : List (Node P)) (l : ℕ) → l < node_limit → node_at cs l ≡ get_or cs l (Free 0)
  node_at-below cs l below = ap (λ b. cond b (get_or cs l (Free 0)) (Free 0)) (lt-ltb l node_limit below)

  -- a node that was read
  pub node_read : (cs : List (Node P)) (l : ℕ) (x : Node P) → l < length cs → length cs ≤ node_limit → x ≡ get_or cs l x → node_at cs l ≡ x
  node_read cs l x below few is = node_at-below cs l (omega (arith, below, few)) ∙ sym (get_or_read cs l x below is (Free 0))

  pub node_at-beyond : (cs : List (Node P)) (l : ℕ) → node_limit ≤ l → node_at cs l ≡ Free 0
  node_at-beyond cs l beyond = ap (λ b. cond b (get_or cs l (Free 0)) (Free 0)) (le-ltb l node_limit beyond)

  pub node_at-past : (cs : List (Node P)) (l : ℕ) → length cs ≤ l → node_at cs l ≡ Free 0
  node_at-past cs l past = ⊎_elim (λ below. node_at-below cs l below ∙ get_or_past cs l (Free 0) past) (node_at-beyond cs l) (below_or_not l node_limit)

  pub stop_free : (cs : List (Node P)) (l m : ℕ) → node_at cs l ≡ Free m → Stop cs l
  stop_free cs l m free n p is = cc

  pub stop_past : (cs : List (Node P)) (l : ℕ) → length cs ≤ l → Stop cs l
  stop_past cs l past = stop_free cs l 0 (node_at-past cs l past)

  pub stop_beyond : (cs : List (Node P)) (l : ℕ) → node_limit ≤ l → Stop cs l
  stop_beyond cs l beyond = stop_free cs l 0 (node_at-beyond cs l beyond)

  -- a node with a pair is there
  pub held_below : (cs : List (Node P)) (l n : ℕ) (p : P) → node_at cs l ≡ Held n p → l < length cs
  held_below cs l n p is = ⊎_elim (λ below. below) (λ past. absurd (stop_past cs l past n p is)) (below_or_not l (length cs))

  pub held_limit : (cs : List (Node P)) (l n : ℕ) (p : P) → node_at cs l ≡ Held n p → l < node_limit
  held_limit cs l n p is = ⊎_elim (λ below. below) (λ beyond. absurd (stop_beyond cs l beyond n p is)) (below_or_not l node_limit)

  pub node_at-set_same : (cs : List (Node P)) (c : ℕ) (x : Node P) → c < length cs → c < node_limit → node_at (set cs c x) c ≡ x
  node_at-set_same cs c x below limit = node_at-below (set cs c x) c limit ∙ get_or-set_same cs c x (Free 0) below

  pub node_at-set_held : (cs : List (Node P)) (c n : ℕ) (p : P) (x : Node P) → node_at cs c ≡ Held n p → node_at (set cs c x) c ≡ x
  node_at-set_held cs c n p x is = node_at-set_same cs c x (held_below cs c n p is) (held_limit cs c n p is)

  pub node_at-set_other : (cs : List (Node P)) (c k : ℕ) (x : Node P) → k ≢ c → node_at (set cs c x) k ≡ node_at cs k
  node_at-set_other cs c k x apart =
      ⊎_elim (λ below. node_at-below (set cs c x) k below ∙ get_or-set_other cs c k x (Free 0) apart ∙ sym (node_at-below cs k below))
      (λ beyond. node_at-beyond (set cs c x) k beyond ∙ sym (node_at-beyond cs k beyond)) (below_or_not k node_limit)
