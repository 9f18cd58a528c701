-- Changes of one slot.
use Rattle.std.proofs.Common.{◌≡◌, ℕ, zero, suc, ◌+◌, ◌-◌, ◌<◌, ◌≤◌, Bool, List, [], ◌∷◌, ◌++◌, length, get_or, set, take, drop, refl, sym, ap, ◌∙◌, subst, arith}
use Rattle.std.specs.Prelude.{swap_remove}
use Rattle.std.proofs.lemmas.List.{length-append, set-append_left, length-set, get_or_default, take_more_set, take_all}
use Rattle.std.proofs.Math.Seq.{set-append_seam, take-append_seam}
use Rattle.intmap_table.specs.Tables.Nodes.{node_limit, nowhere, Node, Free, Held, empty, Pool, chain_of, IsChain, Misses, IsChainSet, IsCut, row_in, IsSlotSet}
use Rattle.intmap_table.proofs.Nodes.ChainLemmas.{Cut-chain}
use Rattle.intmap_table.proofs.Nodes.PathLemmas.{IsChain-none, Chain-none, Chain-beyond}

module _ {P : Type 0} where
  -- what a slot has after its link was changed
  pub relinked : (s t : Node P) (l : ℕ) (p : P) (m l0 : ℕ) (p0 : P) → s ≡ Held l p → s ≡ Held l0 p0 → t ≡ Held m p0 → t ≡ Held m p
  relinked s t l p m l0 p0 is was now =
      let both : Held l p ≡ Held l0 p0 = sym is ∙ was in
      let pair : p0 ≡ p = cc in
      now ∙ ap (λ q. Held m q) pair

  -- after its first pair was changed
  pub first_set : (s t : Node P) (l : ℕ) (p r q : P) (l0 : ℕ) → s ≡ Held l p → s ≡ Held l0 r → t ≡ Held l0 q → t ≡ Held l q
  first_set s t l p r q l0 is was now =
      let both : Held l p ≡ Held l0 r = sym is ∙ was in
      let link : l0 ≡ l = cc in
      now ∙ ap (λ m. Held m q) link

  -- and what that pair was
  pub first_was : (s : Node P) (l : ℕ) (p r : P) (l0 : ℕ) → s ≡ Held l p → s ≡ Held l0 r → r ≡ p
  first_was s l p r l0 is was =
      let both : Held l p ≡ Held l0 r = sym is ∙ was in
      let pair : r ≡ p = cc in
      pair

  pub slot_is : (a : Pool P) (s t : Node P) (row row' : List P) (b : Pool P) (s' t' : Node P) → IsSlotSet a s row b t → s' ≡ s → row' ≡ row → t' ≡ t → IsSlotSet a s' row' b t'
  slot_is a s t row row' b s' t' h e f g =
      subst (λ u. IsSlotSet a u row' b t') (sym e) (subst (λ ps. IsSlotSet a s ps b t') (sym f) (subst (λ u. IsSlotSet a s row b u) (sym g) h))

  pub Slot-first : (a : Pool P) (l : ℕ) (p q : P) (ps : List P) (b : Pool P) (m : ℕ) → IsChainSet a l ps b m → IsSlotSet a (Held l p) (q ∷ ps) b (Held m q)
  Slot-first a l p q ps b m h = record {
    is = h.is;
    pairs = ap (λ xs. q ∷ xs) h.pairs;
    spares = λ t misses. h.spares t misses.1;
    held = (let e = h.held in omega (arith, e));
  }

  -- the first pair in a slot that holds none
  pub Slot-put : (a : Pool P) (n : ℕ) (p : P) → IsSlotSet a (Free n) (p ∷ []) a (Held nowhere p)
  Slot-put a n p = record {
    is = IsChain-none a.nodes;
    pairs = ap (λ xs. p ∷ xs) (Chain-none a.nodes);
    spares = λ t misses k m q passes is. is;
    held = omega arith;
  }

  -- the only pair of a slot, changed
  pub Slot-only : (a : Pool P) (l : ℕ) (p q : P) → IsChain a.nodes l → IsSlotSet a (Held l p) (q ∷ chain_of a.nodes l) a (Held l q)
  Slot-only a l p q is = record { is = is; pairs = refl; spares = λ t misses k n r passes at. at; held = omega arith }

  pub misses_left : (t : P → Bool) (xs ys : List P) → Misses t (xs ++ ys) → Misses t xs
  misses_left t [] ys h = tt
  misses_left t (x ∷ xs) ys h = (h.0, misses_left t xs ys h.1)

  pub last_is : (xs : List P) (x d : P) (n : ℕ) → n ≡ length xs → get_or (xs ++ x ∷ []) n d ≡ x
  last_is [] x d n e = ap (λ k. get_or (x ∷ []) k d) e
  last_is (y ∷ xs) x d n e = ap (λ k. get_or (y ∷ (xs ++ x ∷ [])) k d) e ∙ last_is xs x d (length xs) refl

  swap_take : (xs : List P) (x d : P) (i : ℕ) (ys : List P) → set (xs ++ x ∷ []) i x ≡ ys ++ x ∷ [] → length ys ≡ length xs → swap_remove (xs ++ x ∷ []) i d ≡ ys
  swap_take xs x d i ys e l =
      let sum = length-append xs (x ∷ []) in
      let n : length (xs ++ x ∷ []) - 1 ≡ length xs = omega (arith, sum) in
      let is : get_or (xs ++ x ∷ []) (length (xs ++ x ∷ []) - 1) d ≡ x = last_is xs x d (length (xs ++ x ∷ []) - 1) n in
      ap (λ y. take (length (xs ++ x ∷ []) - 1) (set (xs ++ x ∷ []) i y)) is ∙ ap (take (length (xs ++ x ∷ []) - 1)) e
      ∙ ap (λ k. take k (ys ++ x ∷ [])) (n ∙ sym l) ∙ take-append_seam ys (x ∷ [])

  -- what is left once the last of these was moved to place i
  pub swap_last : (xs : List P) (x d : P) (i : ℕ) → i ≡ length xs → swap_remove (xs ++ x ∷ []) i d ≡ xs
  swap_last xs x d i e = swap_take xs x d i xs (ap (λ k. set (xs ++ x ∷ []) k x) e ∙ set-append_seam xs x [] x) refl

  pub swap_other : (xs : List P) (x d : P) (i : ℕ) → i < length xs → swap_remove (xs ++ x ∷ []) i d ≡ set xs i x
  swap_other xs x d i less = swap_take xs x d i (set xs i x) (set-append_left xs (x ∷ []) i x less) (length-set xs i x)

  -- what these are once the last of them was moved to place i, and q came behind
  pub swap_push : (xs : List P) (k i : ℕ) (r d q : P) → length xs ≡ k + 1 → r ≡ get_or xs k r → swap_remove xs i d ++ q ∷ [] ≡ set (set xs i r) k q
  swap_push xs k i r d q len last =
      let n : length xs - 1 ≡ k = omega (arith, len) in
      let same = length-set xs i r in
      let same' = length-set (set xs i r) k q in
      ap (λ j. take j (set xs i (get_or xs j d)) ++ q ∷ []) n
      ∙ ap (λ y. take k (set xs i y) ++ q ∷ []) (get_or_default xs k d r (omega (arith, len)) ∙ sym last)
      ∙ sym (take_more_set (set xs i r) k q (omega (arith, len, same)))
      ∙ take_all (k + 1) (set (set xs i r) k q) (omega (arith, len, same, same'))

  pub get_or-behind : (f : P) (xs : List P) (i : ℕ) (d : P) → 0 < i → get_or (f ∷ xs) i d ≡ get_or xs (i - 1) d
  get_or-behind f xs zero d some = absurd (omega arith)
  get_or-behind f xs (suc n) d some = let e : n ≡ suc n - 1 = omega arith in ap (λ k. get_or xs k d) e

  -- the pair at place i was r, and the last one took its place
  pub Take-only : (a : Pool P) (l : ℕ) (p : P) (i : ℕ) → IsChain a.nodes l → node_limit ≤ l → i < length (row_in a.nodes (Held l p)) → IsSlotSet a (Held l p) (swap_remove (row_in a.nodes (Held l p)) i p) a empty
  Take-only a l p i is last within =
      let none : chain_of a.nodes l ≡ [] = Chain-beyond a.nodes l is last in
      let len = ap length none in
      let zero : i ≡ 0 = omega (arith, len, within) in
      let row : p ∷ chain_of a.nodes l ≡ p ∷ [] = ap (λ ps. p ∷ ps) none in
      let left : swap_remove (p ∷ chain_of a.nodes l) i p ≡ [] = ap (λ ps. swap_remove ps i p) row ∙ swap_last [] p p i zero in
      let gone = ap length left in
      record { is = tt; pairs = sym left; spares = λ t misses k n q passes at. at; held = omega (arith, len, gone) }

  -- the first pair was replaced: the last one took its place, and a new one came behind
  pub Replace-first : (a : Pool P) (l k : ℕ) (p r q : P) (b : Pool P) → length (chain_of a.nodes l) ≡ k + 1 → r ≡ get_or (chain_of a.nodes l) k r → IsChainSet a l (set (chain_of a.nodes l) k q) b l
      → IsSlotSet a (Held l p) (swap_remove (p ∷ chain_of a.nodes l) 0 p ++ q ∷ []) b (Held l r)
  Replace-first a l k p r q b len last h =
      subst (λ ps. IsSlotSet a (Held l p) ps b (Held l r)) (sym (swap_push (p ∷ chain_of a.nodes l) (suc k) 0 r p q (omega (arith, len)) last))
      (Slot-first a l p r (set (chain_of a.nodes l) k q) b l h)

  -- the pairs behind the first one of a slot are left: none, or those that another first one is taken out of
  pub Front-only : (a : Pool P) (l : ℕ) (p : P) → IsChain a.nodes l → node_limit ≤ l → IsSlotSet a (Held l p) (chain_of a.nodes l) a empty
  Front-only a l p is last =
      let none = Chain-beyond a.nodes l is last in
      let len = ap length none in
      record { is = tt; pairs = sym none; spares = λ t misses k n q passes at. at; held = omega (arith, len) }

  pub Front-rest : (a : Pool P) (l : ℕ) (p q : P) (b : Pool P) (m : ℕ) → IsCut a l 0 q b m → IsSlotSet a (Held l p) (chain_of a.nodes l) b (Held m q)
  Front-rest a l p q b m cut =
      let chain = Cut-chain a l q b m cut in
      subst (λ ps. IsSlotSet a (Held l p) ps b (Held m q)) (sym chain)
      (Slot-first a l p q (chain_of b.nodes m) b m (subst (λ ps. IsChainSet a l ps b m) (sym cut.chain.pairs) cut.chain))

  -- the pair at place i was r, and those behind it moved up
  take_drop : (p : P) (xs : List P) (r : P) (ys : List P) (i : ℕ) → 0 < i → length xs ≡ i - 1 → take i (p ∷ (xs ++ r ∷ ys)) ++ drop (i + 1) (p ∷ (xs ++ r ∷ ys)) ≡ p ∷ (xs ++ ys)
  take_drop p xs r ys zero some e = absurd (omega arith)
  take_drop p xs r ys (suc n) some e =
      let len : length xs ≡ n = omega (arith, e) in
      let same : suc n + 1 ≡ suc (suc n) = omega arith in
      ap (λ k. take (suc n) (p ∷ (xs ++ r ∷ ys)) ++ drop k (p ∷ (xs ++ r ∷ ys))) same
      ∙ ap (λ ps. p ∷ ps) (ap (λ k. take k (xs ++ r ∷ ys) ++ drop (suc k) (xs ++ r ∷ ys)) (sym len) ∙ halves xs)
    where
      halves : (zs : List P) → take (length zs) (zs ++ r ∷ ys) ++ drop (suc (length zs)) (zs ++ r ∷ ys) ≡ zs ++ ys
      halves [] = refl
      halves (z ∷ zs) = ap (λ ps. z ∷ ps) (halves zs)

  pub Remove-value : (a : Pool P) (l i : ℕ) (p r : P) (b : Pool P) (m : ℕ) → 0 < i → IsCut a l (i - 1) r b m → r ≡ get_or (row_in a.nodes (Held l p)) i r
  Remove-value a l i p r b m some cut =
      sym (get_or-behind p (chain_of a.nodes l) i r some ∙ ap (λ ps. get_or ps (i - 1) r) cut.pairs ∙ ap (λ k. get_or (cut.before ++ r ∷ cut.behind) k r) (sym cut.len) ∙ seam cut.before r cut.behind)
    where
      seam : (xs : List P) (y : P) (ys : List P) → get_or (xs ++ y ∷ ys) (length xs) y ≡ y
      seam [] y ys = refl
      seam (x ∷ xs) y ys = seam xs y ys

  pub Remove-behind : (a : Pool P) (l i : ℕ) (p r : P) (b : Pool P) (m : ℕ) → 0 < i → IsCut a l (i - 1) r b m
      → IsSlotSet a (Held l p) (take i (row_in a.nodes (Held l p)) ++ drop (i + 1) (row_in a.nodes (Held l p))) b (Held m p)
  Remove-behind a l i p r b m some cut =
      let e : take i (row_in a.nodes (Held l p)) ++ drop (i + 1) (row_in a.nodes (Held l p)) ≡ p ∷ (cut.before ++ cut.behind) =
      ap (λ ps. take i (p ∷ ps) ++ drop (i + 1) (p ∷ ps)) cut.pairs ∙ take_drop p cut.before r cut.behind i some cut.len in
      subst (λ ps. IsSlotSet a (Held l p) ps b (Held m p)) (sym e) (Slot-first a l p p (cut.before ++ cut.behind) b m cut.chain)

  -- a slot without a pair gets what an empty one would
  pub Slot-free : (a : Pool P) (s : Node P) (row : List P) (b : Pool P) (t : Node P) → row_in a.nodes s ≡ [] → IsSlotSet a empty row b t → IsSlotSet a s row b t
  Slot-free a (Free n) row b t none h = record { is = h.is; pairs = h.pairs; spares = h.spares; held = h.held }
  Slot-free a (Held l p) row b t none h = absurd (let some = ap length none in omega (arith, some))

  -- an empty slot as it is
  pub Slot-none : (a : Pool P) → IsSlotSet a empty [] a empty
  Slot-none a = record { is = tt; pairs = refl; spares = λ t misses k n q passes at. at; held = omega arith }
