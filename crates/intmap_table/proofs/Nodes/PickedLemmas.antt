-- What a closure that picks one pair of one slot leaves of them.
use Rattle.std.proofs.Common.{◌≡◌, ℕ, zero, suc, ◌+◌, ◌-◌, ◌<◌, ◌≤◌, Bool, true, false, List, [], ◌∷◌, ◌++◌, Option, Some, None, length, take, drop, refl, sym, ap, ◌∙◌, subst, arith, append-nil, append_assoc, length-append}
use Rattle.std.specs.List.Retain.{ExtractsNext}
use Rattle.std.proofs.Math.Seq.{drop-append_seam, take-append_seam}
use Rattle.intmap_table.specs.Picking.{ExtractsBehind}
use Rattle.intmap_table.specs.Taking.{TakesEach}
use Rattle.intmap_table.specs.Tables.Nodes.{node_limit, Node, Held, Pool, node_at, chain_of, row_in, IsChanged, IsSlotSet}
use Rattle.intmap_table.specs.Tables.Walked.{IsUnlinked}
use Rattle.intmap_table.specs.Tables.Behind.{IsBehind, IsBehindFirst}
use Rattle.intmap_table.proofs.ExtractLemmas.{ExtractsNext-front}
use Rattle.intmap_table.proofs.Nodes.AlongLemmas.{IsAlong, Along-start, Along-asks, Along-behind, Along-changed, Along-cut, Along-end, set, Walked-slot}
use Rattle.intmap_table.proofs.Nodes.NodeLemmas.{Stop}
use Rattle.intmap_table.proofs.Nodes.WalkedLemmas.{Walked-few, Walked-place, Walked-keep}

module _ {P : Type 0} where
  -- what is behind the first pair
  pub drop-first : (x : P) (xs : List P) (i : ℕ) → 0 < i → drop i (x ∷ xs) ≡ drop (i - 1) xs
  drop-first x xs zero some = absurd (omega arith)
  drop-first x xs (suc n) some = let e : n ≡ suc n - 1 = omega arith in ap (λ k. drop k xs) e

  -- a front of the list has the first pair
  pub take-first : (x : P) (xs : List P) (i : ℕ) → 0 < i → take i (x ∷ xs) ≡ x ∷ take (i - 1) xs
  take-first x xs zero some = absurd (omega arith)
  take-first x xs (suc n) some = let e : n ≡ suc n - 1 = omega arith in ap (λ k. x ∷ take k xs) e

module _ {P F : Type 0} (R : F → P → Bool → F → P → Type 0) (Q : F → P → Type 0) where
  -- the same, with what was returned and what was left of the pair as one
  abbrev pub Asks : F → P → Bool × P → F → Type 0
  Asks f x a g = R f x a.0 g a.1

  -- a step behind the first pair of a slot
  behind_first : (f g : F) (first : P) (L M : List P) (i j : ℕ) (r : Option P) (kept : List P) → 0 < i → 0 < j → ExtractsNext R f (drop (i - 1) L) r g kept (drop (j - 1) M) → take (j - 1) M ≡ take (i - 1) L ++ kept
      → ExtractsBehind R f (first ∷ L) i r g (first ∷ M) j
  behind_first f g first L M i j r kept some some' step front = (
    kept,
    rw (drop-first first L i some, drop-first first M j some') step,
    take-first first M j some' ∙ ap (λ xs. first ∷ xs) front ∙ ap (λ xs. xs ++ kept) (sym (take-first first L i some)),
  )

  -- the first pair is picked
  pub first_goes : (f h : F) (p q : P) (L : List P) (x : P) (i : ℕ) → i ≡ 0 → R f p true h q → x ≡ q → ExtractsBehind R f (p ∷ L) i (Some x) h L i
  first_goes f h p q L x i front call same =
      let here : ExtractsBehind R f (p ∷ L) 0 (Some x) h L 0 = ([], (true, h, q, call, (ap Some same, refl, refl, refl)), refl) in
      subst (λ k. ExtractsBehind R f (p ∷ L) k (Some x) h L k) (sym front) here

  -- it isn't
  pub first_stays : (f h g : F) (p q : P) (L : List P) (r : Option P) (M : List P) (j i : ℕ) → i ≡ 0 → R f p false h q → ExtractsBehind R h (q ∷ L) 1 r g M j → ExtractsBehind R f (p ∷ L) i r g M j
  first_stays f h g p q L r M j i front call step =
      let here : ExtractsBehind R f (p ∷ L) 0 r g M j = (q ∷ step.0, (false, h, q, call, (step.0, step.1, refl)), step.2) in
      subst (λ k. ExtractsBehind R f (p ∷ L) k r g M j) (sym front) here

  -- each of these pairs was asked about and none was picked, and M is what was left of them
  abbrev pub Declines : F → List P → List P → F → Type 0
  Declines f L M g = ExtractsNext R f L None g M []

  pub Declines-append : (f g h : F) (L L' M M' : List P) → Declines f L M g → Declines g L' M' h → Declines f (L ++ L') (M ++ M') h
  Declines-append f g h L L' M M' one two = ExtractsNext-front R L' None h M' [] f g L M [] None one two

  module _ (a : Pool P) (l : ℕ) (first : P) (f₀ : F) (from : ℕ) where
    -- the closure was asked about the pairs before node `at`, from a place on, and picked none; and it may be asked about each that is left
    pub record IsPicked (f : F) (place : ℕ) (b : Pool P) (t : Node P) (before at : ℕ) : Type 0 where
      pub along : IsAlong Asks Q Declines a l first f₀ (take (from - 1) (chain_of a.nodes l)) (drop (from - 1) (chain_of a.nodes l)) f b t before at
      pub count : place ≡ length (take (from - 1) (chain_of a.nodes l) ++ along.done) + 1
      pub on : from ≤ place

    -- it was asked about none yet
    pub Picked-start : (s : Node P) (before at : ℕ) → s ≡ Held l first → 0 < from → IsBehind a.nodes l (from - 1) before at → TakesEach Asks Q f₀ (drop from (row_in a.nodes s)) → IsPicked f₀ from a s before at
    Picked-start s before at slot some start callable =
        let L = chain_of a.nodes l in
        let here = Walked-place a l (from - 1) before at start first s slot in
        let count = ap length (append-nil (take (from - 1) L)) in
        record {
          along = Along-start Asks Q Declines a l first f₀ (take (from - 1) L) (drop (from - 1) L) s before at here.0
              (subst (TakesEach Asks Q f₀) (ap (λ u. drop from (row_in a.nodes u)) slot ∙ drop-first first L from some) callable) (refl, refl, refl, refl);
          count = omega (arith, count, here.1, some);
          on = omega arith;
        }

    module _ (f : F) (place : ℕ) (b : Pool P) (t : Node P) (before at : ℕ) (r : IsPicked f place b t before at) where
      abbrev front : List P
      front = take (from - 1) (chain_of a.nodes l)

      abbrev todo : List P
      todo = drop (from - 1) (chain_of a.nodes l)

      -- a step that ends at the place
      ends : (o : Option P) (h : F) (rest : List P) → 0 < from → (s : Node P) → s ≡ Held l first → ExtractsNext R f₀ (r.along.gone ++ r.along.left) o h (r.along.done ++ []) rest
          → ExtractsBehind R f₀ (row_in a.nodes s) from o h (first ∷ ((front ++ r.along.done) ++ rest)) place × (place ≤ length (first ∷ ((front ++ r.along.done) ++ rest)))
      ends o h rest some s slot step =
          let count = r.count in
          let len : length (front ++ r.along.done) ≡ place - 1 = omega (arith, count) in
          let M = (front ++ r.along.done) ++ rest in
          let taken : take (place - 1) M ≡ front ++ r.along.done = ap (λ k. take k M) (sym len) ∙ take-append_seam (front ++ r.along.done) rest in
          let back : drop (place - 1) M ≡ rest = ap (λ k. drop k M) (sym len) ∙ drop-append_seam (front ++ r.along.done) rest in
          let sum = length-append (front ++ r.along.done) rest in (
            subst (λ L. ExtractsBehind R f₀ L from o h (first ∷ M) place) (sym (ap (row_in a.nodes) slot)) (behind_first f₀ h first (chain_of a.nodes l) M from place o r.along.done some (omega (arith, count))
                (rw back (subst (λ ks. ExtractsNext R f₀ todo o h ks rest) (append-nil r.along.done) (subst (λ Z. ExtractsNext R f₀ Z o h (r.along.done ++ []) rest) (sym r.along.split) step))) taken),
            omega (arith, sum, count),
          )

      module _ (n : ℕ) (p : P) (is : node_at b.nodes at ≡ Held n p) where
        -- it may be asked about the pair at hand
        pub Picked-asks : Q f p
        Picked-asks = Along-asks Asks Q Declines a l first f₀ front todo f b t before at r.along n p is

        -- the place is within the number of nodes
        pub Picked-few : place ≤ node_limit
        Picked-few =
            let on = Walked-keep a l first b t (front ++ r.along.done) r.along.left before at r.along.walked n p is in
            let few = Walked-few a l first b t (front ++ r.along.done) r.along.left before at r.along.walked in
            let len = ap length on.1 in
            omega (arith, few, len, r.count)

        -- it was asked about, and left as q
        module _ (q : P) (d : Pool P) (h : F) (changed : IsChanged b at n q d) where
          -- so the pair can be unlinked
          pub Picked-behind : IsBehindFirst d.nodes t before at
          Picked-behind = Along-behind Asks Q Declines a l first f₀ front todo f b t before at r.along n p is q d changed

          -- it isn't picked
          pub Picked-stays : R f p false h q → IsPicked h (place + 1) d t at n × length (chain_of d.nodes n) < length (chain_of b.nodes at)
          Picked-stays call =
              let on = Along-changed Asks Q Declines a l first f₀ front todo f b t before at r.along n p is Declines-append (false, q) h call q (false, h, q, call, ([], (refl, refl, refl, refl), refl)) d changed in
              let sum = ap length (sym (append_assoc front r.along.done (q ∷ []))) ∙ length-append (front ++ r.along.done) (q ∷ []) in
              (record { along = on.0; count = omega (arith, sum, r.count); on = (let on = r.on in omega (arith, on)) }, on.1)

          -- it is picked, and removed
          pub Picked-goes : R f p true h q → (x : P) (e : Pool P) (u : Node P) → IsUnlinked d t before at x e u → 0 < from → (s : Node P) → s ≡ Held l first
              → (row : List P) × ((y : P) → IsSlotSet a (Held l y) row e u) × ExtractsBehind R f₀ (row_in a.nodes s) from (Some x) h row place × (place ≤ length row)
          Picked-goes call x e u out some s slot =
              let left = set Asks Q Declines a l first f₀ front todo f b t before at r.along n p is q d changed in
              let cut = Along-cut Asks Q Declines a l first f₀ front todo f b t before at r.along n p is q d changed x e u out in
              let here : ExtractsNext R f (p ∷ left.0) (Some x) h [] left.0 = (true, h, q, call, (ap Some cut.0, refl, refl, refl)) in
              let step = ExtractsNext-front R r.along.left (Some x) h [] left.0 f₀ f r.along.gone r.along.done [] None r.along.went (subst (λ Z. ExtractsNext R f Z (Some x) h [] left.0) (sym left.1) here) in
              let end = ends (Some x) h left.0 some s slot step in
              (first ∷ ((front ++ r.along.done) ++ left.0), (λ y. Walked-slot a l first e u (front ++ r.along.done) left.0 before n cut.1 (Held l y) y refl), end.0, end.1)

      -- none is left
      pub Picked-end : Stop b.nodes at → 0 < from → (s : Node P) → s ≡ Held l first
          → (row : List P) × ((y : P) → IsSlotSet a (Held l y) row b t) × ExtractsBehind R f₀ (row_in a.nodes s) from None f row place × (place ≤ length row)
      Picked-end stop some s slot =
          let done = λ (y : P). Along-end Asks Q Declines a l first f₀ front todo f b t before at r.along stop (Held l y) y refl in
          let step = subst (λ ks. ExtractsNext R f₀ (r.along.gone ++ r.along.left) None f ks []) (sym (append-nil r.along.done)) (subst (λ Z. Declines f₀ Z r.along.done f) r.along.split (done first).1) in
          let end = ends None f [] some s slot step in
          (first ∷ ((front ++ r.along.done) ++ []), (λ y. subst (λ ps. IsSlotSet a (Held l y) (first ∷ ps) b t) (sym (append-nil (front ++ r.along.done))) (done y).0), end.0, end.1)
