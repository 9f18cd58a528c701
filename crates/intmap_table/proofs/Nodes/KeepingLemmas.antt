-- What a walk that keeps or removes pairs of one slot, each as its bit says, leaves of them.
use Rattle.std.proofs.Common.{◌≡◌, ℕ, ◌+◌, ◌-◌, ◌<◌, ◌≤◌, true, false, List, [], ◌∷◌, ◌++◌, length, take, drop, refl, sym, ap, ◌∙◌, subst, arith, append_assoc, length-append}
use Rattle.intmap_table.specs.Retaining.{Retains}
use Rattle.intmap_table.specs.Tables.Behind.{IsBehind, IsBehindFirst}
use Rattle.intmap_table.specs.Tables.Keeping.{IsNextBit, Says, Keeps}
use Rattle.intmap_table.specs.Tables.Nodes.{node_limit, Node, Held, Pool, node_at, chain_of, row_in, IsSlotSet}
use Rattle.intmap_table.specs.Tables.Walked.{IsUnlinked}
use Rattle.intmap_table.specs.declared.linked.keep.KeepBits.{KeepBits}
use Rattle.intmap_table.proofs.RetainLemmas.{Retains-append}
use Rattle.intmap_table.proofs.Nodes.AlongLemmas.{IsAlong, Along-start, Along-stays, Along-goes, Walked-slot}
use Rattle.intmap_table.proofs.Nodes.NodeLemmas.{Stop}
use Rattle.intmap_table.proofs.Nodes.PickedLemmas.{drop-first, take-first}
use Rattle.intmap_table.proofs.Nodes.RetainedLemmas.{Retains-one, Retains-none}
use Rattle.intmap_table.proofs.Nodes.WalkedLemmas.{Walked-behind, Walked-end, Walked-few, Walked-keep, Walked-place}

module _ {P : Type 0} where
  -- each pair may be gone over
  abbrev Any : KeepBits → P → Type 0
  Any f p = Unit {0}

module _ {P : Type 0} (a : Pool P) (l : ℕ) (first : P) (f₀ : KeepBits) (from : ℕ) where
  abbrev front : List P
  front = take (from - 1) (chain_of a.nodes l)

  abbrev todo : List P
  todo = drop (from - 1) (chain_of a.nodes l)

  -- the pairs before node `at` were gone over, from a place on
  pub record IsKeeping (f : KeepBits) (place : ℕ) (b : Pool P) (t : Node P) (before at : ℕ) : Type 0 where
    pub along : IsAlong Says Any (Retains Says) a l first f₀ front todo f b t before at
    pub fits : length front + 1 ≡ from
    pub count : place ≡ from + length along.done

  -- none was gone over yet
  pub Keeping-start : (s : Node P) (before at : ℕ) → s ≡ Held l first → 0 < from → IsBehind a.nodes l (from - 1) before at → IsKeeping f₀ from a s before at
  Keeping-start s before at slot some start =
      let here = Walked-place a l (from - 1) before at start first s slot in
      record {
        along = Along-start Says Any (Retains Says) a l first f₀ front todo s before at here.0 (record { at = λ before after p g is passed. tt }) (refl, refl);
        fits = omega (arith, here.1, some);
        count = omega arith;
      }

  module _ (f : KeepBits) (place : ℕ) (b : Pool P) (t : Node P) (before at : ℕ) (r : IsKeeping f place b t before at) where
    -- what is left of the slot, if it stops here
    pub Keeping-row : (s : Node P) → s ≡ Held l first → IsSlotSet a s (row_in b.nodes t) b t × Keeps f₀ (row_in a.nodes s) from f (row_in b.nodes t) place
    Keeping-row s slot =
        let w = Walked-slot a l first b t (front ++ r.along.done) r.along.left before at r.along.walked s first slot in
        let fits = r.fits in (
          subst (λ L. IsSlotSet a s L b t) (sym w.pairs) w,
          rw (w.pairs, slot) (record {
            asked = r.along.gone;
            kept = r.along.done;
            rest = r.along.left;
            old = drop-first first (chain_of a.nodes l) from (omega (arith, fits)) ∙ r.along.split;
            told = r.along.went;
            new = ap (λ L. first ∷ L) (append_assoc front r.along.done r.along.left) ∙ ap (λ L. L ++ (r.along.done ++ r.along.left)) (sym (take-first first (chain_of a.nodes l) from (omega (arith, fits))));
            on = r.count;
          }),
        )

    -- if no pair is left, the place is behind the last one
    pub Keeping-end : Stop b.nodes at → (s : Node P) → s ≡ Held l first → length (row_in b.nodes t) ≤ place
    Keeping-end stop s slot =
        let w = ap length (Walked-slot a l first b t (front ++ r.along.done) r.along.left before at r.along.walked s first slot).pairs in
        let none = ap length (Walked-end a l first b t (front ++ r.along.done) r.along.left before at r.along.walked stop) in
        let sum = length-append (front ++ r.along.done) r.along.left in let front_sum = length-append front r.along.done in
        omega (arith, w, none, sum, front_sum, r.fits, r.count)

    module _ (n : ℕ) (p : P) (is : node_at b.nodes at ≡ Held n p) where
      -- the place is within the number of nodes
      pub Keeping-few : place ≤ node_limit
      Keeping-few =
          let on = ap length (Walked-keep a l first b t (front ++ r.along.done) r.along.left before at r.along.walked n p is).1 in
          let few = Walked-few a l first b t (front ++ r.along.done) r.along.left before at r.along.walked in
          let sum = length-append front r.along.done in
          omega (arith, few, on, sum, r.fits, r.count)

      -- the pair can be unlinked
      pub Keeping-behind : IsBehindFirst b.nodes t before at
      Keeping-behind = Walked-behind a l first b t (front ++ r.along.done) r.along.left before at r.along.walked n p is

      -- the pair at hand stays
      pub Keeping-stays : (h : KeepBits) → IsNextBit f true h → IsKeeping h (place + 1) b t at n
      Keeping-stays h said =
          let on = Along-stays Says Any (Retains Says) a l first f₀ front todo f b t before at r.along n p is (Retains-append Says) true h said (Retains-one Says Any f h p said) in
          let sum = length-append r.along.done (p ∷ []) in
          record { along = on.0; fits = r.fits; count = omega (arith, sum, r.count) }

      -- it is removed
      pub Keeping-goes : (h : KeepBits) → IsNextBit f false h → (x : P) (d : Pool P) (u : Node P) → IsUnlinked b t before at x d u → IsKeeping h place d u before n
      Keeping-goes h said x d u out =
          let on = Along-goes Says Any (Retains Says) a l first f₀ front todo f b t before at r.along n p is (Retains-append Says) false h said (Retains-none Says Any f h p said) x d u out in
          let sum = length-append r.along.done [] in
          record { along = on.0; fits = r.fits; count = omega (arith, sum, r.count) }
