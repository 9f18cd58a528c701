-- A visit of a node that waits leaves a search that reaches the same nodes.
use Rattle.std.proofs.Common.{◌≡◌, ◌⊎◌, ℕ, zero, suc, ◌++◌, ◌∷◌, [], true, false, Contains, IsTrue, List, arith, inl, inr, lit<, refl, subst, sym, ⊎_elim}
use Rattle.std.specs.declared.vec.Vec.{Vec}
use Rattle.std.proofs.lemmas.Bool.{cases_Bool}
use Rattle.std.proofs.lemmas.Bool.Decides.{nat_tests}
use Rattle.std.proofs.lemmas.Grind.{common_steps}
use Rattle.std.proofs.lemmas.List.Elements.{Contains-append_left, Contains-append_right, Contains-append_cases}
use Rattle.intmap_set.specs.Sets.{Updates, holds}
use Rattle.example_reach.specs.Reached.{IsReaching, targets_of}

-- the only element of a list of one
single : (n q : ℕ) → Contains (n ∷ []) q → n ≡ q
single n q (zero, less, is) = is
single n q (suc k, less, is) = absurd (omega (arith, less))

module _ {A : Type 0} (edges : List (ℕ × Vec ℕ A)) (start node : ℕ) (V W waiting now : List ℕ) where
  -- the node is visited then, each node that waits still waits, and so do targets of the node, all of them if it is new
  pub IsReaching-visit : Updates (λ key. key) V W node true
      → ((q : ℕ) → Contains waiting q → Contains now q)
      → ((q : ℕ) → Contains now q → Contains waiting q ⊎ Contains (targets_of edges node) q)
      → (holds (λ key. key) V node ≡ false → (q : ℕ) → Contains (targets_of edges node) q → Contains now q)
      → IsReaching edges start V (waiting ++ node ∷ []) → IsReaching edges start W now
  IsReaching-visit updates stay are new before =
      let stays : (q : ℕ) → IsTrue (holds (λ key. key) V q) → IsTrue (holds (λ key. key) W q) = λ q was.
      (let each = updates.0 q in grind (arith, common_steps, nat_tests, each, was)) in
      let waits : (q : ℕ) → Contains (waiting ++ node ∷ []) q → IsTrue (holds (λ key. key) W q) ⊎ Contains now q = λ q is.
      ⊎_elim (λ was. inr (stay q was)) (λ it. inl (subst (λ q. IsTrue (holds (λ key. key) W q)) (single node q it) updates.1))
      (Contains-append_cases waiting (node ∷ []) q is) in
      let came : (q : ℕ) → IsTrue (holds (λ key. key) W q) → IsTrue (holds (λ key. key) V q) ⊎ ((q ≡ node) × (holds (λ key. key) V q ≡ false)) = λ q is.
      ⊎_elim (λ was. inl was) (λ was. inr (let each = updates.0 q in grind (arith, common_steps, nat_tests, each, is, was), was)) (cases_Bool (holds (λ key. key) V q)) in
      record {
        start_is = ⊎_elim (λ was. inl (stays start was)) (λ is. waits start is) before.start_is;
        closed = λ n target is edge.
            ⊎_elim (λ was. ⊎_elim (λ there. inl (stays target there)) (λ there. waits target there) (before.closed n target was edge))
            (λ is_new. inr (new (subst (λ n. holds (λ key. key) V n ≡ false) is_new.0 is_new.1) target (subst (λ n. Contains (targets_of edges n) target) is_new.0 edge)))
            (came n is);
        least = λ test starts closed.
            (let told = before.least test starts closed in
            let node_passes : IsTrue (test node) = told.1 node (Contains-append_right waiting (node ∷ []) node (0, (lit< tt), refl)) in (
              (λ q is. ⊎_elim (λ was. told.0 q was) (λ is_new. subst (λ q. IsTrue (test q)) (sym is_new.0) node_passes) (came q is)),
              (λ q is. ⊎_elim (λ was. told.1 q (Contains-append_left waiting (node ∷ []) q was)) (λ target. closed node q node_passes target) (are q is)),
            ));
      }
