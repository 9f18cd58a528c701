-- What a closure that is asked about each element in turn leaves of lists.
use Rattle.std.proofs.Common.{◌≡◌, ◌≤◌, Bool, cond, List, [], ◌∷◌, ◌++◌, length, sym, ap, ◌∙◌, subst, arith}
use Rattle.std.specs.Prelude.{All, count_by, filter}
use Rattle.std.specs.List.{FoldsTo}
use Rattle.std.proofs.lemmas.Bool.{cond_both}
use Rattle.std.proofs.lemmas.List.Elements.{All-cons, All-head, All-tail}
use Rattle.std.proofs.lemmas.List.Sums.{sum_by-cons}
use Rattle.intmap_table.specs.Retaining.{Retains, state_after, kept_from}
use Rattle.intmap_table.specs.Taking.{Passes}

module _ {F X : Type 0} (R : F → X → Bool → F → Type 0) where
  -- first the one list, then the other
  pub Retains-append : (f g h : F) (L L' M M' : List X) → Retains R f L M g → Retains R g L' M' h → Retains R f (L ++ L') (M ++ M') h
  Retains-append f g h [] L' M M' first more = subst (λ Z. Retains R f L' (Z ++ M') h) (sym first.0) (subst (λ z. Retains R z L' M' h) (sym first.1) more)
  Retains-append f g h (x ∷ L) L' M M' first more =
      (first.0, first.1, first.2 ++ M', first.3, Retains-append first.1 g h L L' first.2 M' first.4 more, ap (λ Z. Z ++ M') first.5 ∙ grind arith)

  -- it passed each element
  pub FoldsTo-Retains : (f g : F) (L M : List X) → Retains R f L M g → FoldsTo (Passes R) f L g
  FoldsTo-Retains f g [] M r = r.1
  FoldsTo-Retains f g (x ∷ L) M r = (r.1, (r.0, r.3), FoldsTo-Retains r.1 g L r.2 r.4)

  -- no more elements stay than there were
  pub length-Retains : (f g : F) (L M : List X) → Retains R f L M g → length M ≤ length L
  length-Retains f g [] M r = let e = ap length r.0 in omega (arith, e)
  length-Retains f g (x ∷ L) M r =
      let rest = length-Retains r.1 g L r.2 r.4 in let e = ap length r.5 in grind (arith, rest, e)

  -- what holds of all holds of all that stay
  pub All-Retains : (P : X → Type 0) (f g : F) (L M : List X) → Retains R f L M g → All P L → All P M
  All-Retains P f g [] M r all = subst (All P) (sym r.0) all
  All-Retains P f g (x ∷ L) M r all =
      let rest = All-Retains P r.1 g L r.2 r.4 (All-tail P x L all) in
      subst (All P) (sym r.5) (cond_both r.0 (x ∷ r.2) r.2 (All P) (λ _. All-cons P x r.2 (All-head P x L all) rest) (λ _. rest))

  -- of those that stay, no more pass a test
  pub count_by-Retains : (test : X → Bool) (f g : F) (L M : List X) → Retains R f L M g → count_by test M ≤ count_by test L
  count_by-Retains test f g [] M r = let e = ap (count_by test) r.0 in omega (arith, e)
  count_by-Retains test f g (x ∷ L) M r =
      let rest = count_by-Retains test r.1 g L r.2 r.4 in let e = ap (count_by test) r.5 in
      let before = sum_by-cons (λ (y : X). cond (test y) 1 0) x L in let after = sum_by-cons (λ (y : X). cond (test y) 1 0) x r.2 in grind (arith, rest, e, before, after)

module _ {F X : Type 0} (R : F → X → Bool → F → Type 0) where
  -- what stays if each answer is a test of the element alone, and `Own` holds of the closure throughout
  pub Retains-filter : (Own : F → Type 0) (test : X → Bool) → ((f : F) (x : X) (b : Bool) (g : F) → Own f → R f x b g → (b ≡ test x) × Own g)
      → (f g : F) (L M : List X) → Own f → Retains R f L M g → M ≡ filter test L
  Retains-filter Own test each f g [] M own r = r.0
  Retains-filter Own test each f g (x ∷ L) M own r =
      let here = each f x r.0 r.1 own r.3 in
      let rest = Retains-filter Own test each r.1 g L r.2 here.1 r.4 in
      r.5 ∙ (λ i. cond (here.0 i) (x ∷ rest i) (rest i))

  -- what stays if each answer is a test with a state, and `Own` says which state the closure is in; and that state
  pub Retains-kept_from : {S : Type 0} (Own : F → S → Type 0) (says : S → X → Bool) (next : S → X → S)
      → ((f : F) (x : X) (b : Bool) (g : F) (s : S) → Own f s → R f x b g → (b ≡ says s x) × Own g (next s x))
      → (s : S) (f g : F) (L M : List X) → Own f s → Retains R f L M g → (M ≡ kept_from says next s L) × Own g (state_after next s L)
  Retains-kept_from Own says next each s f g [] M own r = (r.0, subst (λ h. Own h s) r.1 own)
  Retains-kept_from Own says next each s f g (x ∷ L) M own r =
      let here = each f x r.0 r.1 s own r.3 in
      let rest = Retains-kept_from Own says next each (next s x) r.1 g L r.2 here.1 r.4 in
      (r.5 ∙ (λ i. cond (here.0 i) (x ∷ rest.0 i) (rest.0 i)), rest.1)
