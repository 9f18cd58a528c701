-- What a closure that writes each value in turn leaves of lists of pairs.
use Rattle.std.proofs.Common.{is_some, ◌≡◌, ℕ, List, [], ◌∷◌, ◌++◌, length, sym, ap, ◌∙◌, subst, arith}
use Rattle.std.specs.Prelude.{map}
use Rattle.std.specs.List.{FoldsTo}
use Rattle.std.specs.Map.{keys_of}
use Rattle.std.proofs.lemmas.Map.Entries.{length-keys_of}
use Rattle.intmap_table.specs.Bindings.{value_of}
use Rattle.intmap_table.specs.Taking.{Passes}
use Rattle.intmap_table.specs.Retaining.{state_after}
use Rattle.intmap_table.specs.Writes.{Writes, written_from}

module _ {F K V : Type 0} (R : F → K × V → V → F → Type 0) where
  -- first the one list, then the other
  pub Writes-append : (f g h : F) (L L' M M' : List (K × V)) → Writes R f L M g → Writes R g L' M' h → Writes R f (L ++ L') (M ++ M') h
  Writes-append f g h [] L' M M' first more = subst (λ Z. Writes R f L' (Z ++ M') h) (sym first.0) (subst (λ z. Writes R z L' M' h) (sym first.1) more)
  Writes-append f g h (p ∷ L) L' M M' first more =
      (first.0, first.1, first.2 ++ M', first.3, Writes-append first.1 g h L L' first.2 M' first.4 more, ap (λ Z. Z ++ M') first.5)

  -- it passed each pair
  pub FoldsTo-Writes : (f g : F) (L M : List (K × V)) → Writes R f L M g → FoldsTo (Passes R) f L g
  FoldsTo-Writes f g [] M r = r.1
  FoldsTo-Writes f g (p ∷ L) M r = (r.1, (r.0, r.3), FoldsTo-Writes r.1 g L r.2 r.4)

  -- the keys stay, in their order
  pub keys_of-Writes : (f g : F) (L M : List (K × V)) → Writes R f L M g → keys_of M ≡ keys_of L
  keys_of-Writes f g [] M r = ap keys_of r.0
  keys_of-Writes f g (p ∷ L) M r = ap keys_of r.5 ∙ ap (λ ks. p.0 ∷ ks) (keys_of-Writes r.1 g L r.2 r.4)

  -- so the number of pairs is the same
  pub length-Writes : (f g : F) (L M : List (K × V)) → Writes R f L M g → length M ≡ length L
  length-Writes f g L M r = sym (length-keys_of M) ∙ ap length (keys_of-Writes f g L M r) ∙ length-keys_of L

  -- a key is present if it was, and no other is
  pub is_some-Writes : (number : K → ℕ) (k : K) (f g : F) (L M : List (K × V)) → Writes R f L M g → is_some (value_of number M k) ≡ is_some (value_of number L k)
  is_some-Writes number k f g [] M r = ap (λ Z. is_some (value_of number Z k)) r.0
  is_some-Writes number k f g (p ∷ L) M r =
      let rest = is_some-Writes number k r.1 g L r.2 r.4 in let e = ap (λ Z. is_some (value_of number Z k)) r.5 in grind (arith, rest, e)

module _ {F K V : Type 0} (R : F → K × V → V → F → Type 0) where
  -- the values if each is made of its pair alone, and `Own` holds of the closure throughout
  pub Writes-map : (Own : F → Type 0) (value : K × V → V) → ((f : F) (p : K × V) (w : V) (g : F) → Own f → R f p w g → (w ≡ value p) × Own g)
      → (f g : F) (L M : List (K × V)) → Own f → Writes R f L M g → M ≡ map (λ p. (p.0, value p)) L
  Writes-map Own value each f g [] M own r = r.0
  Writes-map Own value each f g (p ∷ L) M own r =
      let here = each f p r.0 r.1 own r.3 in
      let rest = Writes-map Own value each r.1 g L r.2 here.1 r.4 in
      r.5 ∙ (λ i. (p.0, here.0 i) ∷ rest i)

  -- the values if each is made of its pair and of a state, and `Own` says which state the closure is in; and that state
  pub Writes-written_from : {S : Type 0} (Own : F → S → Type 0) (value : S → K × V → V) (next : S → K × V → S)
      → ((f : F) (p : K × V) (w : V) (g : F) (s : S) → Own f s → R f p w g → (w ≡ value s p) × Own g (next s p))
      → (s : S) (f g : F) (L M : List (K × V)) → Own f s → Writes R f L M g → (M ≡ written_from value next s L) × Own g (state_after next s L)
  Writes-written_from Own value next each s f g [] M own r = (r.0, subst (λ h. Own h s) r.1 own)
  Writes-written_from Own value next each s f g (p ∷ L) M own r =
      let here = each f p r.0 r.1 s own r.3 in
      let rest = Writes-written_from Own value next each (next s p) r.1 g L r.2 here.1 r.4 in
      (r.5 ∙ (λ i. (p.0, here.0 i) ∷ rest.0 i), rest.1)
