-- What a closure that is asked about the pairs of one slot in turn leaves of them.
use Rattle.std.proofs.Common.{◌≡◌, ◌<◌, Bool, true, false, List, [], ◌∷◌, ◌++◌, length, refl, sym, ap, ◌∙◌, subst, arith, append-nil}
use Rattle.std.proofs.lemmas.List.{append_assoc}
use Rattle.intmap_table.specs.Retaining.{Retains}
use Rattle.intmap_table.specs.Tables.Nodes.{Node, Pool, row_in, IsSlot, IsSlotSet, Misses}
use Rattle.intmap_table.proofs.LeadsLemmas.{Leads, Leads-next}
use Rattle.intmap_table.proofs.RetainLemmas.{Retains-append}
use Rattle.intmap_table.proofs.Nodes.WalkedLemmas.{misses_right}

module _ {P : Type 0} where
  -- a list is longer than what is behind its first element
  pub smaller_rest : (xs : List P) (y : P) (ys zs : List P) → xs ≡ y ∷ ys → zs ≡ ys → length zs < length xs
  smaller_rest xs y ys zs e f = let old = ap length e in let new = ap length f in omega (arith, old, new)

  -- the row of a slot that nothing changed
  pub Slot-same : (a : Pool P) (s : Node P) → IsSlot a.nodes s → IsSlotSet a s (row_in a.nodes s) a s
  Slot-same a s is = record { is = is; pairs = refl; spares = λ t misses k n p passes at. at; held = refl }

  -- the first pairs of a row were removed, and then the others changed
  pub Slot-then : (a : Pool P) (s : Node P) (gone left row : List P) (b : Pool P) (t : Node P) (c : Pool P) (u : Node P)
      → row_in a.nodes s ≡ gone ++ left → IsSlotSet a s left b t → IsSlotSet b t row c u → IsSlotSet a s row c u
  Slot-then a s gone left row b t c u split one two =
      let len = ap length one.pairs in
      let h = one.held in let h' = two.held in
      record {
        is = two.is;
        pairs = two.pairs;
        spares = λ f misses k n p passes at.
            two.spares f (subst (Misses f) (sym one.pairs) (misses_right f gone left (subst (Misses f) split misses))) k n p passes (one.spares f misses k n p passes at);
        held = omega (arith, len, h, h');
      }

  -- one more pair is gone
  pub gone_more : (row gone : List P) (p : P) (left : List P) → row ≡ gone ++ p ∷ left → row ≡ (gone ++ p ∷ []) ++ left
  gone_more row gone p left e = e ∙ sym (append_assoc gone (p ∷ []) left)

module _ {P F : Type 0} (R : F → P → Bool → F → Type 0) (Q : F → P → Type 0) where
  -- the element at hand stays
  pub Retains-one : (f h : F) (p : P) → R f p true h → Retains R f (p ∷ []) (p ∷ []) h
  Retains-one f h p call = (true, h, [], call, (refl, refl), refl)

  -- it goes
  pub Retains-none : (f h : F) (p : P) → R f p false h → Retains R f (p ∷ []) [] h
  Retains-none f h p call = (false, h, [], call, (refl, refl), refl)

  -- the first of those that are left goes
  pub Leads-goes_first : (f₀ f h : F) (L done : List P) (p : P) (left : List P) → R f p false h → Leads (Retains R) f₀ L f done (p ∷ left) → Leads (Retains R) f₀ L h done left
  Leads-goes_first f₀ f h L done p left call leads =
      subst (λ Z. Leads (Retains R) f₀ L h Z left) (append-nil done) (Leads-next (Retains R) (Retains-append R) f₀ f h L done (p ∷ []) [] left leads (Retains-none f h p call))
