-- What lies at the first place of a slot.
use Rattle.std.proofs.Common.{◌≡◌, ℕ, Bool, true, false, List, [], ◌∷◌, ◌++◌, get_or, set, None, sym, ap, ◌∙◌}
use Rattle.std.specs.Prelude.{MatchBool}
use Rattle.intmap_table.specs.Bindings.{value_of}
use Rattle.intmap_table.specs.Tables.Slots.{joined}
use Rattle.intmap_table.proofs.Tables.TableLemmas.{IsSlot, value_of-here}

-- both sides of a test, each turned into another
pub MatchBool-weaker : {P Q A B : Type 0} (b : Bool) → (P → A) → (Q → B) → MatchBool b P Q → MatchBool b A B
MatchBool-weaker true f g h = f h
MatchBool-weaker false f g h = g h

module _ {K X : Type 0} (number : K → ℕ) (R : List (List (K × X))) (i : ℕ) (k : K) (at : IsSlot number R i k) (empty : get_or R i [] ≡ []) where
  -- a key whose slot is empty is absent
  pub value_of-vacant : value_of number (joined R) k ≡ None
  value_of-vacant = value_of-here number R i k at ∙ ap (λ ps. value_of number ps k) empty

  -- and its pair comes behind those of the slot
  pub set-vacant : (v : X) → set R i ((k, v) ∷ []) ≡ set R i (get_or R i [] ++ (k, v) ∷ [])
  set-vacant v = ap (λ ps. set R i (ps ++ (k, v) ∷ [])) (sym empty)
