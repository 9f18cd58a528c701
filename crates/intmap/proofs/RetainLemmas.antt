-- What a map is once pairs were let go.
use Rattle.std.proofs.Common.{◌≡◌, inr, ℕ, ◌≤◌, Bool, cond, List, [], ◌∷◌, length, None, sym, ap, subst, arith}
use Rattle.std.specs.Prelude.{◌⊎◌}
use Rattle.intmap_table.proofs.BindingLemmas.{first_value-unmatched}
use Rattle.intmap.proofs.CostLemmas.{HasDistinctKeys-tail}
use Rattle.intmap.proofs.CountLemmas.{count_by-cons}
use Rattle.intmap_table.specs.Bindings.{HasDistinctKeys, value_of}
use Rattle.intmap_table.specs.Classes.{same_key}
use Rattle.intmap.specs.Consistency.{IsConsistent}
use Rattle.intmap_table.specs.Retaining.{Retains}
use Rattle.intmap_table.specs.Walk.{walk_of}
use Rattle.intmap.proofs.MapLemmas.{IsConsistent-fewer}
use Rattle.intmap_table.proofs.RetainLemmas.{length-Retains, All-Retains, count_by-Retains}

module _ {F K V : Type 0} (number : K → ℕ) (R : F → K × V → Bool → F → Type 0) where
  -- no key that stays is present twice
  pub HasDistinctKeys-Retains : (f g : F) (L M : List (K × V)) → Retains R f L M g → HasDistinctKeys number L → HasDistinctKeys number M
  HasDistinctKeys-Retains f g L M r once k =
      let few = count_by-Retains R (λ p. same_key number k p.0) f g L M r in let one = once k in omega (arith, few, one)

  -- each key has the value that it had, or is absent
  pub value_of-Retains : (k : K) (f g : F) (L M : List (K × V)) → Retains R f L M g → HasDistinctKeys number L → (value_of number M k ≡ value_of number L k) ⊎ (value_of number M k ≡ None)
  value_of-Retains k f g [] M r once = inr (ap (λ Z. value_of number Z k) r.0)
  value_of-Retains k f g (p ∷ L) M r once =
      let all = once k in let more = count_by-cons (λ q. same_key number k q.0) p L in
      let few = count_by-Retains R (λ q. same_key number k q.0) r.1 g L r.2 r.4 in
      let gone = first_value-unmatched (same_key number k) r.2 in
      let rest = value_of-Retains k r.1 g L r.2 r.4 (HasDistinctKeys-tail number p L once) in
      let here : (value_of number (cond r.0 (p ∷ r.2) r.2) k ≡ value_of number (p ∷ L) k) ⊎ (value_of number (cond r.0 (p ∷ r.2) r.2) k ≡ None) = grind (arith, all, more, few, gone, rest) in
      subst (λ Z. (value_of number Z k ≡ value_of number (p ∷ L) k) ⊎ (value_of number Z k ≡ None)) (sym r.5) here

-- what a map keeps agrees once pairs were let go
pub IsConsistent-Retains : {F K V : Type 0} (number : K → ℕ) (is_valid : K → Type 0) (R : F → K × V → Bool → F → Type 0) (f g : F) (W M : List (K × V)) (C D E n n' most B N N' : ℕ)
    → Retains R f W M g → D ≡ C → walk_of number M D ≡ M → n' ≡ length M → B ≤ N' → IsConsistent number is_valid W C E n most B N → IsConsistent number is_valid M D E n' most B N'
IsConsistent-Retains number is_valid R f g W M C D E n n' most B N N' r same own count memory old =
    IsConsistent-fewer number is_valid W M C E n most B N old B N' memory D n' same own count (length-Retains R f g W M r)
    (HasDistinctKeys-Retains number R f g W M r old.map.distinct) (All-Retains R (λ p. is_valid p.0) f g W M r old.map.keys)
