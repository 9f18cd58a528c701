-- Which pairs a list with distinct keys contains, and which values any list.
use Rattle.std.proofs.Common.{◌≡◌, inl, inr, ℕ, suc, List, [], ◌∷◌, Option, Some, None, IfSome, option_copied, sym, arith}
use Rattle.std.specs.Prelude.{All, Contains}
use Rattle.std.specs.Borrow.{Bor}
use Rattle.std.specs.List.{IsAmong}
use Rattle.std.specs.Map.{values_of}
use Rattle.std.proofs.lemmas.Bool.{cases_Bool, eqb-true}
use Rattle.std.proofs.lemmas.List.Elements.{All-head, All-tail, All-contains}
use Rattle.intmap_table.specs.Classes.{same_key}
use Rattle.intmap_table.specs.Bindings.{value_of, HasDistinctKeys}
use Rattle.intmap.proofs.EqualityLemmas.{All-found}

-- a pair that is in the list has the value of its key
pub value_of-Contains : {K V : Type 0} (number : K → ℕ) (L : List (K × V)) (k : K) (v : V) → HasDistinctKeys number L → Contains L (k, v) → value_of number L k ≡ Some v
value_of-Contains number L k v distinct = All-contains (λ q. value_of number L q.0 ≡ Some q.1) L (k, v) (All-found number L distinct)

module _ {K V : Type 0} (number : K → ℕ) (is_valid : K → Type 0) (number_injective : (x y : K) → is_valid x → is_valid y → number x ≡ number y → x ≡ y) where
  -- the value of a key stands in the pair of this key
  pub Contains-value_of : (L : List (K × V)) (k : K) (v : V) → All (λ p. is_valid p.0) L → is_valid k → value_of number L k ≡ Some v → Contains L (k, v)
  Contains-value_of [] k v keys known found = absurd (let e = found in cc)
  Contains-value_of (p ∷ L) k v keys known found =
      elim (cases_Bool (same_key number k p.0)) [
        | inl same ↦
            let key = number_injective p.0 k (All-head (λ (q : K × V). is_valid q.0) p L keys) known (eqb-true (number p.0) (number k) same) in
            (0, omega arith, (let is = found in grind (arith, is, same, key)))
        | inr other ↦
            let rest = Contains-value_of L k v (All-tail (λ (q : K × V). is_valid q.0) p L keys) known (let is = found in grind (arith, is, other)) in
            (suc rest.0, omega (arith, rest.1), rest.2)
      ]

module _ {K V : Type 0} (number : K → ℕ) where
  -- the value of a key is one of the values
  IsAmong-value_of : (L : List (K × V)) (k : K) (v : V) → value_of number L k ≡ Some v → IsAmong (values_of L) v
  IsAmong-value_of [] k v found = absurd (let e = found in cc)
  IsAmong-value_of (p ∷ L) k v found =
      elim (cases_Bool (same_key number k p.0)) [
        | inl same ↦ (0, (omega arith, (let is = found in grind (arith, is, same))))
        | inr other ↦ let rest = IsAmong-value_of L k v (let is = found in grind (arith, is, other)) in (suc rest.0, (omega (arith, rest.1.0), rest.1.1))
      ]

  -- so is what a reference to it shows
  pub IsAmong-shown : (L : List (K × V)) (k : K) (o : Option (Bor V)) → option_copied o ≡ value_of number L k → IfSome o (λ value. IsAmong (values_of L) value.now)
  IsAmong-shown L k None found = tt
  IsAmong-shown L k (Some value) found = IsAmong-value_of L k value.now (sym found)
