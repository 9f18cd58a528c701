-- What is left of a list once the keys of its first pairs are struck.
use Rattle.std.proofs.Common.{◌≡◌, ℕ, zero, suc, List, [], ◌∷◌, refl, ap, arith}
use Rattle.std.specs.Prelude.{count_by, take, drop}
use Rattle.std.specs.Map.{keys_of}
use Rattle.std.proofs.lemmas.Bool.Decides.{nat_tests}
use Rattle.intmap.proofs.CostLemmas.{HasDistinctKeys-tail}
use Rattle.intmap.proofs.CountLemmas.{count_by-cons}
use Rattle.intmap_table.specs.Classes.{same_key}
use Rattle.intmap_table.specs.Bindings.{HasDistinctKeys, strike_keys}

module _ {K V : Type 0} (number : K → ℕ) where
  -- no key struck leaves the list
  strike_keys-none : (L : List (K × V)) → strike_keys number L [] ≡ L
  strike_keys-none [] = refl
  strike_keys-none (p ∷ L) = ap (λ M. p ∷ M) (strike_keys-none L)

  -- a key that no pair has is struck for nothing
  strike_keys-missing : (k : K) (ks : List K) (L : List (K × V)) → count_by (λ p. same_key number k p.0) L ≡ 0 → strike_keys number L (k ∷ ks) ≡ strike_keys number L ks
  strike_keys-missing k ks [] none = refl
  strike_keys-missing k ks (p ∷ L) none =
      let more = count_by-cons (λ q. same_key number k q.0) p L in let rest = strike_keys-missing k ks L in grind (arith, nat_tests, more, rest, none)

  -- with the keys of the first pairs struck, the pairs behind them are left
  pub strike_keys-first : (m : ℕ) (L : List (K × V)) → HasDistinctKeys number L → strike_keys number L (keys_of (take m L)) ≡ drop m L
  strike_keys-first zero L once = strike_keys-none L
  strike_keys-first (suc m) [] once = refl
  strike_keys-first (suc m) (p ∷ L) once =
      let rest = strike_keys-first m L (HasDistinctKeys-tail number p L once) in
      let more = count_by-cons (λ q. same_key number p.0 q.0) p L in let one = once p.0 in let missing = strike_keys-missing p.0 (keys_of (take m L)) L in
      grind (arith, nat_tests, rest, more, one, missing)
