-- What lists with other values, and lists from back to front, bind.
use Rattle.std.proofs.Common.{◌≡◌, ℕ, ◌≤◌, List, [], ◌∷◌, reverse, map, option_map, refl, sym, ap, ◌∙◌, subst, arith}
use Rattle.std.proofs.lemmas.Bool.Decides.{nat_tests}
use Rattle.std.proofs.lemmas.List.{reverse-append}
use Rattle.intmap_table.proofs.MappedLemmas.{count_by-map}
use Rattle.intmap_table.specs.Bindings.{value_of, HasDistinctKeys}
use Rattle.intmap_table.specs.Classes.{same_key}
use Rattle.intmap.proofs.CostLemmas.{HasDistinctKeys-tail}
use Rattle.intmap.proofs.EqualityLemmas.{value_of-rest}
use Rattle.intmap.proofs.ExtendLemmas.{value_of-append}

module _ {K V : Type 0} (number : K → ℕ) where
  -- a key has what is made of its value
  pub value_of-mapped : {W : Type 0} (f : V → W) (L : List (K × V)) (q : K) → value_of number (map (λ p. (p.0, f p.1)) L) q ≡ option_map f (value_of number L q)
  value_of-mapped f [] q = refl
  value_of-mapped f (p ∷ L) q = let rest = value_of-mapped f L q in grind (arith, rest)

  -- the keys stay, so they stay distinct
  pub HasDistinctKeys-mapped : {W : Type 0} (f : V → W) (L : List (K × V)) → HasDistinctKeys number L → HasDistinctKeys number (map (λ p. (p.0, f p.1)) L)
  HasDistinctKeys-mapped f L once k = subst (λ n. n ≤ 1) (sym (count_by-map (λ p. (p.0, f p.1)) (λ p. same_key number k p.0) L)) (once k)

  -- a key that is present once has the same value from the back
  pub value_of-reverse : (L : List (K × V)) (q : K) → HasDistinctKeys number L → value_of number (reverse L) q ≡ value_of number L q
  value_of-reverse [] q once = refl
  value_of-reverse (p ∷ L) q once =
      let turned = ap (λ M. value_of number M q) (reverse-append (p ∷ []) L) ∙ value_of-append number (reverse L) (p ∷ []) q in
      let rest = value_of-reverse L q (HasDistinctKeys-tail number p L once) in
      let none = value_of-rest number p L once q in
      grind (arith, nat_tests, turned, rest, none)
