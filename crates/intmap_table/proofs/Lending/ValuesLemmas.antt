-- Lists of pairs with other values in the places of their own.
use Rattle.std.proofs.Common.{◌≡◌, suc, List, [], ◌∷◌, ◌++◌, length, map, refl, ap, ◌∙◌, arith}
use Rattle.std.specs.Prelude.{take, drop}
use Rattle.std.specs.Map.{keys_of, values_of}
use Rattle.std.proofs.lemmas.List.{map-append}
use Rattle.intmap_table.specs.Tables.Slots.{joined}
use Rattle.intmap_table.specs.Values.{lent_pairs, rows_with, with_values}
use Rattle.intmap_table.proofs.Tables.SameKeysLemmas.{row_keys}
use denote.RawPtr.{Ptr}

module _ {K V : Type 0} where
  -- no value changes nothing
  pub with_values-none : (L : List (K × V)) → with_values L [] ≡ L
  unfolding with_values
  with_values-none [] = refl
  with_values-none (p ∷ L) = refl

  -- of two lists, the first takes its values first
  pub with_values-append : (L M : List (K × V)) (vs : List V) → with_values L (take (length L) vs) ++ with_values M (drop (length L) vs) ≡ with_values (L ++ M) vs
  unfolding with_values
  with_values-append [] M vs = refl
  with_values-append (p ∷ L) M [] = ap (λ N. p ∷ L ++ N) (with_values-none M)
  with_values-append (p ∷ L) M (v ∷ vs) = ap (λ N. (p.0, v) ∷ N) (with_values-append L M vs)

  -- the keys stay
  pub keys_of-with_values : (L : List (K × V)) (vs : List V) → keys_of (with_values L vs) ≡ keys_of L
  unfolding with_values
  keys_of-with_values [] vs = refl
  keys_of-with_values (p ∷ L) [] = refl
  keys_of-with_values (p ∷ L) (v ∷ vs) = ap (λ ks. p.0 ∷ ks) (keys_of-with_values L vs)

  -- and so does their number
  pub length-with_values : (L : List (K × V)) (vs : List V) → length (with_values L vs) ≡ length L
  unfolding with_values
  length-with_values [] vs = refl
  length-with_values (p ∷ L) [] = refl
  length-with_values (p ∷ L) (v ∷ vs) = ap suc (length-with_values L vs)

  -- as many values as pairs are the values then
  pub values_of-with_values : (L : List (K × V)) (vs : List V) → length vs ≡ length L → values_of (with_values L vs) ≡ vs
  unfolding with_values
  values_of-with_values [] [] long = refl
  values_of-with_values [] (v ∷ vs) long = absurd (omega (arith, long))
  values_of-with_values (p ∷ L) [] long = absurd (omega (arith, long))
  values_of-with_values (p ∷ L) (v ∷ vs) long = ap (λ ws. v ∷ ws) (values_of-with_values L vs (omega (arith, long)))

  pub keys_of-lent_pairs : (L : List (K × (Ptr × V))) → keys_of (lent_pairs L) ≡ keys_of L
  keys_of-lent_pairs [] = refl
  keys_of-lent_pairs (p ∷ L) = ap (λ ks. p.0 ∷ ks) (keys_of-lent_pairs L)

  pub lent_pairs-joined : (R : List (List (K × (Ptr × V)))) → lent_pairs (joined R) ≡ joined (map lent_pairs R)
  lent_pairs-joined [] = refl
  lent_pairs-joined (row ∷ R) = map-append (λ p. (p.0, p.1.1)) row (joined R) ∙ ap (λ L. lent_pairs row ++ L) (lent_pairs-joined R)

  pub row_keys-lent_pairs : (R : List (List (K × (Ptr × V)))) → row_keys (map lent_pairs R) ≡ row_keys R
  row_keys-lent_pairs [] = refl
  row_keys-lent_pairs (row ∷ R) = λ i. keys_of-lent_pairs row i ∷ row_keys-lent_pairs R i

  -- rows with other values have their keys
  pub row_keys-rows_with : (R : List (List (K × V))) (vs : List V) → row_keys (rows_with R vs) ≡ row_keys R
  row_keys-rows_with [] vs = refl
  row_keys-rows_with (row ∷ R) vs = λ i. keys_of-with_values row (take (length row) vs) i ∷ row_keys-rows_with R (drop (length row) vs) i

  -- and there are as many
  pub length-rows_with : (R : List (List (K × V))) (vs : List V) → length (rows_with R vs) ≡ length R
  length-rows_with [] vs = refl
  length-rows_with (row ∷ R) vs = ap suc (length-rows_with R (drop (length row) vs))
