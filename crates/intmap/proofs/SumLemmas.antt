-- The sum over all values, each by a weight, through a walk, a removal, an insertion and a write.
use Rattle.std.proofs.Common.{◌≡◌, ℕ, ◌+◌, ◌<◌, true, List, [], ◌∷◌, Some, refl, sym, ◌∙◌, arith}
use Rattle.std.specs.Prelude.{sum_by, option_map, unwrap_or}
use Rattle.std.specs.Map.{values_of}
use Rattle.std.proofs.lemmas.List.Sums.{sum_by-cons, sum_by_push}
use Rattle.intmap_table.specs.Classes.{slot_number, same_key, agrees}
use Rattle.intmap_table.specs.Bindings.{value_of, HasDistinctKeys, take_key, put_pair, write_value}
use Rattle.intmap_table.specs.Walk.{walk_of}
use Rattle.intmap_table.proofs.DistinctLemmas.{taken, sum_by-swap_out, sum_by-classes}
use Rattle.intmap.proofs.CostLemmas.{HasDistinctKeys-tail}
use Rattle.intmap.proofs.EqualityLemmas.{value_of-rest}
use Rattle.intmap.proofs.WriteLemmas.{write_value-unbound}

module _ {K V : Type 0} (number : K → ℕ) (f : V → ℕ) where
  -- the values weigh what the pairs weigh by their values
  sum_by-values_of : (L : List (K × V)) → sum_by f (values_of L) ≡ sum_by (λ p. f p.1) L
  sum_by-values_of [] = refl
  sum_by-values_of (p ∷ L) =
      let h = sum_by-values_of L in let l = sum_by-cons f p.1 (values_of L) in let m = sum_by-cons (λ (r : K × V). f r.1) p L in omega (arith, h, l, m)

  -- the walk has the sum of its list
  pub sum_by-walk_of : (L : List (K × V)) (C : ℕ) → ((k : K) → slot_number number k C < C) → sum_by f (values_of (walk_of number L C)) ≡ sum_by f (values_of L)
  sum_by-walk_of L C below =
      sum_by-values_of (walk_of number L C) ∙ sum_by-classes (λ p. f p.1) (λ p. slot_number number p.0 C) L C (λ p. below p.0) ∙ sym (sum_by-values_of L)

  -- a removal takes the weight of the key's value
  taken-weight : (L : List (K × V)) (C : ℕ) (k : K)
      → taken (λ p. f p.1) (λ p. same_key number k p.0) (λ p. agrees number C k p.0) L ≡ unwrap_or (option_map f (value_of number L k)) 0
  taken-weight [] C k = refl
  taken-weight (p ∷ L) C k = let rest = taken-weight L C k in grind (arith, rest)

  -- a removal lowers the sum by the old value
  pub sum_by-take_key : (L : List (K × V)) (C : ℕ) (k : K)
      → sum_by f (values_of (take_key number L C k)) + unwrap_or (option_map f (value_of number L k)) 0 ≡ sum_by f (values_of L)
  sum_by-take_key L C k =
      let s = sum_by-swap_out (λ p. f p.1) (λ p. same_key number k p.0) (λ p. agrees number C k p.0) L in
      let t = taken-weight L C k in
      let l = sum_by-values_of L in
      let m = sum_by-values_of (take_key number L C k) in
      omega (arith, s, t, l, m)

  -- an insertion puts the new value in the place of the old one
  pub sum_by-put_pair : (L : List (K × V)) (C : ℕ) (k : K) (v : V)
      → sum_by f (values_of (put_pair number L C k v)) + unwrap_or (option_map f (value_of number L k)) 0 ≡ sum_by f (values_of L) + f v
  sum_by-put_pair L C k v =
      let s = sum_by-take_key L C k in
      let t = sum_by_push (λ p. f p.1) (take_key number L C k) (k, v) in
      let l = sum_by-values_of (take_key number L C k) in
      let m = sum_by-values_of (put_pair number L C k v) in
      omega (arith, s, t, l, m)

  -- a write puts the new value in the place of the old one
  pub sum_by-write_value : (L : List (K × V)) (k : K) (a v : V) → HasDistinctKeys number L → value_of number L k ≡ Some a
      → sum_by f (values_of (write_value number L k v)) + f a ≡ sum_by f (values_of L) + f v
  sum_by-write_value [] k a v once bound = cc
  sum_by-write_value (p ∷ L) k a v once bound =
      let rest = sum_by-write_value L k a v (HasDistinctKeys-tail number p L once) in
      let kept = λ (here : same_key number k p.0 ≡ true). write_value-unbound number L k v (value_of-rest number p L once k here) in
      let more = sum_by-cons f p.1 (values_of L) in let new = sum_by-cons f v (values_of L) in let written = sum_by-cons f p.1 (values_of (write_value number L k v)) in
      grind (arith, rest, bound, kept, more, new, written)
