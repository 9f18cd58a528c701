-- The sum over all values, each by a weight, of lists that give each key its value: the order of the pairs doesn't matter.
use Rattle.std.proofs.Common.{◌≡◌, ℕ, ◌+◌, ◌≤◌, List, [], ◌∷◌, Option, Some, None, refl, sym, ◌∙◌, arith}
use Rattle.std.specs.Prelude.{cond, is_none, sum_by, option_map, unwrap_or}
use Rattle.std.specs.Map.{values_of}
use Rattle.std.proofs.lemmas.Bool.Decides.{nat_tests}
use Rattle.std.proofs.lemmas.List.Sums.{sum_by-cons}
use Rattle.intmap_table.specs.Bindings.{value_of, HasDistinctKeys, Updates, take_key, put_pair}
use Rattle.intmap_table.proofs.BindingLemmas.{value_of-take_key, value_of-put_pair}
use Rattle.intmap_table.proofs.DistinctLemmas.{HasDistinctKeys-take_key, HasDistinctKeys-put_pair}
use Rattle.intmap.proofs.CostLemmas.{HasDistinctKeys-tail}
use Rattle.intmap.proofs.EqualityLemmas.{value_of-first, value_of-rest}
use Rattle.intmap.proofs.SumLemmas.{sum_by-take_key, sum_by-put_pair}

-- if a value that is there stays, only that of a new key is added
pub sum-new_alone : (o : Option ℕ) (s t v : ℕ) → s + unwrap_or o 0 ≡ t + unwrap_or o v → s ≡ t + cond (is_none o) v 0
sum-new_alone None s t v e = omega (arith, e)
sum-new_alone (Some w) s t v e = omega (arith, e)

module _ {K V : Type 0} (number : K → ℕ) where
  -- two lists with the same values still have them once the first pair's key is removed from both
  value_of-rests : (p : K × V) (L M : List (K × V)) → HasDistinctKeys number (p ∷ L) → HasDistinctKeys number M
      → ((q : K) → value_of number M q ≡ value_of number (p ∷ L) q) → (q : K) → value_of number (take_key number M 2 p.0) q ≡ value_of number L q
  value_of-rests p L M once distinct same q =
      let taken = value_of-take_key number M 2 p.0 q distinct in let gone = value_of-rest number p L once q in let both = same q in
      grind (arith, nat_tests, taken, gone, both)

  module _ (f : V → ℕ) where
    -- a list without any key weighs nothing
    sum_by-absent : (M : List (K × V)) → ((q : K) → value_of number M q ≡ None) → sum_by f (values_of M) ≡ 0
    sum_by-absent [] none = refl
    sum_by-absent (p ∷ M) none = absurd (let missing = none p.0 in let here = value_of-first number p M in cc)

    -- lists with the same values weigh the same
    sum_by-same_values : (L M : List (K × V)) → HasDistinctKeys number L → HasDistinctKeys number M
        → ((q : K) → value_of number M q ≡ value_of number L q) → sum_by f (values_of M) ≡ sum_by f (values_of L)
    sum_by-same_values [] M once distinct same = sum_by-absent M same
    sum_by-same_values (p ∷ L) M once distinct same =
        let rest = sum_by-same_values L (take_key number M 2 p.0) (HasDistinctKeys-tail number p L once) (HasDistinctKeys-take_key number M 2 p.0 distinct) (value_of-rests p L M once distinct same) in
        let found : value_of number M p.0 ≡ Some p.1 = same p.0 ∙ value_of-first number p L in
        let less = rw found at (sum_by-take_key number f M 2 p.0) in
        let more = sum_by-cons f p.1 (values_of L) in
        omega (arith, rest, less, more)

    -- a key with another value, or with none, changes the weight by both
    pub sum_by-Updates : (L M : List (K × V)) (k : K) (w : Option V) → HasDistinctKeys number L → HasDistinctKeys number M → Updates number L M k w
        → sum_by f (values_of M) + unwrap_or (option_map f (value_of number L k)) 0 ≡ sum_by f (values_of L) + unwrap_or (option_map f w) 0
    sum_by-Updates L M k None once distinct updates =
        let same = sum_by-same_values (take_key number L 2 k) M (HasDistinctKeys-take_key number L 2 k once) distinct (λ q. updates.0 q ∙ sym (value_of-take_key number L 2 k q once)) in
        let less = sum_by-take_key number f L 2 k in
        omega (arith, same, less)
    sum_by-Updates L M k (Some v) once distinct updates =
        let same = sum_by-same_values (put_pair number L 2 k v) M (HasDistinctKeys-put_pair number L 2 k v once) distinct (λ q. updates.0 q ∙ sym (value_of-put_pair number L 2 k q v once)) in
        let more = sum_by-put_pair number f L 2 k v in
        omega (arith, same, more)

    -- a value weighs no more than all
    pub sum_by-value_within : (L : List (K × V)) (k : K) → unwrap_or (option_map f (value_of number L k)) 0 ≤ sum_by f (values_of L)
    sum_by-value_within L k = let less = sum_by-take_key number f L 2 k in omega (arith, less)
