-- What the equality of maps is once their lengths are compared.
use Rattle.std.proofs.Common.{◌≡◌, inl, inr, ℕ, ◌≤◌, Bool, true, false, cond, ◌&&◌, List, [], ◌∷◌, length, get_or, Option, Some, None, refl, ap, ◌∙◌, arith}
use Rattle.std.specs.Prelude.{All, IsTrue}
use Rattle.std.specs.Cmp.{IsPartialEquivalence, first_so, second_so}
use Rattle.std.specs.List.{list_all}
use Rattle.std.specs.Option.{option_eq}
use Rattle.std.proofs.lemmas.Bool.{cases_Bool, eq-eqb}
use Rattle.std.proofs.lemmas.Grind.{common_steps}
use Rattle.std.proofs.lemmas.List.Elements.{All-nil, All-cons, All-head, All-tail}
use Rattle.std.proofs.lemmas.Bool.Decides.{nat_tests}
use Rattle.intmap.proofs.CountLemmas.{count_by-cons}
use Rattle.intmap_table.specs.Classes.{same_key}
use Rattle.intmap_table.specs.Bindings.{value_of, HasDistinctKeys, take_key, put_pair}
use Rattle.intmap.specs.Equality.{are_present_alike, maps_equal}
use Rattle.intmap.specs.Laws.EqualityLaws.{unbound-or_alike, are_present_alike-from_BindSame}
use Rattle.intmap_table.proofs.BindSameLemmas.{value_of-same_number, option_eq-symm}
use Rattle.intmap.specs.Map.{MapState}
use Rattle.intmap_table.proofs.BindingLemmas.{first_value-unmatched, value_of-take_key, value_of-put_pair}
use Rattle.intmap_table.proofs.DistinctLemmas.{length-take_key, length-put_pair, HasDistinctKeys-take_key, HasDistinctKeys-put_pair}
use Rattle.intmap.proofs.CostLemmas.{HasDistinctKeys-tail}

module _ {K V : Type 0} (number : K → ℕ) where
  -- M has each key that L has
  abbrev pub KeysWithin : List (K × V) → List (K × V) → Type 0
  KeysWithin L M = (q : K) → value_of number M q ≡ None → value_of number L q ≡ None

  -- a pair's own key is found
  pub value_of-first : (p : K × V) (L : List (K × V)) → value_of number (p ∷ L) p.0 ≡ Some p.1
  value_of-first p L = ap (λ b. cond b (Some p.1) (value_of number L p.0)) (eq-eqb (number p.0) (number p.0) refl)

  -- the first pair's key is absent behind it
  pub value_of-rest : (p : K × V) (L : List (K × V)) → HasDistinctKeys number (p ∷ L) → (q : K) → same_key number q p.0 ≡ true → value_of number L q ≡ None
  value_of-rest p L once q found =
      let more = count_by-cons (λ r. same_key number q r.0) p L in let few = once q in first_value-unmatched (same_key number q) L (grind (arith, more, few, found))

  -- with the first pair's key removed from both, the one is within the other
  KeysWithin-rest : (p : K × V) (L M : List (K × V)) → HasDistinctKeys number (p ∷ L) → HasDistinctKeys number M → KeysWithin (p ∷ L) M → KeysWithin L (take_key number M 2 p.0)
  KeysWithin-rest p L M once distinct within q none =
      let taken = value_of-take_key number M 2 p.0 q distinct in let first = value_of-rest p L once q in let gone = within q in grind (arith, nat_tests, taken, first, gone, none)

  -- if M has each key that L has, it is no shorter
  length-KeysWithin : (L M : List (K × V)) → HasDistinctKeys number L → HasDistinctKeys number M → KeysWithin L M → length L ≤ length M
  length-KeysWithin [] M once distinct within = omega arith
  length-KeysWithin (p ∷ L) M once distinct within =
      let rest = length-KeysWithin L (take_key number M 2 p.0) (HasDistinctKeys-tail number p L once) (HasDistinctKeys-take_key number M 2 p.0 distinct) (KeysWithin-rest p L M once distinct within) in
      let less = length-take_key number M 2 p.0 in
      let first = value_of-first p L in
      let found = within p.0 in
      grind (arith, common_steps, rest, less, first, found)

  -- if M has each key that L has and is as long, L has each key that M has
  KeysWithin-turned : (L M : List (K × V)) → HasDistinctKeys number L → HasDistinctKeys number M → length L ≡ length M → KeysWithin L M → KeysWithin M L
  KeysWithin-turned L M once distinct same within q none = at (value_of number M q) refl
    where
      at : (o : Option V) → value_of number M q ≡ o → o ≡ None
      at None is = refl
      at (Some v) is =
          let within_too : KeysWithin (put_pair number L 2 q v) M = λ j missing.
          let put = value_of-put_pair number L 2 q j v once in let before = within j missing in let as_q = value_of-same_number number M j q in
          grind (arith, nat_tests, put, before, as_q, missing, is) in
          let longer = length-KeysWithin (put_pair number L 2 q v) M (HasDistinctKeys-put_pair number L 2 q v once) distinct within_too in
          let more = length-put_pair number L 2 q v in
          absurd (grind (arith, common_steps, longer, more, none, same))

  -- each pair is found
  pub All-found : (L : List (K × V)) → HasDistinctKeys number L → All (λ p. value_of number L p.0 ≡ Some p.1) L
  All-found [] once = All-nil (λ p. value_of number [] p.0 ≡ Some p.1)
  All-found (p ∷ L) once =
      let rest = All-found L (HasDistinctKeys-tail number p L once) in
      All-cons (λ q. value_of number (p ∷ L) q.0 ≡ Some q.1) p L (value_of-first p L)
      (λ i d below. let found = rest i d below in let none = value_of-rest p L once (get_or L i d).0 in grind (arith, found, none))

module _ {K V : Type 0} (number : K → ℕ) (equal : V → V → Bool) where
  -- each pair of P is found in M, with an equal value
  abbrev pub are_found : List (K × V) → List (K × V) → Bool
  are_found P M = list_all (λ p. option_eq equal (Some p.1) (value_of number M p.0)) P

  -- looking up the pairs that are found in L compares the values of L and M
  are_present_alike-part : (L M P : List (K × V)) → All (λ p. value_of number L p.0 ≡ Some p.1) P → list_all (λ p. option_eq equal (value_of number L p.0) (value_of number M p.0)) P ≡ are_found P M
  are_present_alike-part L M [] found = refl
  are_present_alike-part L M (p ∷ P) found =
      let here = All-head (λ (q : K × V). value_of number L q.0 ≡ Some q.1) p P found in
      let rest = are_present_alike-part L M P (All-tail (λ (q : K × V). value_of number L q.0 ≡ Some q.1) p P found) in
      λ i. option_eq equal (here i) (value_of number M p.0) && rest i

  -- keys that have equal values are present
  KeysWithin-alike : (L M : List (K × V)) → are_present_alike number equal L M ≡ true → KeysWithin number L M
  KeysWithin-alike L M all q none = let either = unbound-or_alike number equal L M q all in grind (arith, either, none)

  -- if each key of L has equal values in M, which is as long, each key of M is in L
  are_present_alike-turned : IsPartialEquivalence equal → (L M : List (K × V)) → HasDistinctKeys number L → HasDistinctKeys number M → length L ≡ length M
      → are_present_alike number equal L M ≡ true → are_present_alike number equal M L ≡ true
  are_present_alike-turned values L M once distinct same all =
      are_present_alike-from_BindSame number equal M L (λ q. elim (unbound-or_alike number equal L M q all) [
        | inl none ↦
            (let missing = KeysWithin-turned number L M once distinct same (KeysWithin-alike L M all) q none in
            λ i. option_eq equal (missing i) (none i))
        | inr alike ↦ option_eq-symm equal values.symm (value_of number M q) (value_of number L q) ∙ alike
      ])

  -- equality of maps of one length is to look the pairs of one up in the other
  pub maps_equal-same_length : IsPartialEquivalence equal → (m n : MapState K V) → HasDistinctKeys number m.walk → HasDistinctKeys number n.walk → length m.walk ≡ length n.walk
      → maps_equal number equal m n ≡ are_found m.walk n.walk
  maps_equal-same_length values m n once distinct same =
      let turned = are_present_alike-turned values m.walk n.walk once distinct same in
      let found = are_present_alike-part m.walk n.walk m.walk (All-found number m.walk once) in grind (arith, turned, found)

  -- equal maps are as long
  pub length-maps_equal : (m n : MapState K V) → HasDistinctKeys number m.walk → HasDistinctKeys number n.walk → IsTrue (maps_equal number equal m n) → length m.walk ≡ length n.walk
  length-maps_equal m n once distinct both =
      let there = length-KeysWithin number m.walk n.walk once distinct (KeysWithin-alike m.walk n.walk (first_so (are_present_alike number equal m.walk n.walk) _ both)) in
      let back = length-KeysWithin number n.walk m.walk distinct once (KeysWithin-alike n.walk m.walk (second_so (are_present_alike number equal m.walk n.walk) _ both)) in
      omega (arith, there, back)

  -- so maps of other lengths aren't equal
  pub maps_equal-other_length : (m n : MapState K V) → HasDistinctKeys number m.walk → HasDistinctKeys number n.walk → (length m.walk ≡ length n.walk → ⊥) → maps_equal number equal m n ≡ false
  maps_equal-other_length m n once distinct other = elim (cases_Bool (maps_equal number equal m n)) [ inl both ↦ absurd (other (length-maps_equal m n once distinct both)) | inr differ ↦ differ ]
