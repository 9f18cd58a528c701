-- Which key a pair has at the place where a search ended.
use Rattle.std.proofs.Common.{◌≡◌, ℕ, zero, suc, ◌<◌, Bool, true, List, [], ◌∷◌, length, get_or, Some, IsSome, refl, sym, ap, ◌∙◌, subst, arith}
use Rattle.std.specs.Prelude.{◌==◌, All, position}
use Rattle.std.proofs.lemmas.Bool.{eqb-true}
use Rattle.std.proofs.lemmas.List.{get_or_default}
use Rattle.std.proofs.lemmas.List.Sums.{passes_at_first}
use Rattle.std.proofs.lemmas.List.Elements.{All-filter}
use Rattle.intmap_table.specs.Classes.{slot_number, same_key}
use Rattle.intmap_table.specs.Locations.{IsAt, IsFound, key_at}
use Rattle.intmap_table.specs.Walk.{slot_of}
use Rattle.intmap_table.proofs.WrittenLemmas.{the_key-same}
use Rattle.intmap_table.specs.declared.table.locate.Location.{Location}
use Rattle.intmap_table.proofs.PositionLemmas.{position-within}

module _ {K X : Type 0} where
  pub key_at-get_or : (L : List (K × X)) (i : ℕ) (k : K) → i < length L → ((p : K × X) → k ≡ (get_or L i p).0) → Some k ≡ key_at L i
  key_at-get_or [] i k below is = absurd (omega arith)
  key_at-get_or (p ∷ L) zero k below is = ap (λ q. Some q) (is p)
  key_at-get_or (p ∷ L) (suc i) k below is = key_at-get_or L i k (omega arith) is

module _ {K V : Type 0} (test : K → Bool) (P : K → Type 0) where
  -- the key at place i passes the test, and has what all keys of the list have
  record PassesAt (L : List (K × V)) (i : ℕ) : Type 0 where
    pub key : K
    pub here : key_at L i ≡ Some key
    pub passes : test key ≡ true
    pub own : All (λ p. P p.0) L → P key

  PassesAt-position : (L : List (K × V)) (i : ℕ) → position (λ q. test q.0) L ≡ Some i → PassesAt L i
  PassesAt-position [] i e = let within = (position-within (λ (q : K × V). test q.0) [] i e).1 in absurd (omega (arith, within))
  PassesAt-position (p ∷ L) i e =
      let at = position-within (λ (q : K × V). test q.0) (p ∷ L) i e in let q = get_or (p ∷ L) i p in
      record {
        key = q.0;
        here = sym (key_at-get_or (p ∷ L) i q.0 at.1 (λ d. ap (λ (r : K × V). r.0) (get_or_default (p ∷ L) i p d at.1)));
        passes =
            subst (λ n. test (get_or (p ∷ L) n p).0 ≡ true) at.0 (passes_at_first (λ (r : K × V). test r.0) (p ∷ L) p (subst (λ n. n < length (p ∷ L)) (sym at.0) at.1));
        own = λ all. all i p at.1;
      }

module _ {K V : Type 0} (number : K → ℕ) (is_valid : K → Type 0) where
  -- at the place at which a key was found is that key
  pub key_at-located : ((x y : K) → is_valid x → is_valid y → number x ≡ number y → x ≡ y) → (W : List (K × V)) (C : ℕ) (at : Location K)
      → All (λ p. is_valid p.0) W → is_valid at.key → IsAt number W C at → key_at (slot_of number W C at.slot) at.place ≡ Some at.key
  key_at-located number_injective W C at keys known is =
      let h = PassesAt-position (same_key number at.key) is_valid (slot_of number W C at.slot) at.place is.place in
      let own = h.own (All-filter (λ p. slot_number number p.0 C == at.slot) (λ p. is_valid p.0) W keys) in
      h.here ∙ ap (λ q. Some q) (number_injective h.key at.key own known (eqb-true (number h.key) (number at.key) h.passes))

module _ {K V : Type 0} (number : K → ℕ) where
  -- a pair that was located by the key that it has is found
  pub IsFound-located : (W : List (K × V)) (C : ℕ) (at : Location K) (k : K) → at.key ≡ k → IsAt number W C at → key_at (slot_of number W C at.slot) at.place ≡ Some k → IsFound number W C at.slot at.place
  IsFound-located W C at k is located here =
      let some = subst IsSome (sym here) refl in
      record {
        some = some;
        at = subst (λ q. IsAt number W C (record { key = q; slot = at.slot; place = at.place })) (is ∙ sym (the_key-same _ (Some k) some refl here)) located;
      }
