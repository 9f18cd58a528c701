-- What insertions in turn leave, one key after another.
use Rattle.std.proofs.Common.{◌≡◌, inl, inr, ℕ, ◌+◌, Bool, true, false, cond, List, [], ◌∷◌, ◌++◌, length, refl, sym, ap, subst, ◌∙◌, add-zero, arith}
use Rattle.std.proofs.lemmas.Bool.{cases_eq, eqb-true, eq-eqb, ne_eqb, true≢false}
use Rattle.std.proofs.lemmas.List.Folds.{list_any-append}
use Rattle.std.specs.Prelude.{◌||◌}
use Rattle.intmap.specs.Bindings.{value_of}
use Rattle.intmap.specs.Classes.{same_key}
use Rattle.intmap.specs.Extending.{new_keys}
use Rattle.intmap.proofs.CostLemmas.{capacity-not_less}
use Rattle.intmap_set.specs.Sets.{SetState, holds, load_factor, paired}
use Rattle.intmap_set.specs.Extending.{Inserts, InsertsAll, IsExtended}
use Rattle.intmap_set.proofs.MemberLemmas.{holds-paired, holds-same_number}

-- a second of two that follows from the first adds nothing
or-absorbed : (a b c : Bool) → (b ≡ true → a ≡ true) → (a || c) ≡ (a || (b || c))
or-absorbed true b c follows = refl
or-absorbed false true c follows = absurd (true≢false (sym (follows refl)))
or-absorbed false false c follows = refl

-- three in another order
or-turned : (a b c : Bool) → ((b || a) || c) ≡ (a || (b || c))
or-turned true true c = refl
or-turned true false c = refl
or-turned false true c = refl
or-turned false false c = refl

-- one more at the end
or-last : (a b s : Bool) → cond s true (a || b) ≡ (a || (b || (s || false)))
or-last true b true = refl
or-last true b false = refl
or-last false true true = refl
or-last false true false = refl
or-last false false true = refl
or-last false false false = refl

module _ {K : Type 0} (number : K → ℕ) where
  -- keys are the same from either side
  pub same_key-turned : (j k : K) → same_key number j k ≡ same_key number k j
  same_key-turned j k = elim (cases_eq (number k) (number j)) [
    | inl same ↦ eq-eqb (number k) (number j) same ∙ sym (eq-eqb (number j) (number k) (sym same))
    | inr apart ↦ ne_eqb (number k) (number j) apart ∙ sym (ne_eqb (number j) (number k) (λ same. apart (sym same)))
  ]

  -- a key that is a member is one under each name
  same_key-holds : (W : List K) (j k : K) → holds number W j ≡ true → same_key number k j ≡ true → holds number W k ≡ true
  same_key-holds W j k here is = holds-same_number number W k j (sym (eqb-true (number j) (number k) is)) ∙ here

  -- the keys of pairs with () that are new, one after another
  pub new_keys-paired : (W : List K) (k : K) (ks : List K) → new_keys number (paired W) (paired (k ∷ ks))
      ≡ cond (holds number W k) (new_keys number (paired W) (paired ks)) (k ∷ new_keys number (paired (k ∷ W)) (paired ks))
  new_keys-paired W k ks = ap (λ b. cond b (new_keys number (paired W) (paired ks)) (k ∷ new_keys number (paired (k ∷ W)) (paired ks))) (sym (holds-paired number W k))

  -- how many keys are new
  abbrev pub count_new : List K → List K → ℕ
  count_new W ks = length (new_keys number (paired W) (paired ks))

  -- one key more is new if it is neither a member nor among those before
  pub count_new-push : (W ks : List K) (k : K) → count_new W (ks ++ k ∷ []) ≡ count_new W ks + cond (holds number W k || holds number ks k) 0 1
  count_new-push W [] k = ap length (new_keys-paired W k []) ∙ at (holds number W k)
    where
      at : (b : Bool) → length (cond b [] (k ∷ [])) ≡ 0 + cond {A = ℕ} (b || false) 0 1
      at true = refl
      at false = refl
  count_new-push W (j ∷ ks) k =
      ap length (new_keys-paired W j (ks ++ k ∷ [])) ∙ at (holds number W j) refl (count_new-push W ks k) (count_new-push (j ∷ W) ks k)
      ∙ ap (λ l. length l + cond (holds number W k || holds number (j ∷ ks) k) 0 1) (sym (new_keys-paired W j ks))
    where
      at : (b : Bool) → holds number W j ≡ b
          → count_new W (ks ++ k ∷ []) ≡ count_new W ks + cond (holds number W k || holds number ks k) 0 1
          → count_new (j ∷ W) (ks ++ k ∷ []) ≡ count_new (j ∷ W) ks + cond (holds number (j ∷ W) k || holds number ks k) 0 1
          → length (cond b (new_keys number (paired W) (paired (ks ++ k ∷ []))) (j ∷ new_keys number (paired (j ∷ W)) (paired (ks ++ k ∷ []))))
          ≡ length (cond b (new_keys number (paired W) (paired ks)) (j ∷ new_keys number (paired (j ∷ W)) (paired ks))) + cond (holds number W k || holds number (j ∷ ks) k) 0 1
      at true here rest other =
          rest ∙ ap (λ b. count_new W ks + cond b 0 1) (or-absorbed (holds number W k) (same_key number k j) (holds number ks k) (same_key-holds W j k here))
      at false here other rest =
          let more = rest ∙ ap (λ b. count_new (j ∷ W) ks + cond b 0 1) (or-turned (holds number W k) (same_key number k j) (holds number ks k)) in
          omega (arith, more)

module _ {K : Type 0} (number : K → ℕ) (is_valid : K → Type 0) where
  -- one successful insertion more
  InsertsAll-push : (s u t : SetState K) (ks : List K) (k : K) → InsertsAll number is_valid s ks u → Inserts number is_valid u k t → InsertsAll number is_valid s (ks ++ k ∷ []) t
  InsertsAll-push s u t [] k before last = (t, subst (λ x. Inserts number is_valid x k t) before last, refl)
  InsertsAll-push s u t (j ∷ ks) k before last = (before.0, before.1, InsertsAll-push before.0 u t ks k before.2 last)

  -- no insertion
  pub IsExtended-nil : (s : SetState K) → IsExtended number is_valid s [] s
  IsExtended-nil s = record { inserted = refl; updates = λ q. or-none (holds number s.walk q); len = sym (add-zero (length s.walk)); capacity = omega arith }
    where
      or-none : (b : Bool) → b ≡ (b || false)
      or-none true = refl
      or-none false = refl

  module _ (s u t : SetState K) (ks : List K) (k : K) (before : IsExtended number is_valid s ks u) (last : Inserts number is_valid u k t) where
    -- one insertion more
    pub IsExtended-push : IsExtended number is_valid s (ks ++ k ∷ []) t
    IsExtended-push = record {
      inserted = InsertsAll-push s u t ks k before.inserted last;
      updates = λ q.
          last.updates.0 q ∙ (λ i. cond (same_key-turned number k q i) true (before.updates q i))
          ∙ or-last (holds number s.walk q) (holds number ks q) (same_key number q k)
          ∙ ap (λ b. holds number s.walk q || b) (sym (list_any-append (same_key number q) ks (k ∷ [])));
      len =
          (let more = count_new-push number s.walk ks k in
          let counted : cond {A = ℕ} (holds number u.walk k) 0 1 ≡ cond {A = ℕ} (holds number s.walk k || holds number ks k) 0 1 = ap (λ b. cond b 0 1) (before.updates k) in
          let start = before.len in
          let one = last.len in
          omega (arith, one, more, counted, start));
      capacity =
          (let kept = capacity-not_less (value_of number (paired u.walk) k) u.capacity (length (paired u.walk) + 1) load_factor t.capacity last.inserted.fits.capacity in
          let start = before.capacity in
          omega (arith, kept, start));
    }
