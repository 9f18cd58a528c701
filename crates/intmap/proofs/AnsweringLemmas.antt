-- What stays of pairs, and what becomes of their values, if a closure answers alike in each call.
use Rattle.std.proofs.Common.{◌≡◌, ℕ, Bool, List, [], ◌∷◌, Option, Some, None, refl, sym, ap, ◌∙◌, subst, arith}
use Rattle.std.specs.Prelude.{cond, filter, map}
use Rattle.std.proofs.lemmas.Bool.Decides.{nat_tests}
use Rattle.intmap_table.specs.Bindings.{HasDistinctKeys, value_of}
use Rattle.intmap_table.specs.Retaining.{Retains}
use Rattle.intmap_table.specs.Writes.{Writes}
use Rattle.intmap_table.proofs.RetainLemmas.{Retains-filter}
use Rattle.intmap.proofs.CostLemmas.{HasDistinctKeys-tail}
use Rattle.intmap.proofs.EqualityLemmas.{value_of-rest}
use Rattle.intmap.proofs.RetainLemmas.{value_of-Retains}

module _ {F X : Type 0} (R : F → X → Bool → F → Type 0) (f : F) where
  -- what stays if each answer is a test of the element alone
  pub Retains-tested : (test : X → Bool) → ((x : X) (b : Bool) (g : F) → R f x b g → (b ≡ test x) × (g ≡ f))
      → (g : F) (L M : List X) → Retains R f L M g → M ≡ filter test L
  Retains-tested test each g L M r =
      Retains-filter R (λ h. h ≡ f) test (λ h x b i own asked. each x b i (subst (λ z. R z x b i) own asked)) f g L M refl r

module _ {F K V : Type 0} (number : K → ℕ) (R : F → K × V → Bool → F → Type 0) (f : F) where
  -- if each answer at a key with this value is b, the key stays or goes by b
  pub value_of-answered_pair : (k : K) (v : V) (b : Bool) → ((p : K × V) (c : Bool) (g : F) → R f p c g → (number p.0 ≡ number k → p.1 ≡ v → c ≡ b) × (g ≡ f))
      → (h : F) (L M : List (K × V)) → Retains R f L M h → HasDistinctKeys number L → value_of number L k ≡ Some v → value_of number M k ≡ cond b (Some v) None
  value_of-answered_pair k v b each h [] M r once is = cc
  value_of-answered_pair k v b each h (p ∷ L) M r once is =
      let told = each p r.0 r.1 r.3 in let behind = subst (λ g. Retains R g L r.2 h) told.1 r.4 in
      let distinct = HasDistinctKeys-tail number p L once in let none = value_of-rest number p L once k in
      let rest = value_of-answered_pair k v b each h L r.2 behind distinct in let left = value_of-Retains number R k f h L r.2 behind distinct in
      let answer = told.0 in
      ap (λ N. value_of number N k) r.5 ∙ grind (arith, nat_tests, none, rest, left, answer, is)

  -- if each answer at a key is b, the key has its value or none by b
  pub value_of-answered_key : (k : K) (b : Bool) → ((p : K × V) (c : Bool) (g : F) → R f p c g → (number p.0 ≡ number k → c ≡ b) × (g ≡ f))
      → (h : F) (L M : List (K × V)) → Retains R f L M h → HasDistinctKeys number L → value_of number M k ≡ cond b (value_of number L k) None
  value_of-answered_key k b each h L M r once = at (value_of number L k) refl
    where
      at : (o : Option V) → value_of number L k ≡ o → value_of number M k ≡ cond b (value_of number L k) None
      at None none = let left = value_of-Retains number R k f h L M r once in grind (arith, left, none)
      at (Some v) is =
          value_of-answered_pair k v b (λ p c g asked. let told = each p c g asked in (λ key _. told.0 key, told.1)) h L M r once is ∙ ap (λ o. cond b o None) (sym is)

module _ {F K V : Type 0} (R : F → K × V → V → F → Type 0) (f : F) where
  -- the pairs if each is made of the one that was there
  pub Writes-made : (made : K × V → K × V) → ((p : K × V) (w : V) (g : F) → R f p w g → (made p ≡ (p.0, w)) × (g ≡ f))
      → (h g : F) (L M : List (K × V)) → g ≡ f → Writes R g L M h → M ≡ map made L
  Writes-made made each h g [] M own r = r.0
  Writes-made made each h g (p ∷ L) M own r =
      let here = each p r.0 r.1 (subst (λ z. R z p r.0 r.1) own r.3) in
      let rest = Writes-made made each h r.1 L r.2 here.1 r.4 in
      r.5 ∙ (λ i. sym here.0 i ∷ rest i)

module _ {F K V : Type 0} (number : K → ℕ) (R : F → K × V → V → F → Type 0) (f : F) where
  -- the value of a key if each call leaves w at it where v was
  pub value_of-made : (k : K) (v w : V) → ((p : K × V) (u : V) (g : F) → R f p u g → (number p.0 ≡ number k → p.1 ≡ v → u ≡ w) × (g ≡ f))
      → (h : F) (L M : List (K × V)) → Writes R f L M h → value_of number L k ≡ Some v → value_of number M k ≡ Some w
  value_of-made k v w each h [] M r is = cc
  value_of-made k v w each h (p ∷ L) M r is =
      let told = each p r.0 r.1 r.3 in
      let rest = value_of-made k v w each h L r.2 (subst (λ g. Writes R g L r.2 h) told.1 r.4) in
      let here = told.0 in
      ap (λ N. value_of number N k) r.5 ∙ grind (arith, nat_tests, rest, here, is)
