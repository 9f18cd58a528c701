-- A closure that asks another one about the keys of pairs goes as that one does over the keys.
use Rattle.std.proofs.Common.{◌≡◌, ◌∙◌, Bool, true, false, cond, ◌&&◌, ◌||◌, List, [], ◌∷◌, ℕ, refl, sym, ap, subst}
use Rattle.std.proofs.lemmas.Bool.{eqb-true, true≢false}
use Rattle.std.specs.Map.{keys_of}
use Rattle.std.specs.Prelude.{◌⊎◌, None, is_some}
use Rattle.std.proofs.Common.{inl, inr}
use Rattle.intmap.specs.Bindings.{value_of}
use Rattle.intmap.specs.Classes.{same_key}
use Rattle.intmap.specs.Map.{MapState}
use Rattle.intmap.specs.Retaining.{Retains}
use Rattle.intmap.specs.Taking.{TakesEach, TakesEach-from}
use Rattle.intmap_set.specs.Sets.{SetState, holds, set_of}
use Rattle.intmap_set.proofs.MemberLemmas.{holds-keys_of, holds-seen}

-- the keys of what stays
keys_of-cond : {K V : Type 0} (b : Bool) (p : K × V) (N : List (K × V)) → keys_of (cond b (p ∷ N) N) ≡ cond b (p.0 ∷ keys_of N) (keys_of N)
keys_of-cond true p N = refl
keys_of-cond false p N = refl

module _ {C F K V : Type 0} (R : C → K × V → Bool → C → Type 0) (S : F → K → Bool → F → Type 0) (inner : C → F)
    (each : (c : C) (p : K × V) (b : Bool) (d : C) → R c p b d → S (inner c) p.0 b (inner d)) where
  -- what stays of the keys is what stays of the pairs
  pub Retains-inner : (c d : C) (L M : List (K × V)) → Retains R c L M d → Retains S (inner c) (keys_of L) (keys_of M) (inner d)
  Retains-inner c d [] M r = (ap keys_of r.0, ap inner r.1)
  Retains-inner c d (p ∷ L) M r =
      (r.0, inner r.1, keys_of r.2, each c p r.0 r.1 r.3, Retains-inner r.1 d L r.2 r.4, ap keys_of r.5 ∙ keys_of-cond r.0 p r.2)

  -- it can be asked about each pair if the other one can about each key
  pub TakesEach-inner : (Q : F → K → Type 0) (P : C → K × V → Type 0) → ((c : C) (p : K × V) → Q (inner c) p.0 → P c p)
      → (c : C) (L : List (K × V)) → TakesEach S Q (inner c) (keys_of L) → TakesEach R P c L
  TakesEach-inner Q P asks c L takes =
      TakesEach-from R P (λ d rest. TakesEach S Q (inner d) (keys_of rest))
      (λ d p rest own. (
        asks d p (own.at [] (keys_of rest) p.0 (inner d) refl refl),
        λ b e asked. record { at = λ before after x g is passed. own.at (p.0 ∷ before) after x g (ap (λ N. p.0 ∷ N) is) (inner e, (b, each d p b e asked), passed) },
      ))
      c L takes

module _ {K : Type 0} (number : K → ℕ) where
  -- a key that stays present or goes stays a member or goes
  pub kept-seen : (m n : MapState K (Unit {0})) (s : SetState K) → set_of m ≡ s
      → ((q : K) → (value_of number n.walk q ≡ value_of number m.walk q) ⊎ (value_of number n.walk q ≡ None))
      → (q : K) → (holds number (keys_of n.walk) q ≡ holds number s.walk q) ⊎ (holds number (keys_of n.walk) q ≡ false)
  kept-seen m n s seen updates q = at (updates q)
    where
      at : (value_of number n.walk q ≡ value_of number m.walk q) ⊎ (value_of number n.walk q ≡ None)
          → (holds number (keys_of n.walk) q ≡ holds number s.walk q) ⊎ (holds number (keys_of n.walk) q ≡ false)
      at (inl same) = inl (holds-keys_of number n.walk q ∙ ap is_some same ∙ sym (holds-seen number m s q seen))
      at (inr none) = inr (holds-keys_of number n.walk q ∙ ap is_some none)

-- whether a key stays, by whether it is the one that is asked about
stays-step : (same c b n l : Bool) → (same ≡ true → c ≡ b) → n ≡ (b && l) → cond c (same || n) n ≡ (b && (same || l))
stays-step true true true n l told rest = refl
stays-step true true false n l told rest = absurd (true≢false (told refl))
stays-step true false true n l told rest = absurd (true≢false (sym (told refl)))
stays-step true false false n l told rest = rest
stays-step false true b n l told rest = rest
stays-step false false b n l told rest = rest

module _ {F K : Type 0} (number : K → ℕ) (R : F → K → Bool → F → Type 0) (f : F) where
  holds-cond : (c : Bool) (k : K) (N : List K) (q : K) → holds number (cond c (k ∷ N) N) q ≡ cond c (same_key number q k || holds number N q) (holds number N q)
  holds-cond true k N q = refl
  holds-cond false k N q = refl

  and-false : (b : Bool) → false ≡ (b && false)
  and-false true = refl
  and-false false = refl

  -- if each answer at a key is b, the key stays or goes by b
  pub holds-answered : (q : K) (b : Bool) → ((k : K) (c : Bool) (g : F) → R f k c g → (number k ≡ number q → c ≡ b) × (g ≡ f))
      → (g h : F) (L M : List K) → g ≡ f → Retains R g L M h → holds number M q ≡ (b && holds number L q)
  holds-answered q b each g h [] M own r = ap (λ W. holds number W q) r.0 ∙ and-false b
  holds-answered q b each g h (k ∷ L) M own r =
      let here = each k r.0 r.1 (subst (λ z. R z k r.0 r.1) own r.3) in
      let rest = holds-answered q b each r.1 h L r.2 here.1 r.4 in
      ap (λ W. holds number W q) r.5 ∙ holds-cond r.0 k r.2 q
      ∙ stays-step (same_key number q k) r.0 b (holds number r.2 q) (holds number L q) (λ same. here.0 (eqb-true (number k) (number q) same)) rest
