-- What insertions in turn leave, one pair after another.
use Rattle.std.proofs.Common.{◌≡◌, inl, inr, ℕ, ◌+◌, ◌≤◌, cond, List, [], ◌∷◌, ◌++◌, length, reverse, is_some, Option, Some, None, refl, sym, ap, subst, ◌∙◌, add-zero, arith}
use Rattle.std.specs.Prelude.{◌↔◌, ◌⊎◌, ◌<◌, ◌^◌, Result, Ok, Err, IsErrAnd, MatchResult}
use Rattle.std.specs.Iterator.{Yields, YieldsThen}
use Rattle.std.specs.Option.{option_or}
use Rattle.std.specs.Vec.Iter.{into_iter_items, into_iter_steps}
use Rattle.std.specs.declared.vec.IntoIter.{IntoIter}
use Rattle.std.proofs.lemmas.Bool.{cases_lt}
use Rattle.std.proofs.lemmas.Bool.Decides.{nat_tests}
use Rattle.std.proofs.lemmas.List.{reverse-append}
use Rattle.intmap_table.specs.Bindings.{value_of}
use Rattle.intmap_table.specs.Classes.{same_key}
use Rattle.intmap_table.proofs.BindSameLemmas.{value_of-same_number}
use Rattle.intmap.specs.Extending.{MapInsertsAll, new_keys, IsExtended}
use Rattle.intmap.specs.Insertions.{MapInserts}
use Rattle.intmap.specs.Map.{MapState}
use Rattle.intmap.specs.declared.refusal.Cause.{Cause}
use Rattle.intmap.specs.declared.refusal.Cause.TheVariants.{Memory, TooLarge}
use Rattle.intmap.proofs.CostLemmas.{capacity-not_less}

module _ {K V : Type 0} (number : K → ℕ) where
  -- a list in front of another
  pub value_of-append : (L M : List (K × V)) (q : K) → value_of number (L ++ M) q ≡ option_or (value_of number L q) (value_of number M q)
  value_of-append [] M q = refl
  value_of-append (p ∷ L) M q = let rest = value_of-append L M q in grind (arith, rest)

  -- the last pair is the first from the back
  value_of-reverse_push : (ps : List (K × V)) (k q : K) (v : V) → value_of number (reverse (ps ++ (k, v) ∷ [])) q ≡ cond (same_key number q k) (Some v) (value_of number (reverse ps) q)
  value_of-reverse_push ps k q v = ap (λ L. value_of number L q) (reverse-append ps ((k, v) ∷ []))

  -- one key more is new if it is neither present nor among those before
  length-new_keys-push : (L ps : List (K × V)) (k : K) (v : V)
      → length (new_keys number L (ps ++ (k, v) ∷ [])) ≡ length (new_keys number L ps) + cond (is_some (option_or (value_of number (reverse ps) k) (value_of number L k))) 0 1
  length-new_keys-push L [] k v = grind arith
  length-new_keys-push L (p ∷ ps) k v =
      let here = length-new_keys-push L ps k v in let later = length-new_keys-push (p ∷ L) ps k v in
      let there = ap (λ M. value_of number M k) (reverse-append (p ∷ []) ps) ∙ value_of-append (reverse ps) (p ∷ []) k in
      let same = value_of-same_number number L k p.0 in
      grind (arith, nat_tests, here, later, there, same)

  -- no more keys are new than there are pairs
  pub length-new_keys : (L ps : List (K × V)) → length (new_keys number L ps) ≤ length ps
  length-new_keys L [] = omega arith
  length-new_keys L (p ∷ ps) = let rest = length-new_keys L ps in let more = length-new_keys (p ∷ L) ps in grind (arith, rest, more)

module _ {K V : Type 0} (number : K → ℕ) (is_valid : K → Type 0) where
  -- one accepted insertion more
  pub MapInsertsAll-push : (m l n : MapState K V) (ps : List (K × V)) (k : K) (v : V) → MapInsertsAll number is_valid m ps l → MapInserts number is_valid l k v n
      → MapInsertsAll number is_valid m (ps ++ (k, v) ∷ []) n
  MapInsertsAll-push m l n [] k v before last = (n, subst (λ x. MapInserts number is_valid x k v n) before last, refl)
  MapInsertsAll-push m l n (p ∷ ps) k v before last = (before.0, before.1, MapInsertsAll-push before.0 l n ps k v before.2 last)

  -- no insertion
  pub IsExtended-nil : (m : MapState K V) → IsExtended number is_valid m [] m
  IsExtended-nil m = record { inserted = refl; updates = λ q. refl; len = sym (add-zero (length m.walk)); factor = refl; capacity = omega arith }

  module _ (m l n : MapState K V) (ps : List (K × V)) (k : K) (v : V) (before : IsExtended number is_valid m ps l) (last : MapInserts number is_valid l k v n) where
    -- one insertion more
    pub IsExtended-push : IsExtended number is_valid m (ps ++ (k, v) ∷ []) n
    IsExtended-push = record {
      inserted = MapInsertsAll-push m l n ps k v before.inserted last;
      updates = λ q.
          let after = last.inserted.updates.0 q in let turned = value_of-reverse_push number ps k q v in let old = before.updates q in
          grind (arith, nat_tests, after, turned, old);
      len =
          (let more = length-new_keys-push number m.walk ps k v in
          let bound : cond {A = ℕ} (is_some (value_of number l.walk k)) 0 1 ≡ cond {A = ℕ} (is_some (option_or (value_of number (reverse ps) k) (value_of number m.walk k))) 0 1 =
          ap (λ o. cond (is_some o) 0 1) (before.updates k) in
          let start = before.len in
          omega (arith, last.inserted.len, more, bound, start));
      factor = ap (λ x. x.factor) last.state ∙ before.factor;
      capacity =
          (let kept = capacity-not_less (value_of number l.walk k) l.capacity (length l.walk + 1) l.factor n.capacity last.inserted.fits.capacity in
          let start = before.capacity in
          omega (arith, kept, start));
    }

-- nothing stands behind what is found
pub option_or-none : {T : Type 0} (o : Option T) → option_or o None ≡ o
option_or-none None = refl
option_or-none (Some t) = refl

-- a result that fails with a cause that meets R fails with one that meets what follows of R
pub MatchResult-refused : {T E : Type 0} (r : Result T E) (R P : E → Type 0) (Q : T → Type 0) → IsErrAnd r R → ((cause : E) → R cause → P cause) → MatchResult r Q P
MatchResult-refused (Ok t) R P Q refused follows = absurd refused
MatchResult-refused (Err cause) R P Q refused follows = follows cause refused

-- a failure, in place of a T
abbrev pub refusal_of : (T : Type 0) → Cause → Result T Cause
refusal_of T cause = Err cause

-- the cause of a map that could not be made with so many slots
pub cause-with_slots : {T : Type 0} (cause : Cause) (b : ℕ) → ((refusal_of T cause) ≡ (refusal_of T TooLarge)) ↔ (2 ^ 63 < b) → ((cause ≡ TooLarge) × (2 ^ 63 < b)) ⊎ ((cause ≡ Memory) × (b ≤ 2 ^ 63))
cause-with_slots TooLarge b large = inl (refl, large.0 refl)
cause-with_slots Memory b large = elim (cases_lt (2 ^ 63) b) [
  | inl more ↦ (let no = large.1 more in cc)
  | inr within ↦ inr (refl, within)
]

-- what a list by value gave comes before what is left of it
items-yielded : {X Z : Type 0} (s : IntoIter X Z) (xs : List X) (t : IntoIter X Z) → Yields into_iter_steps s xs t → into_iter_items s ≡ xs ++ into_iter_items t
items-yielded s [] t h = ap into_iter_items h
items-yielded s (x ∷ xs) t h = h.1.0 ∙ ap (λ ys. x ∷ ys) (items-yielded h.0 xs t h.2)

-- and so it does with one more
pub items-yielded_then : {X Z : Type 0} (s : IntoIter X Z) (xs : List X) (x : X) (t : IntoIter X Z) → YieldsThen into_iter_steps s xs (Some x) t → into_iter_items s ≡ xs ++ x ∷ into_iter_items t
items-yielded_then s xs x t h = items-yielded s xs h.0 h.1 ∙ ap (λ ys. xs ++ ys) h.2.0
