-- The lists of two sets have each key once, and so a set made of such a list has exactly its keys as members.
use Rattle.std.proofs.Common.{◌≡◌, ◌∙◌, ℕ, ◌+◌, ◌≤◌, Bool, true, false, cond, List, [], ◌∷◌, ◌++◌, refl, sym, ap, filter, length, arith}
use Rattle.std.proofs.lemmas.Bool.{eqb-true, true≢false}
use Rattle.std.proofs.lemmas.List.Sums.{sum_by-append}
use Rattle.std.proofs.Math.Bool.{and_comm}
use Rattle.std.specs.List.{list_any, count_by}
use Rattle.std.specs.Prelude.{◌&&◌, ◌||◌, not, nat_lt}
use Rattle.intmap.specs.Bindings.{HasDistinctKeys}
use Rattle.intmap.specs.Classes.{same_key}
use Rattle.intmap_set.specs.Sets.{holds, paired}
use Rattle.intmap_set.specs.Combined.{IsDisjoint, common_of, difference_of, intersection_of, symmetric_difference_of, union_of}
use Rattle.intmap.specs.Extending.{new_keys}
use Rattle.intmap.proofs.CountLemmas.{count_by-cons, list_any-uncounted}
use Rattle.intmap_set.proofs.CombinedLemmas.{IsDifference-difference_of}
use Rattle.intmap_set.proofs.ExtendLemmas.{new_keys-paired}
use Rattle.intmap_set.proofs.MemberLemmas.{holds-same_number, same_key-itself}

module _ {X : Type 0} where
  -- if none passes, none is counted
  count_by-none : (p : X → Bool) (xs : List X) → list_any p xs ≡ false → count_by p xs ≡ 0
  count_by-none p [] none = refl
  count_by-none p (x ∷ xs) none = count_by-cons p x xs ∙ at (p x) none (count_by-none p xs)
    where
      at : (b : Bool) → (b || list_any p xs) ≡ false → (list_any p xs ≡ false → count_by p xs ≡ 0) → cond b 1 0 + count_by p xs ≡ 0
      at true is rest = absurd (true≢false is)
      at false is rest = let none = rest is in omega (arith, none)

  -- no more are counted among those that are kept
  count_by-filter : (p test : X → Bool) (xs : List X) → count_by p (filter test xs) ≤ count_by p xs
  count_by-filter p test [] = omega arith
  count_by-filter p test (x ∷ xs) = at (test x) (count_by-filter p test xs) (count_by-cons p x xs) (count_by-cons p x (filter test xs))
    where
      at : (b : Bool) → count_by p (filter test xs) ≤ count_by p xs → count_by p (x ∷ xs) ≡ cond (p x) 1 0 + count_by p xs
          → count_by p (x ∷ filter test xs) ≡ cond (p x) 1 0 + count_by p (filter test xs)
          → count_by p (cond b (x ∷ filter test xs) (filter test xs)) ≤ count_by p (x ∷ xs)
      at true rest all kept = omega (arith, rest, all, kept)
      at false rest all kept = omega (arith, rest, all)

module _ {K : Type 0} (number : K → ℕ) where
  -- no key occurs twice
  abbrev IsOnce : List K → Type 0
  IsOnce W = (k : K) → count_by (same_key number k) W ≤ 1

  -- counted along the pairs
  count_by-paired : (k : K) (W : List K) → count_by (λ p. same_key number k p.0) (paired W) ≡ count_by (same_key number k) W
  count_by-paired k [] = refl
  count_by-paired k (w ∷ W) =
      count_by-cons (λ p. same_key number k p.0) (w, tt) (paired W) ∙ ap (λ n. cond (same_key number k w) 1 0 + n) (count_by-paired k W) ∙ sym (count_by-cons (same_key number k) w W)

  -- distinct keys occur once
  IsOnce-distinct : (W : List K) → HasDistinctKeys number (paired W) → IsOnce W
  IsOnce-distinct W distinct k = let is = count_by-paired k W in let most = distinct k in omega (arith, is, most)

  -- keys that occur once are distinct
  distinct-IsOnce : (W : List K) → IsOnce W → HasDistinctKeys number (paired W)
  distinct-IsOnce W once k = let is = count_by-paired k W in let most = once k in omega (arith, is, most)

  -- and some of them too
  IsOnce-filter : (test : K → Bool) (W : List K) → IsOnce W → IsOnce (filter test W)
  IsOnce-filter test W once k = let fewer = count_by-filter (same_key number k) test W in let most = once k in omega (arith, fewer, most)

  -- the keys that a set shares with another are distinct
  pub HasDistinctKeys-common_of : (V W : List K) → HasDistinctKeys number (paired V) → HasDistinctKeys number (paired (common_of number V W))
  HasDistinctKeys-common_of V W distinct = distinct-IsOnce (common_of number V W) (IsOnce-filter (holds number W) V (IsOnce-distinct V distinct))

  -- those of two lists that share none occur once
  IsOnce-append : (V W : List K) → IsOnce V → IsOnce W → IsDisjoint number V W → IsOnce (V ++ W)
  IsOnce-append V W first second apart k = at (holds number V k) refl
    where
      both : count_by (same_key number k) (V ++ W) ≡ count_by (same_key number k) V + count_by (same_key number k) W
      both = sum_by-append (λ w. cond (same_key number k w) 1 0) V W

      at : (b : Bool) → holds number V k ≡ b → count_by (same_key number k) (V ++ W) ≤ 1
      at true has = let none = count_by-none (same_key number k) W (apart k has) in let most = first k in omega (arith, both, none, most)
      at false has = let none = count_by-none (same_key number k) V has in let most = second k in omega (arith, both, none, most)

  -- what W has alone is no member of V
  IsDisjoint-difference_of : (V W : List K) → IsDisjoint number V (difference_of number W V)
  IsDisjoint-difference_of V W q has = IsDifference-difference_of number W V q ∙ ap (λ b. holds number W q && not b) has ∙ and_comm (holds number W q) false

  -- what each has alone
  IsDisjoint-alone : (V W : List K) → IsDisjoint number (difference_of number V W) (difference_of number W V)
  IsDisjoint-alone V W q has = IsDifference-difference_of number W V q ∙ at (holds number V q) (holds number W q) (sym (IsDifference-difference_of number V W q) ∙ has)
    where
      at : (b c : Bool) → (b && not c) ≡ true → (c && not b) ≡ false
      at true true is = refl
      at true false is = refl
      at false c is = absurd (true≢false (sym is))

  module _ (V W : List K) (first : HasDistinctKeys number (paired V)) (second : HasDistinctKeys number (paired W)) where
    once_first : IsOnce V
    once_first = IsOnce-distinct V first

    once_second : IsOnce W
    once_second = IsOnce-distinct W second

    -- the keys of the difference are distinct
    pub HasDistinctKeys-difference_of : HasDistinctKeys number (paired (difference_of number V W))
    HasDistinctKeys-difference_of = distinct-IsOnce (difference_of number V W) (IsOnce-filter (λ k. not (holds number W k)) V once_first)

    -- and those of the intersection
    pub HasDistinctKeys-intersection_of : HasDistinctKeys number (paired (intersection_of number V W))
    HasDistinctKeys-intersection_of = at (nat_lt (length W) (length V))
      where
        at : (b : Bool) → HasDistinctKeys number (paired (cond b (common_of number W V) (common_of number V W)))
        at true = HasDistinctKeys-common_of W V second
        at false = HasDistinctKeys-common_of V W first

    -- and those of the union
    pub HasDistinctKeys-union_of : HasDistinctKeys number (paired (union_of number V W))
    HasDistinctKeys-union_of = at (nat_lt (length V) (length W))
      where
        joined : (S T : List K) → IsOnce S → IsOnce T → HasDistinctKeys number (paired (S ++ difference_of number T S))
        joined S T one other =
            distinct-IsOnce (S ++ difference_of number T S)
            (IsOnce-append S (difference_of number T S) one (IsOnce-filter (λ k. not (holds number S k)) T other) (IsDisjoint-difference_of S T))

        at : (b : Bool) → HasDistinctKeys number (paired (cond b (W ++ difference_of number V W) (V ++ difference_of number W V)))
        at true = joined W V once_second once_first
        at false = joined V W once_first once_second

    -- and those of the symmetric difference
    pub HasDistinctKeys-symmetric_difference_of : HasDistinctKeys number (paired (symmetric_difference_of number V W))
    HasDistinctKeys-symmetric_difference_of =
        distinct-IsOnce (symmetric_difference_of number V W)
        (IsOnce-append (difference_of number V W) (difference_of number W V) (IsOnce-filter (λ k. not (holds number W k)) V once_first)
        (IsOnce-filter (λ k. not (holds number V k)) W once_second) (IsDisjoint-alone V W))

  -- distinct keys that aren't members are all new
  all_new : (W ks : List K) → IsDisjoint number ks W → IsOnce ks → new_keys number (paired W) (paired ks) ≡ ks
  all_new W [] apart once = refl
  all_new W (k ∷ ks) apart once =
      new_keys-paired number W k ks ∙ ap (λ b. cond b (new_keys number (paired W) (paired ks)) (k ∷ new_keys number (paired (k ∷ W)) (paired ks))) (apart k (ap (λ b. b || holds number ks k) (same_key-itself number k)))
      ∙ ap (λ rest. k ∷ rest) (all_new (k ∷ W) ks others later)
    where
      later : IsOnce ks
      later j = let all = count_by-cons (same_key number j) k ks in let most = once j in omega (arith, all, most)

      alone : holds number ks k ≡ false
      alone = list_any-uncounted (same_key number k) ks
          (let all = count_by-cons (same_key number k) k ks ∙ ap (λ b. cond b 1 0 + count_by (same_key number k) ks) (same_key-itself number k) in let most = once k in omega (arith, all, most))

      others : IsDisjoint number ks (k ∷ W)
      others q has = at (same_key number q k) refl
        where
          at : (b : Bool) → same_key number q k ≡ b → (same_key number q k || holds number W q) ≡ false
          at true is = absurd (true≢false (sym has ∙ holds-same_number number ks q k (sym (eqb-true (number k) (number q) is)) ∙ alone))
          at false is = ap (λ b. b || holds number W q) is ∙ apart q (ap (λ b. b || holds number ks q) is ∙ has)

  -- distinct keys are inserted each as a new one
  pub new_keys-distinct : (W ks : List K) → IsDisjoint number ks W → HasDistinctKeys number (paired ks) → new_keys number (paired W) (paired ks) ≡ ks
  new_keys-distinct W ks apart distinct = all_new W ks apart (IsOnce-distinct ks distinct)
