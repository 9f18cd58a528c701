-- How often numbers occur in a list that grows by one number, and what that makes of the pairs that count it.
use Rattle.std.proofs.Common.{◌≡◌, ◌≢◌, ℕ, ◌+◌, ◌<◌, ◌^◌, Bool, true, false, not, cond, List, [], ◌∷◌, ◌++◌, length, map, option_map, Option, Some, None, refl, sym, ap, ◌∙◌, arith}
use Rattle.std.specs.Prelude.{◌==◌, filter}
use Rattle.std.specs.List.{list_any}
use Rattle.std.proofs.lemmas.Bool.{eq-eqb, eqb-true, ne_eqb}
use Rattle.std.proofs.lemmas.Bool.Decides.{nat_tests}
use Rattle.std.proofs.lemmas.Map.Views.{any-filter_same}
use Rattle.std.proofs.lemmas.List.{append-nil, map-append, length-append}
use Rattle.std.proofs.lemmas.List.Elements.{filter-append}
use Rattle.std.proofs.lemmas.List.Sums.{sum_by_push}
use Rattle.intmap_table.specs.Bindings.{value_of, put_pair, write_value}
use Rattle.intmap_table.specs.Figures.{each_once, tally_of}
use Rattle.intmap.specs.Extending.{IsTally}
use Rattle.intmap.specs.Insertions.{IsInsertion}
use Rattle.intmap.specs.Map.{MapState}
use Rattle.intmap_table.specs.Walk.{walk_of}
use Rattle.intmap.proofs.CountLemmas.{count_by-cons}
use Rattle.intmap.proofs.ExtendLemmas.{value_of-append}
use Rattle.intmap_table.proofs.BindSameLemmas.{value_of-same_number}
use Rattle.intmap_table.proofs.LoadLemmas.{times}
use Rattle.intmap.proofs.MadeLemmas.{IsMadeOf-written, IsMadeOf-inserted}
use Rattle.intmap.proofs.WriteLemmas.{length-write_value, value_of-write_value, write_value-unbound}

-- a number at the end is new, or not
pub each_once-push : (ns : List ℕ) (n : ℕ) → each_once (ns ++ n ∷ []) ≡ cond (list_any (λ m. m == n) ns) (each_once ns) (each_once ns ++ n ∷ [])
each_once-push [] n = refl
each_once-push (a ∷ ns) n =
    let rest = each_once-push ns n in let f = filter-append (λ m. not (m == a)) (each_once ns) (n ∷ []) in let l = append-nil (filter (λ m. not (m == a)) (each_once ns)) in
    grind (arith, nat_tests, rest, f, l)

-- each number of a list is among those that occur once
list_any-each_once : (n : ℕ) (ns : List ℕ) → list_any (λ m. m == n) (each_once ns) ≡ list_any (λ m. m == n) ns
list_any-each_once n [] = refl
list_any-each_once n (a ∷ ns) =
    let rest = list_any-each_once n ns in
    let other = λ (apart : a ≢ n). any-filter_same (λ m. m == n) (λ m. not (m == a)) true (λ m is. ap not (ne_eqb m a (λ same. apart (sym same ∙ eqb-true m n is)))) (each_once ns) in
    grind (arith, nat_tests, rest, other)

-- a number that isn't there occurs nowhere
times-none : (n : ℕ) (ns : List ℕ) → list_any (λ m. m == n) ns ≡ false → times n ns ≡ 0
times-none n [] none = refl
times-none n (a ∷ ns) none = let rest = times-none n ns in let more = count_by-cons (λ m. m == n) a ns in grind (arith, none, rest, more)

-- a number is present if it is in the list, with how often it occurs there
pub value_of-tally_of : (ns : List ℕ) (q : ℕ) → value_of (λ n. n) (tally_of ns) q ≡ cond (list_any (λ m. m == q) ns) (Some (times q ns)) None
value_of-tally_of ns q =
    tabled (each_once ns) ∙ ap (λ (b : Bool). cond {A = Option ℕ} b (Some (times q ns)) None) (list_any-each_once q ns)
  where
    tabled : (es : List ℕ) → value_of (λ n. n) (map (λ m. (m, times m ns)) es) q ≡ cond (list_any (λ m. m == q) es) (Some (times q ns)) None
    tabled [] = refl
    tabled (e ∷ es) = let rest = tabled es in grind (arith, nat_tests, rest)

module _ (ns : List ℕ) (n : ℕ) where
  -- the count of n is one more, the others stay
  tabled-push : (es : List ℕ) → map (λ m. (m, times m (ns ++ n ∷ []))) es ≡ write_value (λ k. k) (map (λ m. (m, times m ns)) es) n (times n ns + 1)
  tabled-push [] = refl
  tabled-push (e ∷ es) = let rest = tabled-push es in let count = sum_by_push (λ m. cond (m == e) 1 0) ns n in grind (arith, nat_tests, rest, count)

  -- a number that is there already counts once more, in its place
  pub tally_of-push-old : list_any (λ m. m == n) ns ≡ true → tally_of (ns ++ n ∷ []) ≡ write_value (λ k. k) (tally_of ns) n (times n ns + 1)
  tally_of-push-old there =
      let same : each_once (ns ++ n ∷ []) ≡ each_once ns = each_once-push ns n ∙ rw there refl in
      ap (map (λ m. (m, times m (ns ++ n ∷ [])))) same ∙ tabled-push (each_once ns)

  -- a new number is last, and counts once
  pub tally_of-push-new : list_any (λ m. m == n) ns ≡ false → tally_of (ns ++ n ∷ []) ≡ tally_of ns ++ (n, 1) ∷ []
  tally_of-push-new away =
      let longer : each_once (ns ++ n ∷ []) ≡ each_once ns ++ n ∷ [] = each_once-push ns n ∙ rw away refl in
      let none : value_of (λ k. k) (tally_of ns) n ≡ None = value_of-tally_of ns n ∙ rw away refl in
      let count : times n (ns ++ n ∷ []) ≡ 1 =
      (let z = times-none n ns away in let one = ap (λ (b : Bool). cond {A = ℕ} b 1 0) (eq-eqb n n refl) in let p = sum_by_push (λ m. cond (m == n) 1 0) ns n in omega (arith, z, one, p)) in
      ap (map (λ m. (m, times m (ns ++ n ∷ [])))) longer
      ∙ map-append (λ m. (m, times m (ns ++ n ∷ []))) (each_once ns) (n ∷ [])
      ∙ ap (λ xs. xs ++ (n, times n (ns ++ n ∷ [])) ∷ []) (tabled-push (each_once ns) ∙ write_value-unbound (λ k. k) (tally_of ns) n (times n ns + 1) none)
      ∙ ap (λ k. tally_of ns ++ (n, k) ∷ []) count

-- what is present is in the list
pub found : (b : Bool) (t v : ℕ) → ◌≡◌ {A = Option ℕ} (Some v) (cond b (Some t) None) → (b ≡ true) × (v ≡ t)
found true t v is = (refl, cc)
found false t v is = cc

pub missing : (b : Bool) (t : ℕ) → ◌≡◌ {A = Option ℕ} None (cond b (Some t) None) → b ≡ false
missing true t is = cc
missing false t is = refl

module _ (ns : List ℕ) (n : ℕ) (m o : MapState ℕ ℕ) (tally : IsTally ns m) where
  -- a map of counts, once the count of a present number was written as one more
  pub IsTally-written : (v : ℕ) → Some v ≡ value_of (λ k. k) m.walk n → o.walk ≡ write_value (λ k. k) m.walk n (v + 1) → o.capacity ≡ m.capacity → o.factor ≡ m.factor → IsTally (ns ++ n ∷ []) o
  IsTally-written v bound walk capacity factor =
      let here = found (list_any (λ k. k == n) ns) (times n ns) v (bound ∙ tally.counts n ∙ value_of-tally_of ns n) in
      let same : tally_of (ns ++ n ∷ []) ≡ write_value (λ k. k) (tally_of ns) n (v + 1) =
      tally_of-push-old ns n here.0 ∙ ap (λ k. write_value (λ k. k) (tally_of ns) n (k + 1)) (sym here.1) in
      record {
        made = rw same (IsMadeOf-written (λ k. k) (λ k. k < 2 ^ 64) n (v + 1) (tally_of ns) m o tally.made walk capacity factor);
        counts = λ q.
            ap (λ W. value_of (λ k. k) W q) walk ∙ value_of-write_value (λ k. k) m.walk n q (v + 1)
            ∙ ap (λ (w : Option ℕ). cond (q == n) (option_map (λ _. v + 1) w) w) (tally.counts q)
            ∙ sym (value_of-write_value (λ k. k) (tally_of ns) n q (v + 1)) ∙ sym (ap (λ ps. value_of (λ k. k) ps q) same);
        len =
            ap length walk ∙ length-write_value (λ k. k) m.walk n (v + 1) ∙ tally.len
            ∙ sym (length-write_value (λ k. k) (tally_of ns) n (v + 1)) ∙ sym (ap length same);
      }

  -- a map of counts, once an absent number was inserted
  pub IsTally-inserted : None ≡ value_of (λ k. k) m.walk n → IsInsertion (λ k. k) (λ k. k < 2 ^ 64) m n 1 o
      → o.walk ≡ walk_of (λ k. k) (put_pair (λ k. k) m.walk m.capacity n 1) o.capacity → o.factor ≡ m.factor → IsTally (ns ++ n ∷ []) o
  IsTally-inserted none last put same =
      let unbound : None ≡ value_of (λ k. k) (tally_of ns) n = none ∙ tally.counts n in
      let away = missing (list_any (λ k. k == n) ns) (times n ns) (unbound ∙ value_of-tally_of ns n) in
      let longer : tally_of (ns ++ n ∷ []) ≡ tally_of ns ++ (n, 1) ∷ [] = tally_of-push-new ns n away in
      record {
        made = rw longer (IsMadeOf-inserted (λ k. k) (λ k. k < 2 ^ 64) (tally_of ns) n 1 m o tally.made last put same);
        counts = λ q.
            let after = last.updates.0 q in let old = tally.counts q in let more = value_of-append (λ k. k) (tally_of ns) ((n, 1) ∷ []) q in
            let same = value_of-same_number (λ k. k) (tally_of ns) q n in let here = ap (λ ps. value_of (λ k. k) ps q) longer in
            grind (arith, nat_tests, after, old, more, same, here, unbound);
        len = (let more = length-append (tally_of ns) ((n, 1) ∷ []) in let l = ap length longer in let t = tally.len in let one = rw (← none) at last.len in omega (arith, more, l, t, one));
      }
