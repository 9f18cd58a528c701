-- Several keys at once: where their values lie in a walk, and what lies there once others were written.
use Rattle.std.proofs.Common.{◌≡◌, ◌≢◌, ℕ, zero, suc, ◌+◌, ◌≤◌, Bool, true, false, cond, List, [], ◌∷◌, ◌++◌, length, get_or, set, take, drop, map, Option, Some, None, is_some, refl, sym, ap, ◌∙◌, subst, zero-add, arith}
use Rattle.std.specs.Prelude.{count_by, option_map}
use Rattle.std.specs.List.{AllByRecursion, cons_option, filter_map, sum_by}
use Rattle.std.specs.Map.{keys_of, values_of}
use Rattle.std.specs.Option.{option_to_list}
use Rattle.std.proofs.lemmas.Bool.Decides.{nat_tests}
use Rattle.std.proofs.lemmas.List.{length-append, length-map, get_or-set_other, set-set, set_comm, map-set}
use Rattle.std.proofs.lemmas.List.Sums.{sum_by-cons}
use Rattle.intmap_table.specs.Apart.{contents_of}
use Rattle.intmap_table.specs.Bindings.{HasDistinctKeys, value_of, write_value}
use Rattle.intmap_table.specs.Classes.{same_key, agrees}
use Rattle.intmap_table.specs.Reach.{class_size, reach, through_first}
use Rattle.intmap_table.specs.Tables.Slots.{joined}
use Rattle.intmap_table.specs.Values.{lent_pairs, with_values}
use Rattle.intmap_table.proofs.MappedLemmas.{count_by-map}
use Rattle.intmap_table.proofs.Tables.SameKeysLemmas.{length-same_keys}
use Rattle.intmap_table.proofs.Lending.ChosenLemmas.{at_place, emptied, drained, refilled, sizes}
use Rattle.intmap_table.proofs.Lending.Linked.PlacesLemmas.{Absent, AreOnce, at_each, drained-once}
use Rattle.intmap_table.proofs.Lending.Linked.RefilledLemmas.{joined-one, sizes-refilled, drained-refilled}
use Rattle.intmap_table.proofs.Lending.ValuesLemmas.{keys_of-with_values, values_of-with_values}
use Rattle.intmap.proofs.WriteLemmas.{some_from, keys_of-write_value, length-write_value, value_of-write_value}
use Rattle.intmap.proofs.SameKeysLemmas.{IsMapWalk-same_keys}
use Rattle.intmap.specs.Disjoint.{AreDistinct, IsNoneOf, present_values, write_each}
use Rattle.intmap.specs.Map.{IsMapWalk}
use denote.RawPtr.{Ptr}

-- each element in a row of its own
abbrev pub singles : {X : Type 0} → List X → List (List X)
singles xs = map (λ x. x ∷ []) xs

pub joined-singles : {X : Type 0} (xs : List X) → joined (singles xs) ≡ xs
joined-singles [] = refl
joined-singles (x ∷ xs) = ap (λ l. x ∷ l) (joined-singles xs)

sizes-singles : {X Y : Type 0} (xs : List X) (ys : List Y) → length xs ≡ length ys → sizes (singles xs) ≡ sizes (singles ys)
sizes-singles [] [] long = refl
sizes-singles [] (y ∷ ys) long = absurd (omega (arith, long))
sizes-singles (x ∷ xs) [] long = absurd (omega (arith, long))
sizes-singles (x ∷ xs) (y ∷ ys) long = ap (λ l. 1 ∷ l) (sizes-singles xs ys (omega (arith, long)))

length-joined : {X Y : Type 0} (R : List (List X)) (Q : List (List Y)) → sizes R ≡ sizes Q → length (joined R) ≡ length (joined Q)
length-joined [] [] alike = refl
length-joined [] (q ∷ Q) alike = absurd (let n = ap length alike in omega (arith, n))
length-joined (r ∷ R) [] alike = absurd (let n = ap length alike in omega (arith, n))
length-joined (r ∷ R) (q ∷ Q) alike =
    let c : length r ≡ length q = ap (λ l. get_or l 0 0) alike in
    length-append r (joined R) ∙ (λ i. c i + length-joined R Q (ap (drop 1) alike) i) ∙ sym (length-append q (joined Q))

-- rows of one element each are their elements in rows of their own
singles-joined : {X Y : Type 0} (R : List (List X)) (xs : List Y) → sizes R ≡ sizes (singles xs) → singles (joined R) ≡ R
singles-joined R xs alike =
    let long = length-joined R (singles xs) alike ∙ ap length (joined-singles xs) in
    joined-one (singles (joined R)) R (sizes-singles (joined R) xs long ∙ sym alike) (joined-singles (joined R))

pub contents-singles : {V : Type 0} (cs : List (Ptr × V)) → map contents_of (singles cs) ≡ singles (contents_of cs)
contents-singles [] = refl
contents-singles (c ∷ cs) = ap (λ R. (c.1 ∷ []) ∷ R) (contents-singles cs)

-- a row that is put at a place from which nothing is taken is there afterwards
refilled-set : {X : Type 0} (O : List ℕ) (S : List (List X)) (us : List X) (p : ℕ) (x : List X) → Absent p O
    → refilled O (set S p x) us ≡ set (refilled O S us) p x
refilled-set [] S us p x once = refl
refilled-set (q ∷ O) S us p x once =
    let apart : p ≢ q = λ e. once.0 (sym e) in
    let c : at_place (set S p x) q ≡ at_place S q = get_or-set_other S p q x [] once.0 in
    let us' = drop (length (at_place S q)) us in
    (λ i. set (refilled O (set_comm S p q x [] apart i) (drop (length (c i)) us)) q (take (length (c i)) us))
    ∙ ap (λ T. set T q (take (length (at_place S q)) us)) (refilled-set O (emptied S q) us' p x once.1)
    ∙ set_comm (refilled O (emptied S q) us') p q x (take (length (at_place S q)) us) apart

-- where the first element is that passes the test
abbrev pub place_of : {X : Type 0} → (X → Bool) → List X → Option ℕ
place_of test [] = None
place_of test (x ∷ xs) = cond (test x) (Some 0) (option_map suc (place_of test xs))

abbrev row_at : {X : Type 0} → List (List X) → Option ℕ → List X
row_at R None = []
row_at R (Some p) = at_place R p

row_at-suc : {X : Type 0} (r : List X) (R : List (List X)) (o : Option ℕ) → row_at (r ∷ R) (option_map suc o) ≡ row_at R o
row_at-suc r R None = refl
row_at-suc r R (Some p) = refl

some-suc : (o : Option ℕ) (p : ℕ) → option_map suc o ≡ Some p → (n : ℕ) × ((o ≡ Some n) × (p ≡ suc n))
some-suc None p e = cc
some-suc (Some n) p e = (n, (refl, cc))

place-passes : {X : Type 0} (test : X → Bool) (xs : List X) (p : ℕ) (d : X) → place_of test xs ≡ Some p → test (get_or xs p d) ≡ true
place-passes test [] p d found = cc
place-passes test (x ∷ xs) p d found =
    elim (test x) as (λ b. test x ≡ b → cond b (Some 0) (option_map suc (place_of test xs)) ≡ Some p → test (get_or (x ∷ xs) p d) ≡ true) [
      | true ↦ λ passes e. let at : zero ≡ p = cc in ap (λ n. test (get_or (x ∷ xs) n d)) (sym at) ∙ passes
      | false ↦ λ fails e. let s = some-suc (place_of test xs) p e in ap (λ n. test (get_or (x ∷ xs) n d)) s.1.1 ∙ place-passes test xs s.0 d s.1.0
    ] refl found

at_each-cons : {X : Type 0} (R : List (List X)) (o : Option ℕ) (O : List ℕ) → at_each R (cons_option o O) ≡ row_at R o ++ at_each R O
at_each-cons R None O = refl
at_each-cons R (Some p) O = refl

cons_option-list : {X : Type 0} (o : Option X) (xs : List X) → option_to_list o ++ xs ≡ cons_option o xs
cons_option-list None xs = refl
cons_option-list (Some x) xs = refl

length-cons_option : {X Y : Type 0} (o : Option X) (r : Option Y) (xs : List X) (ys : List Y) → is_some o ≡ is_some r → length xs ≡ length ys → length (cons_option o xs) ≡ length (cons_option r ys)
length-cons_option None None xs ys same rest = rest
length-cons_option None (Some y) xs ys same rest = cc
length-cons_option (Some x) None xs ys same rest = cc
length-cons_option (Some x) (Some y) xs ys same rest = ap suc rest

module _ {K : Type 0} (number : K → ℕ) where
  -- the places of those of the keys that stand in the list, in the order of the keys
  abbrev pub places : List K → List K → List ℕ
  places l ks = filter_map (λ k. place_of (same_key number k) l) ks

  absent-cons : (p : ℕ) (o : Option ℕ) (O : List ℕ) → (o ≡ Some p → ⊥) → Absent p O → Absent p (cons_option o O)
  absent-cons p None O apart rest = rest
  absent-cons p (Some u) O apart rest = (λ e. apart (ap Some e), rest)

  places-absent : (l : List K) (k : K) (p : ℕ) → place_of (same_key number k) l ≡ Some p → (ks : List K) → AllByRecursion (λ q. same_key number k q ≡ false) ks → Absent p (places l ks)
  places-absent l k p found [] apart = tt
  places-absent l k p found (q ∷ ks) apart =
      let here = apart.0 in
      absent-cons p (place_of (same_key number q) l) (places l ks)
      (λ e. let one = place-passes (same_key number k) l p k found in let two = place-passes (same_key number q) l p k e in grind (arith, nat_tests, one, two, here))
      (places-absent l k p found ks apart.1)

  once-cons : (o : Option ℕ) (O : List ℕ) → ((p : ℕ) → o ≡ Some p → Absent p O) → AreOnce O → AreOnce (cons_option o O)
  once-cons None O apart rest = rest
  once-cons (Some p) O apart rest = (apart p refl, rest)

  -- distinct keys have distinct places
  pub places-once : (l ks : List K) → AreDistinct number ks → AreOnce (places l ks)
  places-once l [] distinct = tt
  places-once l (k ∷ ks) distinct =
      once-cons (place_of (same_key number k) l) (places l ks) (λ p found. places-absent l k p found ks distinct.0) (places-once l ks distinct.1)

  module _ {C : Type 0} where
    row-found : (H : List (K × C)) (k : K) → row_at (singles (values_of H)) (place_of (same_key number k) (keys_of H)) ≡ option_to_list (value_of number H k)
    row-found [] k = refl
    row-found (p ∷ H) k =
        let R = singles (values_of H) in let o = place_of (same_key number k) (keys_of H) in
        elim (same_key number k p.0) as (λ b. row_at ((p.1 ∷ []) ∷ R) (cond b (Some 0) (option_map suc o)) ≡ option_to_list (cond b (Some p.1) (value_of number H k))) [
          | true ↦ refl
          | false ↦ row_at-suc (p.1 ∷ []) R o ∙ row-found H k
        ]

    some-found : (H : List (K × C)) (k : K) → is_some (place_of (same_key number k) (keys_of H)) ≡ is_some (value_of number H k)
    some-found [] k = refl
    some-found (p ∷ H) k =
        let o = place_of (same_key number k) (keys_of H) in
        let step : (o' : Option ℕ) → is_some (option_map suc o') ≡ is_some o' = λ o'. elim o' as (λ z. is_some (option_map suc z) ≡ is_some z) [ None ↦ refl | Some n ↦ refl ] in
        elim (same_key number k p.0) as (λ b. is_some (cond b (Some 0) (option_map suc o)) ≡ is_some (cond b (Some p.1) (value_of number H k))) [
          | true ↦ refl
          | false ↦ step o ∙ some-found H k
        ]

    -- at the places of the keys lie their values
    at_each-places : (H : List (K × C)) (ks : List K) → at_each (singles (values_of H)) (places (keys_of H) ks) ≡ present_values number H ks
    at_each-places H [] = refl
    at_each-places H (k ∷ ks) =
        let R = singles (values_of H) in let o = place_of (same_key number k) (keys_of H) in
        at_each-cons R o (places (keys_of H) ks) ∙ (λ i. row-found H k i ++ at_each-places H ks i)
        ∙ cons_option-list (value_of number H k) (present_values number H ks)

    pub drained-places : (H : List (K × C)) (ks : List K) → AreDistinct number ks → drained (places (keys_of H) ks) (singles (values_of H)) ≡ present_values number H ks
    drained-places H ks distinct = drained-once (places (keys_of H) ks) (singles (values_of H)) (places-once (keys_of H) ks distinct) ∙ at_each-places H ks

    pub length-places : (H : List (K × C)) (ks : List K) → length (places (keys_of H) ks) ≡ length (present_values number H ks)
    length-places H [] = refl
    length-places H (k ∷ ks) = length-cons_option (place_of (same_key number k) (keys_of H)) (value_of number H k) (places (keys_of H) ks) (present_values number H ks) (some-found H k) (length-places H ks)

module _ {K V : Type 0} (number : K → ℕ) where
  -- what a hole shows of the value of a key
  pub value_of-lent_pairs : (L : List (K × (Ptr × V))) (k : K) → value_of number (lent_pairs L) k ≡ option_map (λ c. c.1) (value_of number L k)
  value_of-lent_pairs [] k = refl
  value_of-lent_pairs (p ∷ L) k =
      elim (same_key number k p.0) as (λ b. cond b (Some p.1.1) (value_of number (lent_pairs L) k) ≡ option_map (λ c. c.1) (cond b (Some p.1) (value_of number L k))) [
        | true ↦ refl
        | false ↦ value_of-lent_pairs L k
      ]

  -- a look-up among holes compares as many keys
  through-lent_pairs : (L : List (K × (Ptr × V))) (k : K) → through_first (λ p. same_key number k p.0) (lent_pairs L) ≡ lent_pairs (through_first (λ p. same_key number k p.0) L)
  through-lent_pairs [] k = refl
  through-lent_pairs (p ∷ L) k =
      elim (same_key number k p.0) as (λ b. cond b ((p.0, p.1.1) ∷ []) ((p.0, p.1.1) ∷ through_first (λ q. same_key number k q.0) (lent_pairs L))
      ≡ lent_pairs (cond b (p ∷ []) (p ∷ through_first (λ q. same_key number k q.0) L))) [
        | true ↦ refl
        | false ↦ ap (λ M. (p.0, p.1.1) ∷ M) (through-lent_pairs L k)
      ]

  pub reach-lent_pairs : (L : List (K × (Ptr × V))) (C : ℕ) (k : K) → reach number (lent_pairs L) C k ≡ reach number L C k
  reach-lent_pairs L C k =
      ap (λ M. class_size number M C k) (through-lent_pairs L k)
      ∙ count_by-map (λ (p : K × (Ptr × V)). (p.0, p.1.1)) (λ p. agrees number C k p.0) (through_first (λ p. same_key number k p.0) L)

  -- a step counts the look-up of the first of the keys
  pub first_counted : (L : List (K × (Ptr × V))) (C : ℕ) (ks : List K) (k : K) (rest : List K) (before after : ℕ) → ks ≡ k ∷ rest → after ≡ before + reach number L C k
      → after ≡ before + sum_by (reach number (lent_pairs L) C) (take 1 ks)
  first_counted L C ks k rest before after first counted =
      counted ∙ ap (λ n. before + n) (sym (zero-add (reach number L C k)) ∙ ap (λ n. 0 + n) (sym (reach-lent_pairs L C k)))
      ∙ ap (λ l. before + sum_by (reach number (lent_pairs L) C) (take 1 l)) (sym first)

  pub contents-lent_pairs : (L : List (K × (Ptr × V))) → contents_of (values_of L) ≡ values_of (lent_pairs L)
  contents-lent_pairs [] = refl
  contents-lent_pairs (p ∷ L) = ap (λ vs. p.1.1 ∷ vs) (contents-lent_pairs L)

  with_values-own : (L : List (K × V)) → with_values L (values_of L) ≡ L
  unfolding with_values
  with_values-own [] = refl
  with_values-own (p ∷ L) = ap (λ M. p ∷ M) (with_values-own L)

  with_values-same_keys : (L M : List (K × V)) (vs : List V) → keys_of L ≡ keys_of M → length L ≤ length vs → with_values L vs ≡ with_values M vs
  unfolding with_values
  with_values-same_keys [] [] vs same long = refl
  with_values-same_keys [] (q ∷ M) vs same long = absurd (let n = ap length same in omega (arith, n))
  with_values-same_keys (p ∷ L) [] vs same long = absurd (let n = ap length same in omega (arith, n))
  with_values-same_keys (p ∷ L) (q ∷ M) [] same long = absurd (omega (arith, long))
  with_values-same_keys (p ∷ L) (q ∷ M) (v ∷ vs) same long =
      λ i. (get_or (same i) 0 p.0, v) ∷ with_values-same_keys L M vs (ap (drop 1) same) (omega (arith, long)) i

  missing : (L : List (K × V)) (k : K) (v : V) → count_by (λ p. same_key number k p.0) L ≡ 0 → write_value number L k v ≡ L
  missing [] k v none = refl
  missing (p ∷ L) k v none =
      let more = sum_by-cons (λ (q : K × V). cond (same_key number k q.0) 1 0) p L in
      let rest = missing L k v in
      grind (arith, more, rest, none)

  -- a write puts the value at the place of its key
  values-written : (L : List (K × V)) (k : K) (v : V) (p : ℕ) → place_of (same_key number k) (keys_of L) ≡ Some p → count_by (λ q. same_key number k q.0) L ≤ 1
      → values_of (write_value number L k v) ≡ set (values_of L) p v
  values-written [] k v p found once = cc
  values-written (q ∷ L) k v p found once =
      let more : count_by (λ z. same_key number k z.0) (q ∷ L) ≡ cond (same_key number k q.0) 1 0 + count_by (λ z. same_key number k z.0) L =
      sum_by-cons (λ (z : K × V). cond (same_key number k z.0) 1 0) q L in
      elim (same_key number k q.0) as (λ b. cond b (Some 0) (option_map suc (place_of (same_key number k) (keys_of L))) ≡ Some p
      → count_by (λ z. same_key number k z.0) (q ∷ L) ≡ cond b 1 0 + count_by (λ z. same_key number k z.0) L
      → values_of (cond b (q.0, v) q ∷ write_value number L k v) ≡ set (values_of (q ∷ L)) p v) [
        | true ↦ λ e m. let at : zero ≡ p = cc in
            ap (λ M. v ∷ values_of M) (missing L k v (omega (arith, m, once))) ∙ ap (λ n. set (values_of (q ∷ L)) n v) at
        | false ↦ λ e m. let s = some-suc (place_of (same_key number k) (keys_of L)) p e in
            ap (λ vs. q.1 ∷ vs) (values-written L k v s.0 s.1.0 (omega (arith, m, once))) ∙ ap (λ n. set (values_of (q ∷ L)) n v) (sym s.1.1)
      ] found more

  distinct-same_keys : (L M : List (K × V)) → keys_of L ≡ keys_of M → HasDistinctKeys number L → HasDistinctKeys number M
  distinct-same_keys L M same distinct k =
      let count = λ (N : List (K × V)). sym (count_by-map (λ (p : K × V). p.0) (same_key number k) N) in
      subst (λ n. n ≤ 1) (count L ∙ ap (count_by (same_key number k)) same ∙ sym (count M)) (distinct k)

  write_each-none : (L : List (K × V)) (ks : List K) → write_each number L ks [] ≡ L
  write_each-none L [] = refl
  write_each-none L (k ∷ ks) = refl

  -- the values of a walk, once other values were put at the places of the keys
  abbrev pub filled : List (K × V) → List K → List V → List (List V)
  filled W ks ws = refilled (places number (keys_of W) ks) (singles (values_of W)) ws

  module _ (W : List (K × V)) (ks : List K) (ws : List V) (distinct : AreDistinct number ks) (long : length ws ≡ length (places number (keys_of W) ks)) where
    long_drained : length ws ≡ length (drained (places number (keys_of W) ks) (singles (values_of W)))
    long_drained = long ∙ length-places number W ks ∙ ap length (sym (drained-places number W ks distinct))

    sizes-filled : sizes (filled W ks ws) ≡ sizes (singles (values_of W))
    sizes-filled = sizes-refilled (places number (keys_of W) ks) (singles (values_of W)) ws long_drained

    length-filled : length (joined (filled W ks ws)) ≡ length W
    length-filled = length-joined (filled W ks ws) (singles (values_of W)) sizes-filled ∙ ap length (joined-singles (values_of W)) ∙ length-map W (λ p. p.1)

  -- a walk with the value of the first key written, and then those of the others at their places
  filled-first : (W : List (K × V)) (k : K) (ks : List K) (w : V) (ws : List V) (p : ℕ) (u : V) → HasDistinctKeys number W → AllByRecursion (λ q. same_key number k q ≡ false) ks
      → place_of (same_key number k) (keys_of W) ≡ Some p → value_of number W k ≡ Some u
      → refilled (p ∷ places number (keys_of W) ks) (singles (values_of W)) (w ∷ ws) ≡ filled (write_value number W k w) ks ws
  filled-first W k ks w ws p u once apart found bound =
      let S = singles (values_of W) in
      let O = places number (keys_of W) ks in
      let W' = write_value number W k w in
      let absent = places-absent number (keys_of W) k p found ks apart in
      let row : at_place S p ≡ u ∷ [] = ap (row_at S) (sym found) ∙ row-found number W k ∙ ap option_to_list bound in
      (λ i. set (refilled O (emptied S p) (drop (length (row i)) (w ∷ ws))) p (take (length (row i)) (w ∷ ws)))
      ∙ ap (λ T. set T p (w ∷ [])) (refilled-set O S ws p [] absent)
      ∙ set-set (refilled O S ws) p [] (w ∷ []) ∙ sym (refilled-set O S ws p (w ∷ []) absent)
      ∙ ap (λ R. refilled O R ws) (sym (map-set (λ (v : V). v ∷ []) (values_of W) p w) ∙ ap singles (sym (values-written W k w p found (once k))))
      ∙ ap (λ l. refilled (places number l ks) (singles (values_of W')) ws) (sym (keys_of-write_value number W k w))

  module _ (k : K) (ks : List K) (distinct : AreDistinct number (k ∷ ks))
      (rest : (L : List (K × V)) (us : List V) → HasDistinctKeys number L → length us ≡ length (places number (keys_of L) ks)
      → with_values L (joined (filled L ks us)) ≡ write_each number L ks us) where
    filled-cons : (W : List (K × V)) (ws : List V) → HasDistinctKeys number W → (o : Option ℕ) → place_of (same_key number k) (keys_of W) ≡ o
        → length ws ≡ length (cons_option o (places number (keys_of W) ks))
        → with_values W (joined (refilled (cons_option o (places number (keys_of W) ks)) (singles (values_of W)) ws)) ≡ write_each number W (k ∷ ks) ws
    filled-cons W [] once None found long = rest W [] once long ∙ write_each-none W ks
    filled-cons W (w ∷ ws) once None found long =
        let absent : is_some (value_of number W k) ≡ false = sym (some-found number W k) ∙ ap is_some found in
        rest W (w ∷ ws) once long ∙ ap (λ b. cond b (write_each number (write_value number W k w) ks ws) (write_each number W ks (w ∷ ws))) (sym absent)
    filled-cons W [] once (Some p) found long = absurd (omega (arith, long))
    filled-cons W (w ∷ ws) once (Some p) found long =
        let W' = write_value number W k w in
        let same = keys_of-write_value number W k w in
        let present : is_some (value_of number W k) ≡ true = sym (some-found number W k) ∙ ap is_some found in
        let bound = some_from (value_of number W k) present in
        let short : length ws ≡ length (places number (keys_of W) ks) = omega (arith, long) in
        let long' : length ws ≡ length (places number (keys_of W') ks) = short ∙ ap (λ l. length (places number l ks)) (sym same) in
        let whole = length-filled W' ks ws distinct.1 long' in
        let kept = length-write_value number W k w in
        ap (λ T. with_values W (joined T)) (filled-first W k ks w ws p bound.0 once distinct.0 found bound.1)
        ∙ with_values-same_keys W W' (joined (filled W' ks ws)) (sym same) (omega (arith, whole, kept))
        ∙ rest W' ws (distinct-same_keys W W' (sym same) once) long'
        ∙ ap (λ b. cond b (write_each number W' ks ws) (write_each number W ks (w ∷ ws))) (sym present)

  -- with the values at the places of the keys, a walk is as it is once they are written
  pub filled-written : (W : List (K × V)) (ks : List K) (ws : List V) → HasDistinctKeys number W → AreDistinct number ks
      → length ws ≡ length (places number (keys_of W) ks) → with_values W (joined (filled W ks ws)) ≡ write_each number W ks ws
  filled-written W [] ws once distinct long = ap (with_values W) (joined-singles (values_of W)) ∙ with_values-own W
  filled-written W (k ∷ ks) ws once distinct long =
      filled-cons k ks distinct (λ L us one many. filled-written L ks us one distinct.1 many) W ws once (place_of (same_key number k) (keys_of W)) refl long

  -- the keys have these values then
  pub present_values-written : (W : List (K × V)) (ks : List K) (ws : List V) → HasDistinctKeys number W → AreDistinct number ks
      → length ws ≡ length (places number (keys_of W) ks) → present_values number (write_each number W ks ws) ks ≡ ws
  present_values-written W ks ws once distinct long =
      let O = places number (keys_of W) ks in
      let T = filled W ks ws in
      let M = with_values W (joined T) in
      let same : keys_of M ≡ keys_of W = keys_of-with_values W (joined T) in
      let values : values_of M ≡ joined T = values_of-with_values W (joined T) (length-filled W ks ws distinct long) in
      ap (λ L. present_values number L ks) (sym (filled-written W ks ws once distinct long))
      ∙ sym (drained-places number M ks distinct) ∙ (λ i. drained (places number (same i) ks) (singles (values i)))
      ∙ ap (drained O) (singles-joined T (values_of W) (sizes-filled W ks ws distinct long))
      ∙ drained-refilled O (singles (values_of W)) ws (long_drained W ks ws distinct long)

  -- the keys stay
  pub keys_of-write_each : (L : List (K × V)) (ks : List K) (vs : List V) → keys_of (write_each number L ks vs) ≡ keys_of L
  keys_of-write_each L [] vs = refl
  keys_of-write_each L (k ∷ ks) [] = refl
  keys_of-write_each L (k ∷ ks) (v ∷ vs) =
      elim (is_some (value_of number L k)) as (λ b. keys_of (cond b (write_each number (write_value number L k v) ks vs) (write_each number L ks (v ∷ vs))) ≡ keys_of L) [
        | true ↦ keys_of-write_each (write_value number L k v) ks vs ∙ keys_of-write_value number L k v
        | false ↦ keys_of-write_each L ks (v ∷ vs)
      ]

  -- a key that is none of these keeps its value
  pub value_of-write_each : (L : List (K × V)) (ks : List K) (vs : List V) (q : K) → IsNoneOf number ks q
      → value_of number (write_each number L ks vs) q ≡ value_of number L q
  value_of-write_each L [] vs q apart = refl
  value_of-write_each L (k ∷ ks) [] q apart = refl
  value_of-write_each L (k ∷ ks) (v ∷ vs) q apart =
      elim (is_some (value_of number L k)) as (λ b. value_of number (cond b (write_each number (write_value number L k v) ks vs) (write_each number L ks (v ∷ vs))) q ≡ value_of number L q) [
        | true ↦ value_of-write_each (write_value number L k v) ks vs q apart.1 ∙ value_of-write_value number L k q v
            ∙ ap (λ b. cond b (option_map (λ _. v) (value_of number L q)) (value_of number L q)) apart.0
        | false ↦ value_of-write_each L ks (v ∷ vs) q apart.1
      ]

  -- and so does their number
  pub length-write_each : (L : List (K × V)) (ks : List K) (vs : List V) → length (write_each number L ks vs) ≡ length L
  length-write_each L ks vs = length-same_keys (write_each number L ks vs) L (keys_of-write_each L ks vs)

  -- the walk of a map stays one
  pub IsMapWalk-write_each : (is_valid : K → Type 0) (W : List (K × V)) (C F : ℕ) (ks : List K) (vs : List V) → IsMapWalk number is_valid W C F
      → IsMapWalk number is_valid (write_each number W ks vs) C F
  IsMapWalk-write_each is_valid W C F ks vs m = IsMapWalk-same_keys number is_valid W (write_each number W ks vs) C F (sym (keys_of-write_each W ks vs)) m
