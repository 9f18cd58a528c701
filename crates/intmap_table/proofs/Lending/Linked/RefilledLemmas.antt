-- Rows in memory with other values, which are given in the order of a list of places.
use Rattle.std.proofs.Common.{◌≡◌, ℕ, zero, suc, ◌-◌, List, [], ◌∷◌, ◌++◌, length, get_or, set, take, drop, refl, sym, ap, ◌∙◌, arith}
use Rattle.std.proofs.lemmas.List.{length-append, length-map, length-set, length-take-le, length-drop, set-set, set-get_or, map-set, take-append-drop}
use Rattle.std.proofs.Math.Seq.{take-append_seam, drop-append_seam}
use Rattle.intmap_table.specs.Tables.Slots.{joined}
use Rattle.intmap_table.specs.Values.{with_values, rows_with}
use Rattle.intmap_table.proofs.Lending.ChosenLemmas.{at_place, emptied, drained, refilled, sizes, row_size, sizes-emptied}
use Rattle.intmap_table.proofs.Lending.ValuesLemmas.{with_values-append, length-with_values}

nothing_in : {X : Type 0} (xs : List X) → length xs ≡ 0 → xs ≡ []
nothing_in [] e = refl
nothing_in (x ∷ xs) e = absurd (omega (arith, e))

zeroed : (l : List ℕ) (p : ℕ) → get_or (set l p 0) p 0 ≡ 0
zeroed [] p = refl
zeroed (n ∷ l) zero = refl
zeroed (n ∷ l) (suc p) = zeroed l p

-- rows are the same if their sizes are and their elements, one after another, are
pub joined-one : {X : Type 0} (R Q : List (List X)) → sizes R ≡ sizes Q → joined R ≡ joined Q → R ≡ Q
joined-one [] [] alike same = refl
joined-one [] (q ∷ Q) alike same = absurd (let n = ap length alike in omega (arith, n))
joined-one (r ∷ R) [] alike same = absurd (let n = ap length alike in omega (arith, n))
joined-one (r ∷ R) (q ∷ Q) alike same =
    let c : length r ≡ length q = ap (λ l. get_or l 0 0) alike in
    let first : r ≡ q = sym (take-append_seam r (joined R)) ∙ (λ i. take (c i) (same i)) ∙ take-append_seam q (joined Q) in
    let rest : joined R ≡ joined Q = sym (drop-append_seam r (joined R)) ∙ (λ i. drop (c i) (same i)) ∙ drop-append_seam q (joined Q) in
    λ i. first i ∷ joined-one R Q (ap (drop 1) alike) rest i

module _ {X : Type 0} where
  -- a row that is put at an empty place is what lies there
  at_place-set : (S T : List (List X)) (p : ℕ) (ws : List X) → length ws ≡ length (at_place S p) → sizes T ≡ set (sizes S) p 0 → at_place (set T p ws) p ≡ ws
  at_place-set S [] p ws e kept =
      let none : length (sizes S) ≡ 0 = sym (length-set (sizes S) p 0) ∙ ap length (sym kept) in
      let no : S ≡ [] = nothing_in S (sym (length-map S length) ∙ none) in
      sym (nothing_in ws (e ∙ ap (λ R. length (at_place R p)) no))
  at_place-set S (x ∷ T) zero ws e kept = refl
  at_place-set [] (x ∷ T) (suc p) ws e kept = absurd (let n = ap length kept in omega (arith, n))
  at_place-set (s ∷ S) (x ∷ T) (suc p) ws e kept = at_place-set S T p ws e (ap (drop 1) kept)

  -- rows that are filled again with as many values have their sizes
  pub sizes-refilled : (O : List ℕ) (S : List (List X)) (ws : List X) → length ws ≡ length (drained O S) → sizes (refilled O S ws) ≡ sizes S
  sizes-refilled [] S ws long = refl
  sizes-refilled (p ∷ O) S ws long =
      let c = length (at_place S p) in
      let sum = length-append (at_place S p) (drained O (emptied S p)) in
      let dropped : length (drop c ws) ≡ length ws - c = length-drop c ws in
      let rest = sizes-refilled O (emptied S p) (drop c ws) (omega (arith, long, sum, dropped)) in
      let taken : length (take c ws) ≡ get_or (sizes S) p 0 = length-take-le c ws (omega (arith, long, sum)) ∙ row_size S p in
      map-set length (refilled O (emptied S p) (drop c ws)) p (take c ws)
      ∙ (λ i. set ((rest ∙ sizes-emptied S p) i) p (taken i)) ∙ set-set (sizes S) p 0 (get_or (sizes S) p 0) ∙ set-get_or (sizes S) p 0

  -- what is taken from them then are these values
  pub drained-refilled : (O : List ℕ) (S : List (List X)) (ws : List X) → length ws ≡ length (drained O S) → drained O (refilled O S ws) ≡ ws
  drained-refilled [] S ws long = sym (nothing_in ws long)
  drained-refilled (p ∷ O) S ws long =
      let c = length (at_place S p) in
      let us = drop c ws in
      let T = refilled O (emptied S p) us in
      let sum = length-append (at_place S p) (drained O (emptied S p)) in
      let dropped : length us ≡ length ws - c = length-drop c ws in
      let long' : length us ≡ length (drained O (emptied S p)) = omega (arith, long, sum, dropped) in
      let kept : sizes T ≡ set (sizes S) p 0 = sizes-refilled O (emptied S p) us long' ∙ sizes-emptied S p in
      let size : length (at_place T p) ≡ get_or (set (sizes S) p 0) p 0 = row_size T p ∙ ap (λ l. get_or l p 0) kept in
      let gone : at_place T p ≡ [] = nothing_in (at_place T p) (size ∙ zeroed (sizes S) p) in
      let taken : length (take c ws) ≡ c = length-take-le c ws (omega (arith, long, sum)) in
      let back : emptied (set T p (take c ws)) p ≡ T = set-set T p (take c ws) [] ∙ ap (set T p) (sym gone) ∙ set-get_or T p [] in
      (λ i. at_place-set S T p (take c ws) taken kept i ++ drained O (back i))
      ∙ ap (λ zs. take c ws ++ zs) (drained-refilled O (emptied S p) us long') ∙ take-append-drop c ws

module _ {K V : Type 0} where
  -- each row of pairs has the row of values of its number
  abbrev pub each_with : List (List (K × V)) → List (List V) → List (List (K × V))
  each_with (r ∷ R) (t ∷ T) = with_values r t ∷ each_with R T
  each_with (r ∷ R) [] = r ∷ R
  each_with [] T = []

  pub rows_with-joined : (R : List (List (K × V))) (T : List (List V)) → sizes R ≡ sizes T → rows_with R (joined T) ≡ each_with R T
  rows_with-joined [] T alike = refl
  rows_with-joined (r ∷ R) [] alike = absurd (let n = ap length alike in omega (arith, n))
  rows_with-joined (r ∷ R) (t ∷ T) alike =
      let c : length r ≡ length t = ap (λ l. get_or l 0 0) alike in
      (λ i. with_values r (take (c i) (t ++ joined T)) ∷ rows_with R (drop (c i) (t ++ joined T)))
      ∙ (λ i. with_values r (take-append_seam t (joined T) i) ∷ rows_with R (drop-append_seam t (joined T) i))
      ∙ ap (λ Q. with_values r t ∷ Q) (rows_with-joined R T (ap (drop 1) alike))

  with_values-both : (a b : List (K × V)) (u w : List V) → length a ≡ length u → with_values (a ++ b) (u ++ w) ≡ with_values a u ++ with_values b w
  with_values-both a b u w e = sym (with_values-append a b (u ++ w))
      ∙ (λ i. with_values a (take (e i) (u ++ w)) ++ with_values b (drop (e i) (u ++ w)))
      ∙ (λ i. with_values a (take-append_seam u w i) ++ with_values b (drop-append_seam u w i))

  at_place-each_with : (R : List (List (K × V))) (T : List (List V)) (p : ℕ) → sizes R ≡ sizes T → at_place (each_with R T) p ≡ with_values (at_place R p) (at_place T p)
  unfolding with_values
  at_place-each_with [] T p alike = refl
  at_place-each_with (r ∷ R) [] p alike = absurd (let n = ap length alike in omega (arith, n))
  at_place-each_with (r ∷ R) (t ∷ T) zero alike = refl
  at_place-each_with (r ∷ R) (t ∷ T) (suc p) alike = at_place-each_with R T p (ap (drop 1) alike)

  emptied-each_with : (R : List (List (K × V))) (T : List (List V)) (p : ℕ) → sizes R ≡ sizes T → emptied (each_with R T) p ≡ each_with (emptied R p) (emptied T p)
  unfolding with_values
  emptied-each_with [] T p alike = refl
  emptied-each_with (r ∷ R) [] p alike = absurd (let n = ap length alike in omega (arith, n))
  emptied-each_with (r ∷ R) (t ∷ T) zero alike = refl
  emptied-each_with (r ∷ R) (t ∷ T) (suc p) alike = ap (λ Q. with_values r t ∷ Q) (emptied-each_with R T p (ap (drop 1) alike))

  -- what is taken from rows with other values has the values that are taken from these
  pub drained-each_with : (O : List ℕ) (R : List (List (K × V))) (T : List (List V)) → sizes R ≡ sizes T
      → drained O (each_with R T) ≡ with_values (drained O R) (drained O T)
  unfolding with_values
  drained-each_with [] R T alike = refl
  drained-each_with (p ∷ O) R T alike =
      let rest : sizes (emptied R p) ≡ sizes (emptied T p) = sizes-emptied R p ∙ ap (λ l. set l p 0) alike ∙ sym (sizes-emptied T p) in
      let here : length (at_place R p) ≡ length (at_place T p) = row_size R p ∙ ap (λ l. get_or l p 0) alike ∙ sym (row_size T p) in
      (λ i. at_place-each_with R T p alike i ++ drained O (emptied-each_with R T p alike i))
      ∙ ap (λ Q. with_values (at_place R p) (at_place T p) ++ Q) (drained-each_with O (emptied R p) (emptied T p) rest)
      ∙ sym (with_values-both (at_place R p) (drained O (emptied R p)) (at_place T p) (drained O (emptied T p)) here)

  -- rows with other values, one after another, are their elements with these values
  pub joined-rows_with : (R : List (List (K × V))) (ws : List V) → joined (rows_with R ws) ≡ with_values (joined R) ws
  unfolding with_values
  joined-rows_with [] ws = refl
  joined-rows_with (r ∷ R) ws =
      ap (λ L. with_values r (take (length r) ws) ++ L) (joined-rows_with R (drop (length r) ws)) ∙ with_values-append r (joined R) ws

  pub sizes-rows_with : (R : List (List (K × V))) (ws : List V) → sizes (rows_with R ws) ≡ sizes R
  sizes-rows_with [] ws = refl
  sizes-rows_with (r ∷ R) ws = λ i. length-with_values r (take (length r) ws) i ∷ sizes-rows_with R (drop (length r) ws) i
