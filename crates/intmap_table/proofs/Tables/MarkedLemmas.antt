-- What marked indices say of rows, if each row that holds something is marked.
use Rattle.std.proofs.Common.{◌≡◌, ℕ, zero, suc, ◌+◌, ◌-◌, ◌<◌, ◌≤◌, Bool, true, false, List, [], ◌∷◌, ◌++◌, length, map, get_or, replicate, refl, sym, ap, ◌∙◌, arith, add-zero, zero-add, append-nil}
use Rattle.std.specs.Prelude.{filter, All, count_by, nat_lt}
use Rattle.std.specs.List.{flat_map, range_with_len}
use Rattle.std.proofs.lemmas.Bool.{lt-ltb, false≢true}
use Rattle.std.proofs.lemmas.Grind.{flat_map-append}
use Rattle.std.proofs.lemmas.List.{get_or_past}
use Rattle.std.proofs.lemmas.List.Elements.{All-from_get_or, All-get_or, All-filter, filter-append, filter_passes}
use Rattle.std.proofs.lemmas.List.FromFn.{get_or-range_with_len, length-range_with_len}
use Rattle.std.proofs.lemmas.List.Sums.{length-filter}
use Rattle.intmap_table.specs.Tables.Bits.{marked, marked_indices}
use Rattle.intmap_table.proofs.ClassLemmas.{range-next, flat_map-rows}
use Rattle.intmap_table.proofs.LoadLemmas.{count_by-range_list}

-- a run of numbers, and the next one
pub range_with_len-add : (a m n : ℕ) → range_with_len a (m + n) ≡ range_with_len a m ++ range_with_len (a + m) n
range_with_len-add a zero n = rw (zero-add, add-zero) refl
range_with_len-add a (suc m) n =
    let e : suc m + n ≡ suc (m + n) = omega arith in
    let q : a + suc m ≡ a + 1 + m = omega arith in
    rw (e, q) (ap (λ xs. a ∷ xs) (range_with_len-add (a + 1) m n))

-- tests that agree on a run of numbers keep the same of them
pub filter-same : (f g : ℕ → Bool) (a n : ℕ) → ((i : ℕ) → i < n → f (a + i) ≡ g (a + i)) → filter f (range_with_len a n) ≡ filter g (range_with_len a n)
filter-same f g a zero same = refl
filter-same f g a (suc n) same = let on = range-next (λ k _. f k ≡ g k) a n same in simp (on.0, filter-same f g (a + 1) n on.1)

-- a test that no number of a run passes keeps none
pub filter-none : (f : ℕ → Bool) (a n : ℕ) → ((i : ℕ) → i < n → f (a + i) ≡ false) → filter f (range_with_len a n) ≡ []
filter-none f a zero none = refl
filter-none f a (suc n) none = let on = range-next (λ k _. f k ≡ false) a n none in simp (on.0, filter-none f (a + 1) n on.1)

-- a run that begins k later has the same numbers, k more each
pub filter-shift : (f : ℕ → Bool) (k a n : ℕ) → filter f (range_with_len (k + a) n) ≡ map (λ i. k + i) (filter (λ i. f (k + i)) (range_with_len a n))
filter-shift f k a zero = refl
filter-shift f k a (suc n) =
    let q : k + a + 1 ≡ k + (a + 1) = omega arith in
    let rest : filter f (range_with_len (k + a + 1) n) ≡ map (λ i. k + i) (filter (λ i. f (k + i)) (range_with_len (a + 1) n)) = rw q (filter-shift f k (a + 1) n) in
    grind (arith, rest)

-- what a test keeps of a run of numbers, and of the next one
pub filter-both : (f : ℕ → Bool) (m n : ℕ) (xs ys : List ℕ) → filter f (range_with_len 0 m) ≡ xs → filter f (range_with_len (m + 0) n) ≡ ys → filter f (range_with_len 0 (m + n)) ≡ xs ++ ys
filter-both f m n xs ys first rest =
    let z : 0 + m ≡ m + 0 = omega arith in
    let split : range_with_len 0 (m + n) ≡ range_with_len 0 m ++ range_with_len (m + 0) n = rw z at (range_with_len-add 0 m n) in
    ap (filter f) split ∙ filter-append f (range_with_len 0 m) (range_with_len (m + 0) n) ∙ ap (λ zs. zs ++ filter f (range_with_len (m + 0) n)) first ∙ ap (λ zs. xs ++ zs) rest

-- a list of the default alone has it everywhere
pub get_or-of_default : {X : Type 0} (n i : ℕ) (d : X) → get_or (replicate n d) i d ≡ d
get_or-of_default zero i d = refl
get_or-of_default (suc n) zero d = refl
get_or-of_default (suc n) (suc i) d = get_or-of_default n i d

-- each marked index is one of the indices, and marked
pub All-marked_indices : (marks : List Bool) → All (λ i. (i < length marks) × (marked marks i ≡ true)) (marked_indices marks)
All-marked_indices marks =
    let ns : List ℕ = range_with_len 0 (length marks) in
    let n = length-range_with_len 0 (length marks) in
    let below : All (λ i. i < length marks) ns = All-from_get_or (λ i. i < length marks) ns 0 (λ i lt.
    let a = get_or-range_with_len 0 (length marks) i 0 (omega (arith, lt, n)) in omega (arith, a, lt, n)) in
    let within = All-filter (marked marks) (λ i. i < length marks) ns below in
    let passed = filter_passes (marked marks) ns in
    All-from_get_or (λ i. (i < length marks) × (marked marks i ≡ true)) (marked_indices marks) 0 (λ i lt.
    (All-get_or (λ j. j < length marks) (marked_indices marks) i 0 lt within, All-get_or (λ j. marked marks j ≡ true) (marked_indices marks) i 0 lt passed))

-- numbers that a test fails on, and that stand for nothing, may be left out
flat_map-filter : {P : Type 0} (row : ℕ → List P) (test : ℕ → Bool) → ((i : ℕ) → test i ≡ false → row i ≡ []) → (ns : List ℕ) → flat_map row (filter test ns) ≡ flat_map row ns
flat_map-filter row test empty [] = refl
flat_map-filter row test empty (n ∷ ns) = let rest = flat_map-filter row test empty ns in let none = empty n in grind (arith, rest, none)

flat_map-none : {P : Type 0} (row : ℕ → List P) (a n : ℕ) → ((i : ℕ) → i < n → row (a + i) ≡ []) → flat_map row (range_with_len a n) ≡ []
flat_map-none row a zero none = refl
flat_map-none row a (suc n) none = let on = range-next (λ k _. row k ≡ []) a n none in simp (on.0, flat_map-none row (a + 1) n on.1) refl

pub row-none : {P : Type 0} (row : List P) → nat_lt 0 (length row) ≡ false → row ≡ []
row-none [] none = refl
row-none (p ∷ ps) none = absurd (false≢true (sym none ∙ lt-ltb 0 (length (p ∷ ps)) (omega arith)))

module _ {P : Type 0} (S : List (List P)) (marks : List Bool) (enough : length S ≤ length marks) (own : (i : ℕ) → marked marks i ≡ nat_lt 0 (length (get_or S i []))) where
  row-unmarked : (i : ℕ) → marked marks i ≡ false → get_or S i [] ≡ []
  row-unmarked i not_marked = row-none (get_or S i []) (sym (own i) ∙ not_marked)

  rest : length marks ≡ length S + (length marks - length S)
  rest = omega (arith, enough)

  -- the rows at the marked indices, joined, are all rows joined
  pub flat_map-marked_indices : flat_map (λ i. get_or S i []) (marked_indices marks) ≡ flat_map (λ s. s) S
  flat_map-marked_indices =
      let more : ℕ = length marks - length S in
      let row : ℕ → List P = λ i. get_or S i [] in
      let split : range_with_len 0 (length marks) ≡ range_with_len 0 (length S) ++ range_with_len (0 + length S) more =
      ap (λ n. range_with_len 0 n) rest ∙ range_with_len-add 0 (length S) more in
      let past : flat_map row (range_with_len (0 + length S) more) ≡ [] = flat_map-none row (0 + length S) more (λ i _. get_or_past S (0 + length S + i) [] (omega arith)) in
      flat_map-filter row (marked marks) row-unmarked (range_with_len 0 (length marks))
      ∙ ap (λ ns. flat_map row ns) split
      ∙ flat_map-append row (range_with_len 0 (length S)) (range_with_len (0 + length S) more)
      ∙ ap (λ ps. flat_map row (range_with_len 0 (length S)) ++ ps) past
      ∙ append-nil (flat_map row (range_with_len 0 (length S)))
      ∙ flat_map-rows row 0 S (λ i _. ap row (zero-add i))

  -- the number of marked indices is the number of rows that hold something
  pub length-marked_indices : length (marked_indices marks) ≡ count_by (λ s. nat_lt 0 (length s)) S
  length-marked_indices =
      let more : ℕ = length marks - length S in
      let past : filter (marked marks) (range_with_len (length S + 0) more) ≡ [] = filter-none (marked marks) (length S + 0) more (λ i _.
      own (length S + 0 + i) ∙ ap (λ (row : List P). nat_lt 0 (length row)) (get_or_past S (length S + 0 + i) [] (omega arith))) in
      let rows : List ℕ = filter (marked marks) (range_with_len 0 (length S)) in
      ap (λ n. length (filter (marked marks) (range_with_len 0 n))) rest
      ∙ ap length (filter-both (marked marks) (length S) more rows [] refl past ∙ append-nil rows)
      ∙ length-filter (marked marks) (range_with_len 0 (length S))
      ∙ count_by-range_list (λ (row : List P). nat_lt 0 (length row)) (marked marks) [] 0 S (λ i _. rw zero-add (own i))
