-- What lists of pairs and tables are by their keys alone: so are others with these keys.
use Rattle.std.proofs.Common.{◌≡◌, ℕ, zero, suc, ◌+◌, ◌<◌, List, [], ◌∷◌, ◌++◌, length, map, get_or, take, drop, refl, sym, ap, ◌∙◌, subst}
use Rattle.std.specs.Prelude.{All}
use Rattle.std.specs.List.{flat_map, range_with_len}
use Rattle.std.specs.Map.{keys_of}
use Rattle.std.proofs.lemmas.List.{get_or-map, length-map, take-append-drop}
use Rattle.std.proofs.lemmas.List.Elements.{All-map}
use Rattle.std.proofs.lemmas.List.FromFn.{length-map-range_with_len}
use Rattle.std.proofs.lemmas.Map.Entries.{length-keys_of}
use Rattle.intmap_table.specs.Classes.{IsCapacity, slot_number}
use Rattle.intmap_table.specs.Tables.Rows.{IsTable}
use Rattle.intmap_table.specs.Walk.{slot_of, walk_of}
use Rattle.intmap_table.proofs.ClassLemmas.{AreClasses, AreClasses-map, flat_map-classes, flat_map-joined}

-- the keys of each row
abbrev pub row_keys : {K X : Type 0} → List (List (K × X)) → List (List K)
row_keys R = map keys_of R

get_or-row_keys : {K X : Type 0} (R : List (List (K × X))) (i : ℕ) → get_or (row_keys R) i [] ≡ keys_of (get_or R i [])
get_or-row_keys [] i = refl
get_or-row_keys (row ∷ R) zero = refl
get_or-row_keys (row ∷ R) (suc i) = get_or-row_keys R i

module _ {K X Y : Type 0} where
  pub length-same_keys : (L : List (K × X)) (M : List (K × Y)) → keys_of L ≡ keys_of M → length L ≡ length M
  length-same_keys L M same = sym (length-keys_of L) ∙ ap length same ∙ length-keys_of M

  pub All-same_keys : (P : K → Type 0) (L : List (K × X)) (M : List (K × Y)) → keys_of L ≡ keys_of M → All (λ p. P p.0) L → All (λ p. P p.0) M
  All-same_keys P L M same all =
      let keys : All P (keys_of M) = subst (All P) same (All-map P (λ p. p.0) L all) in
      λ i d below. subst P (get_or-map (λ p. p.0) M i d d.0 below) (keys i d.0 (subst (λ n. i < n) (sym (length-keys_of M)) below))

module _ {K X Y : Type 0} where
  -- rows as long as these, of the pairs of a list
  abbrev cut : List (List (K × X)) → List (K × Y) → List (List (K × Y))
  cut [] M = []
  cut (s ∷ S) M = take (length s) M ∷ cut S (drop (length s) M)

  -- the same number of pairs from the front as a first row has have its keys
  keys_of-take : (s L : List (K × X)) (M : List (K × Y)) → keys_of (s ++ L) ≡ keys_of M → keys_of s ≡ keys_of (take (length s) M)
  keys_of-take [] L M same = refl
  keys_of-take (p ∷ s) L [] same = absurd cc
  keys_of-take (p ∷ s) L (q ∷ M) same =
      let first : p.0 ≡ q.0 = cc in let rest : keys_of (s ++ L) ≡ keys_of M = cc in
      λ i. first i ∷ keys_of-take s L M rest i

  -- and those behind them have the keys of the rest
  keys_of-drop : (s L : List (K × X)) (M : List (K × Y)) → keys_of (s ++ L) ≡ keys_of M → keys_of L ≡ keys_of (drop (length s) M)
  keys_of-drop [] L M same = same
  keys_of-drop (p ∷ s) L [] same = absurd cc
  keys_of-drop (p ∷ s) L (q ∷ M) same = let rest : keys_of (s ++ L) ≡ keys_of M = cc in keys_of-drop s L M rest

  -- the number of rows is the same
  length-cut : (S : List (List (K × X))) (M : List (K × Y)) → length (cut S M) ≡ length S
  length-cut [] M = refl
  length-cut (s ∷ S) M = ap suc (length-cut S (drop (length s) M))

  -- each row has the keys of the one that it is as long as
  row-cut : (S : List (List (K × X))) (M : List (K × Y)) → keys_of (flat_map (λ s. s) S) ≡ keys_of M → (i : ℕ) → keys_of (get_or S i []) ≡ keys_of (get_or (cut S M) i [])
  row-cut [] M same i = refl
  row-cut (s ∷ S) M same zero = keys_of-take s (flat_map (λ s. s) S) M same
  row-cut (s ∷ S) M same (suc i) = row-cut S (drop (length s) M) (keys_of-drop s (flat_map (λ s. s) S) M same) i

  -- and joined they are the list
  joined-cut : (S : List (List (K × X))) (M : List (K × Y)) → keys_of (flat_map (λ s. s) S) ≡ keys_of M → flat_map (λ s. s) (cut S M) ≡ M
  joined-cut [] [] same = refl
  joined-cut [] (q ∷ M) same = absurd cc
  joined-cut (s ∷ S) M same =
      ap (λ N. take (length s) M ++ N) (joined-cut S (drop (length s) M) (keys_of-drop s (flat_map (λ s. s) S) M same)) ∙ take-append-drop (length s) M

  -- whether a list is its own walk follows from its keys
  pub walk_of-same_keys : (number : K → ℕ) (L : List (K × X)) (M : List (K × Y)) (C : ℕ) → keys_of L ≡ keys_of M → walk_of number L C ≡ L → walk_of number M C ≡ M
  walk_of-same_keys number L M C same own =
      let S : List (List (K × X)) = map (slot_of number L C) (range_with_len 0 C) in
      let rows_same : keys_of (flat_map (λ s. s) S) ≡ keys_of M = ap keys_of (sym (flat_map-joined (slot_of number L C) (range_with_len 0 C)) ∙ own) ∙ same in
      let T : List (List (K × Y)) = cut S M in
      let n : length T ≡ C = length-cut S M ∙ length-map-range_with_len (slot_of number L C) 0 C in
      let slot : K × Y → ℕ = λ p. slot_number number p.0 C in
      let classes : AreClasses slot 0 T = λ i below.
      All-same_keys (λ k. slot_number number k C ≡ 0 + i) (get_or S i []) (get_or T i []) (row-cut S M rows_same i)
      (AreClasses-map (λ (p : K × X). slot_number number p.0 C) L C i (subst (λ m. i < m) (length-cut S M) below)) in
      let N : List (K × Y) = flat_map (λ s. s) T in
      subst (λ Z. walk_of number Z C ≡ Z) (joined-cut S M rows_same) (subst (λ m. flat_map (slot_of number N C) (range_with_len 0 m) ≡ N) n (flat_map-classes slot T classes))

module _ {K X Y : Type 0} (R : List (List (K × X))) (T : List (List (K × Y))) (same : row_keys R ≡ row_keys T) where
  length-row_keys : length R ≡ length T
  length-row_keys = sym (length-map R keys_of) ∙ ap length same ∙ length-map T keys_of

  row-same : (i : ℕ) → keys_of (get_or R i []) ≡ keys_of (get_or T i [])
  row-same i = sym (get_or-row_keys R i) ∙ ap (λ ks. get_or ks i []) same ∙ get_or-row_keys T i

  -- rows with the keys of a table are one
  pub IsTable-same_keys : (number : K → ℕ) → IsTable number R → IsTable number T
  IsTable-same_keys number table = record {
    capacity = subst IsCapacity length-row_keys table.capacity;
    in_place = λ i below.
        let InPlace : ℕ → Type 0 = λ n. All (λ p. slot_number number p.0 n ≡ i) (get_or R i []) in
        All-same_keys (λ k. slot_number number k (length T) ≡ i) (get_or R i []) (get_or T i []) (row-same i)
        (subst InPlace length-row_keys (table.in_place i (subst (λ n. i < n) (sym length-row_keys) below)));
  }
