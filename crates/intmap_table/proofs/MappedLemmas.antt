-- What counts, sums and walks of lists are once each element was mapped by h.
use Rattle.std.proofs.Common.{◌≡◌, ℕ, Bool, List, [], ◌∷◌, map, length, refl, sym, ap, ◌∙◌, arith}
use Rattle.std.specs.Prelude.{filter, count_by}
use Rattle.std.specs.List.{flat_map, list_any}
use Rattle.std.proofs.lemmas.List.{map-append, length-map}
use Rattle.std.proofs.lemmas.List.Sums.{length-filter}
use Rattle.intmap_table.specs.Bindings.{last_passing, without_last, swap_out}

module _ {X Y : Type 0} (h : X → Y) where
  filter-map : (test : Y → Bool) (xs : List X) → filter test (map h xs) ≡ map h (filter (λ x. test (h x)) xs)
  filter-map test [] = refl
  filter-map test (x ∷ xs) = let e = filter-map test xs in grind (arith, e)

  list_any-map : (test : Y → Bool) (xs : List X) → list_any test (map h xs) ≡ list_any (λ x. test (h x)) xs
  list_any-map test [] = refl
  list_any-map test (x ∷ xs) = let e = list_any-map test xs in grind (arith, e)

  last_passing-map : (test : Y → Bool) (d : X) (xs : List X) → last_passing test (h d) (map h xs) ≡ h (last_passing (λ x. test (h x)) d xs)
  last_passing-map test d [] = refl
  last_passing-map test d (x ∷ xs) = let a = last_passing-map test d xs in let b = last_passing-map test x xs in grind (arith, a, b)

  without_last-map : (test : Y → Bool) (xs : List X) → without_last test (map h xs) ≡ map h (without_last (λ x. test (h x)) xs)
  without_last-map test [] = refl
  without_last-map test (x ∷ xs) = let e = without_last-map test xs in let a = list_any-map test xs in grind (arith, e, a)

  pub swap_out-map : (is_it in_class : Y → Bool) (xs : List X) → swap_out is_it in_class (map h xs) ≡ map h (swap_out (λ x. is_it (h x)) (λ x. in_class (h x)) xs)
  swap_out-map is_it in_class [] = refl
  swap_out-map is_it in_class (x ∷ xs) =
      let e = swap_out-map is_it in_class xs in let a = list_any-map in_class xs in
      let l = last_passing-map in_class x xs in let w = without_last-map in_class xs in
      grind (arith, e, a, l, w)

  pub flat_map-map : (g : ℕ → List X) (g' : ℕ → List Y) → ((i : ℕ) → g' i ≡ map h (g i)) → (ns : List ℕ) → flat_map g' ns ≡ map h (flat_map g ns)
  flat_map-map g g' same [] = refl
  flat_map-map g g' same (n ∷ ns) = simp (same n, flat_map-map g g' same ns, map-append)

  pub count_by-map : (test : Y → Bool) (xs : List X) → count_by test (map h xs) ≡ count_by (λ x. test (h x)) xs
  count_by-map test xs =
      sym (length-filter test (map h xs)) ∙ ap length (filter-map test xs)
      ∙ length-map (filter (λ x. test (h x)) xs) h ∙ length-filter (λ x. test (h x)) xs
