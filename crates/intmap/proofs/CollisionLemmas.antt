-- The sizes of slots: in all there are as many pairs, and far fewer different sizes.
use Rattle.std.proofs.Common.{◌≡◌, inl, inr, ℕ, ◌+◌, ◌*◌, ◌-◌, ◌/◌, ◌^◌, ◌<◌, ◌≤◌, true, false, cond, List, [], ◌∷◌, ◌++◌, length, map, Some, None, refl, sym, ap, ◌∙◌, arith}
use Rattle.std.specs.Prelude.{◌==◌, nat_lt, filter}
use Rattle.std.specs.List.{list_any, flat_map, range_with_len, sum}
use Rattle.std.proofs.lemmas.Nat.{pow-add}
use Rattle.std.proofs.lemmas.Bool.{cases_Bool}
use Rattle.std.proofs.lemmas.Bool.Decides.{nat_tests}
use Rattle.std.proofs.lemmas.List.{append-nil, length-append, length-map}
use Rattle.std.proofs.lemmas.List.Concat.{length-flat_map}
use Rattle.std.proofs.lemmas.List.FromFn.{length-map-range_with_len, take-map-range_with_len, filter_of_map_range_with_len_more}
use Rattle.std.proofs.lemmas.List.Sums.{sum_by-cons, sum_by-take-le, sum-map, count_by-le-length, length-filter}
use Rattle.intmap_table.specs.Bindings.{value_of}
use Rattle.intmap_table.specs.Classes.{IsCapacity}
use Rattle.intmap_table.specs.Figures.{each_once, tally_of}
use Rattle.intmap.specs.Extending.{IsTally}
use Rattle.intmap.specs.Growth.{IsNext, IsWanted, is_due, NeedsTooMuch}
use Rattle.intmap.specs.Map.{MapState, IsMap, IsOutOfRange}
use Rattle.intmap_table.proofs.SlotNumberLemmas.{capacity-greatest}
use Rattle.intmap.proofs.LoadFactorLemmas.{MeetsLoad-from}
use Rattle.intmap_table.proofs.LoadLemmas.{length-each_once, times}
use Rattle.intmap.proofs.MadeLemmas.{IsMadeOf-factor}
use Rattle.intmap.proofs.TallyLemmas.{found, missing, value_of-tally_of, each_once-push}

-- three times the different sizes above 1 are hardly more than the pairs
few_sizes : (sizes : List ℕ) → 3 * length (each_once (filter (nat_lt 1) sizes)) ≤ sum sizes + cond (list_any (λ m. m == 2) (filter (nat_lt 1) sizes)) 1 0
few_sizes [] = omega arith
few_sizes (m ∷ sizes) =
    let rest = few_sizes sizes in let once = length-each_once m (filter (nat_lt 1) sizes) in let more = sum_by-cons (λ n. n) m sizes in
    grind (arith, nat_tests, rest, once, more)

-- a new map with that few pairs never needs more than 2^63 slots
NeedsTooMuch-few : (C n : ℕ) → IsCapacity C → 3 * n ≤ 2 ^ 64 → NeedsTooMuch (IsNext C n 909) → ⊥
NeedsTooMuch-few C n cap few much = elim (cases_Bool (is_due n)) [
  | inl due ↦
      (let wanted : IsWanted C n 909 much.0 = rw due at much.1 in
      let i : ℕ = 63 - cap.0 in
      let e : cap.0 + i ≡ 63 = (let below = cap.2 in omega (arith, below)) in
      let slots : C * 2 ^ i ≡ 2 ^ 63 = ap (λ c. c * 2 ^ i) cap.3 ∙ sym (pow-add 2 cap.0 i) ∙ ap (λ k. 2 ^ k) e in
      let over : 909 < n * 1000 / 2 ^ 63 = rw slots at (wanted.least i (let above = much.2 in omega (arith, slots, above))) in
      let meets : n * 1000 / 2 ^ 63 ≤ 909 = MeetsLoad-from n (2 ^ 63) 909 (omega arith) (omega (arith, few)) in
      omega (arith, over, meets))
  | inr not ↦ (let same : much.0 ≡ C = rw not at much.1 in let top = capacity-greatest C cap in let above = much.2 in omega (arith, same, top, above))
]

module _ {X : Type 0} (slot : ℕ → List X) where
  -- the sizes above 1 of slots 0, 1, .., n - 1
  abbrev pub collision_sizes_below : ℕ → List ℕ
  collision_sizes_below n = filter (nat_lt 1) (map (λ i. length (slot i)) (range_with_len 0 n))

  -- one slot more, of several pairs
  pub collision_sizes_below-crowded : (n : ℕ) → nat_lt 1 (length (slot n)) ≡ true → collision_sizes_below (n + 1) ≡ collision_sizes_below n ++ length (slot n) ∷ []
  collision_sizes_below-crowded n crowded = filter_of_map_range_with_len_more (nat_lt 1) (λ i. length (slot i)) 0 n n (omega arith) ∙ rw crowded refl

  -- one slot more, of one pair or none
  pub collision_sizes_below-alone : (n : ℕ) → nat_lt 1 (length (slot n)) ≡ false → collision_sizes_below (n + 1) ≡ collision_sizes_below n
  collision_sizes_below-alone n alone = filter_of_map_range_with_len_more (nat_lt 1) (λ i. length (slot i)) 0 n n (omega arith) ∙ rw alone (append-nil (collision_sizes_below n))

  -- no more sizes than slots
  length-collision_sizes_below : (n : ℕ) → length (collision_sizes_below n) ≤ n
  length-collision_sizes_below n =
      let f = length-filter (nat_lt 1) (map (λ i. length (slot i)) (range_with_len 0 n)) in
      let le = count_by-le-length (nat_lt 1) (map (λ i. length (slot i)) (range_with_len 0 n)) in
      let l = length-map-range_with_len (λ i. length (slot i)) 0 n in
      omega (arith, f, le, l)

  -- the pairs of the first slots are among all pairs
  sizes-below : (n C : ℕ) → n ≤ C → sum (map (λ i. length (slot i)) (range_with_len 0 n)) ≤ length (flat_map slot (range_with_len 0 C))
  sizes-below n C le =
      let first = ap sum (take-map-range_with_len (λ i. length (slot i)) 0 C n le) in
      let part = sum_by-take-le (λ k. k) (map (λ i. length (slot i)) (range_with_len 0 C)) n in
      let all = sum-map (λ i. length (slot i)) (range_with_len 0 C) in
      let len = length-flat_map slot (range_with_len 0 C) in
      omega (arith, first, part, all, len)

  module _ (C n : ℕ) (below : n < C) (m : MapState ℕ ℕ) (tally : IsTally (collision_sizes_below n) m) where
    -- each count is below 2^64 - 1
    pub count-below : C ≤ 2 ^ 63 → (q count : ℕ) → value_of (λ k. k) m.walk q ≡ Some count → count < 2 ^ 64 - 1
    count-below most q count bound =
        let here = found (list_any (λ k. k == q) (collision_sizes_below n)) (times q (collision_sizes_below n)) count (sym bound ∙ tally.counts q ∙ value_of-tally_of (collision_sizes_below n) q) in
        let le = count_by-le-length (λ k. k == q) (collision_sizes_below n) in
        let short = length-collision_sizes_below n in
        let is = here.1 in
        omega (arith, le, short, is, most, below)

    -- the next size is in range of the map
    pub size-in_range : length (flat_map slot (range_with_len 0 C)) < 2 ^ 64 → IsMap (λ k. k) (λ k. k < 2 ^ 64) m → nat_lt 1 (length (slot n)) ≡ true
        → IsOutOfRange (λ k. k) m.walk m.capacity m.factor (length (slot n)) → ⊥
    size-in_range fits is_map crowded out =
        let q : ℕ = length (slot n) in
        let none : value_of (λ k. k) m.walk q ≡ None = (let absent = out.0 in grind (arith, absent)) in
        let away = missing (list_any (λ k. k == q) (collision_sizes_below n)) (times q (collision_sizes_below n)) (sym none ∙ tally.counts q ∙ value_of-tally_of (collision_sizes_below n) q) in
        let once : each_once (collision_sizes_below n ++ q ∷ []) ≡ each_once (collision_sizes_below n) ++ q ∷ [] = each_once-push (collision_sizes_below n) q ∙ rw away refl in
        let more = ap length (ap each_once (collision_sizes_below-crowded n crowded) ∙ once) ∙ length-append (each_once (collision_sizes_below n)) (q ∷ []) in
        let len = tally.len ∙ length-map (each_once (collision_sizes_below n)) (λ k. (k, times k (collision_sizes_below n))) in
        let few = few_sizes (map (λ i. length (slot i)) (range_with_len 0 (n + 1))) in
        let one : cond {A = ℕ} (list_any (λ k. k == 2) (collision_sizes_below (n + 1))) 1 0 ≤ 1 = grind arith in
        let pairs = sizes-below (n + 1) C (omega (arith, below)) in
        let least : 3 * (length m.walk + 1) ≤ 2 ^ 64 = omega (arith, more, len, few, one, pairs, fits) in
        elim out.1 [
          | inl long ↦ omega (arith, long, least)
          | inr much ↦ NeedsTooMuch-few m.capacity (length m.walk + 1) is_map.capacity least (rw (IsMadeOf-factor (λ k. k) (λ k. k < 2 ^ 64) (tally_of (collision_sizes_below n)) m tally.made) at much)
        ]
