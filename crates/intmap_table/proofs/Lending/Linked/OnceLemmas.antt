-- Places that stand once in a list, if chains end and each place belongs to one slot.
use Rattle.std.proofs.Common.{◌≡◌, ℕ, zero, suc, ◌+◌, ◌-◌, ◌<◌, ◌≤◌, List, [], ◌∷◌, ◌++◌, length, get_or, refl, ap, subst, arith}
use Rattle.std.specs.declared.option.Option.{Option}
use Rattle.std.specs.declared.option.Option.TheVariants.{None, Some}
use Rattle.intmap_table.proofs.Lending.Linked.PlacesLemmas.{link_at, passing, trail, slot_places, walk_from, Absent, AreOnce}

module _ (r : ℕ → ℕ) where
  -- the measure of each of these places is below b, is b, and is at least b
  abbrev pub Below : ℕ → List ℕ → Type 0
  Below b [] = Unit {0}
  Below b (u ∷ O) = (r u < b) × Below b O

  abbrev pub AllAt : ℕ → List ℕ → Type 0
  AllAt b [] = Unit {0}
  AllAt b (u ∷ O) = (r u ≡ b) × AllAt b O

  abbrev pub AllFrom : ℕ → List ℕ → Type 0
  AllFrom b [] = Unit {0}
  AllFrom b (u ∷ O) = (b ≤ r u) × AllFrom b O

  absent-below : (t b : ℕ) (O : List ℕ) → b ≤ r t → Below b O → Absent t O
  absent-below t b [] le h = tt
  absent-below t b (u ∷ O) le h = ((λ e. let same : r u ≡ r t = ap r e in absurd (let x = h.0 in omega (arith, same, x, le))), absent-below t b O le h.1)

  Below-le : (b c : ℕ) (O : List ℕ) → b ≤ c → Below b O → Below c O
  Below-le b c [] le h = tt
  Below-le b c (u ∷ O) le h = ((let x = h.0 in omega (arith, x, le)), Below-le b c O le h.1)

  absent-from : (t i : ℕ) (O : List ℕ) → r t ≡ i → AllFrom (suc i) O → Absent t O
  absent-from t i [] e h = tt
  absent-from t i (u ∷ O) e h = ((λ s. let same : r u ≡ r t = ap r s in absurd (let x = h.0 in omega (arith, same, x, e))), absent-from t i O e h.1)

  absent-append : (t : ℕ) (O Q : List ℕ) → Absent t O → Absent t Q → Absent t (O ++ Q)
  absent-append t [] Q a b = b
  absent-append t (u ∷ O) Q a b = (a.0, absent-append t O Q a.1 b)

  once-append : (i : ℕ) (O Q : List ℕ) → AreOnce O → AllAt i O → AreOnce Q → AllFrom (suc i) Q → AreOnce (O ++ Q)
  once-append i [] Q a s b f = b
  once-append i (t ∷ O) Q a s b f = (absent-append t O Q a.0 (absent-from t i Q s.0 f), once-append i O Q a.1 s.1 b f)

  from-append : (i : ℕ) (O Q : List ℕ) → AllAt i O → AllFrom (suc i) Q → AllFrom i (O ++ Q)
  from-append i [] [] s f = tt
  from-append i [] (u ∷ Q) s f = ((let x = f.0 in omega (arith, x)), from-append i [] Q tt f.1)
  from-append i (t ∷ O) Q s f = ((let x = s.0 in omega (arith, x)), from-append i O Q s.1 f)

  -- the places of slots stand once if those of each slot do and its number is their measure
  pub walk_from-once : (m : ℕ) (links : List (Option ℕ)) (i : ℕ) (T : List (Option ℕ))
      → ((k : ℕ) → k < length T → AreOnce (slot_places m links (i + k) (get_or T k None)) × AllAt (i + k) (slot_places m links (i + k) (get_or T k None)))
      → AreOnce (walk_from m links i T) × AllFrom i (walk_from m links i T)
  walk_from-once m links i [] each = (tt, tt)
  walk_from-once m links i (s ∷ T) each =
      let z : i + 0 ≡ i = omega arith in
      let here : AreOnce (slot_places m links i s) × AllAt i (slot_places m links i s) =
      subst (λ n. AreOnce (slot_places m links n s) × AllAt n (slot_places m links n s)) z (each 0 (omega arith)) in
      let rest = walk_from-once m links (suc i) T (λ k b. let e : i + suc k ≡ suc i + k = omega arith in
      subst (λ n. AreOnce (slot_places m links n (get_or T k None)) × AllAt n (slot_places m links n (get_or T k None))) e (each (suc k) (omega (arith, b)))) in (
        once-append i (slot_places m links i s) (walk_from m links (suc i) T) here.0 here.1 rest.0 rest.1,
        from-append i (slot_places m links i s) (walk_from m links (suc i) T) here.1 rest.1,
      )

-- Links that lead on to chains of a lesser rank, each time by one
module _ (m : ℕ) (links : List (Option ℕ)) (rank : ℕ → ℕ) (E : ℕ → Type 0)
    (next : (l n : ℕ) → E l → link_at links l ≡ Some n → E n × (rank l ≡ suc (rank n))) where
  abbrev pub by_rank : ℕ → ℕ
  by_rank u = rank (u - m)

  abbrev Fine : ℕ → List ℕ → Type 0
  Fine l O = AreOnce O × Below by_rank (suc (rank l)) O

  passing-once : (l : ℕ) (s : Option ℕ) → link_at links l ≡ s → E l → (more : ℕ → List ℕ) → ((n : ℕ) → E n → Fine n (more n)) → Fine l (passing s (m + l) more)
  passing-once l None is ends more each = (tt, tt)
  passing-once l (Some n) is ends more each =
      let on = next l n ends is in
      let rest = each n on.0 in
      let e : m + l - m ≡ l = omega arith in
      let here : by_rank (m + l) ≡ rank l = ap rank e in
      let up = on.1 in (
        (absent-below by_rank (m + l) (suc (rank n)) (more n) (omega (arith, here, up)) rest.1, rest.0),
        (omega (arith, here), Below-le by_rank (suc (rank n)) (suc (rank l)) (more n) (omega (arith, up)) rest.1),
      )

  pub trail-once : (fuel l : ℕ) → E l → Fine l (trail m links fuel l)
  trail-once zero l ends = (tt, tt)
  trail-once (suc fuel) l ends = passing-once l (link_at links l) refl ends (trail m links fuel) (trail-once fuel)

  -- the places of slots are before those of nodes
  passing-behind : (i l : ℕ) (s : Option ℕ) → i < m → (more : ℕ → List ℕ) → ((n : ℕ) → Absent i (more n)) → Absent i (passing s (m + l) more)
  passing-behind i l None less more each = tt
  passing-behind i l (Some n) less more each = ((λ e. absurd (omega (arith, e, less))), each n)

  pub trail-behind : (i fuel l : ℕ) → i < m → Absent i (trail m links fuel l)
  trail-behind i zero l less = tt
  trail-behind i (suc fuel) l less = passing-behind i l (link_at links l) less (trail m links fuel) (λ n. trail-behind i fuel n less)
