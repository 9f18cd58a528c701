-- Pairs that were located: what is there, and what a table is once one was written or removed.
use Rattle.std.proofs.Common.{◌≡◌, ◌≢◌, ℕ, zero, suc, ◌≤◌, Bool, true, cond, List, [], ◌∷◌, ◌++◌, length, Option, Some, None, IsSome, is_some, Result, Ok, Err, refl, sym, ap, ◌∙◌, subst, arith}
use Rattle.std.specs.Prelude.{All, IfOk, OnErr, is_ok, count_by, filter, position}
use Rattle.std.specs.List.{position_or_len, range_with_len}
use Rattle.std.proofs.lemmas.Bool.Decides.{nat_tests}
use Rattle.std.proofs.lemmas.List.{length_push}
use Rattle.std.proofs.lemmas.List.Elements.{All-cons, All-head, All-tail}
use Rattle.std.proofs.lemmas.List.Folds.{position_or_len_push}
use Rattle.std.proofs.lemmas.List.Sums.{sum_by-cons}
use Rattle.intmap_table.specs.Classes.{slot_number, same_key, agrees}
use Rattle.intmap_table.specs.Bindings.{value_of, IsPresent, put_pair, write_value}
use Rattle.intmap_table.specs.Locations.{IsAt}
use Rattle.intmap_table.specs.Tables.Slots.{write_at}
use Rattle.intmap_table.specs.Walk.{slot_of, walk_of}
use Rattle.intmap_table.proofs.WrittenLemmas.{slot_of-write_value}
use Rattle.intmap_table.specs.declared.table.locate.Location.{Location}
use Rattle.intmap_table.proofs.MappedLemmas.{flat_map-map}
use Rattle.intmap_table.proofs.PositionLemmas.{swap_out-none, position_or_len-none, position-from_none}
use Rattle.intmap_table.proofs.WalkLemmas.{same_key-slot, value_of-slot_of}

-- no more elements pass a test once others were left out
pub count_by-filter-le : {X : Type 0} (keep test : X → Bool) (xs : List X) → count_by test (filter keep xs) ≤ count_by test xs
count_by-filter-le keep test [] = omega arith
count_by-filter-le keep test (x ∷ xs) =
    let more = sum_by-cons (λ y. cond (test y) 1 0) x xs in
    let here = sum_by-cons (λ y. cond (test y) 1 0) x (filter keep xs) in
    let rest = count_by-filter-le keep test xs in
    grind (arith, more, here, rest)

-- the one that a push adds is found if none was found before
pub position-push : {X : Type 0} (test : X → Bool) (xs : List X) (x : X) → position test xs ≡ None → test x ≡ true → position test (xs ++ x ∷ []) ≡ Some (length xs)
position-push test xs x none passes =
    let all = position_or_len-none test xs none in let at = position_or_len_push test xs x in let longer = length_push xs x in
    grind (arith, nat_tests, all, at, longer, passes)

module _ {K X : Type 0} where
  -- what holds of all keys holds of them after a write
  pub All-write_at : (P : K → Type 0) (ps : List (K × X)) (i : ℕ) (v : X) → All (λ p. P p.0) ps → All (λ p. P p.0) (write_at ps i v)
  All-write_at P [] i v all = all
  All-write_at P (p ∷ ps) zero v all = All-cons (λ p. P p.0) (p.0, v) ps (All-head (λ p. P p.0) p ps all) (All-tail (λ p. P p.0) p ps all)
  All-write_at P (p ∷ ps) (suc i) v all =
      All-cons (λ p. P p.0) p (write_at ps i v) (All-head (λ p. P p.0) p ps all) (All-write_at P ps i v (All-tail (λ p. P p.0) p ps all))

module _ {K X : Type 0} (number : K → ℕ) where
  -- a key that isn't there is written for nothing
  write_value-missing : (L : List (K × X)) (k : K) (v : X) → count_by (λ p. same_key number k p.0) L ≡ 0 → write_value number L k v ≡ L
  write_value-missing [] k v none = refl
  write_value-missing (p ∷ L) k v none =
      let more = sum_by-cons (λ (q : K × X). cond (same_key number k q.0) 1 0) p L in
      let rest = write_value-missing L k v in
      grind (arith, more, rest, none)

  -- if the key occurs once at most, a write at its place is a write of its value
  pub write_at-position_or_len : (L : List (K × X)) (k : K) (v : X) → count_by (λ q. same_key number k q.0) L ≤ 1 → write_at L (position_or_len (λ q. same_key number k q.0) L) v ≡ write_value number L k v
  write_at-position_or_len [] k v once = refl
  write_at-position_or_len (p ∷ L) k v once =
      let more = sum_by-cons (λ (q : K × X). cond (same_key number k q.0) 1 0) p L in
      let missing = write_value-missing L k v in let rest = write_at-position_or_len L k v in grind (arith, once, more, missing, rest)

  -- another slot keeps its values
  pub slot_of-write_value-other : (L : List (K × X)) (C : ℕ) (k : K) (v : X) (j : ℕ) → slot_number number k C ≢ j → slot_of number (write_value number L k v) C j ≡ slot_of number L C j
  slot_of-write_value-other [] C k v j apart = refl
  slot_of-write_value-other (p ∷ L) C k v j apart =
      let same = same_key-slot number C k p in let rest = slot_of-write_value-other L C k v j apart in grind (arith, nat_tests, apart, same, rest)

  -- the walk of a list with a value written is the walk with it written
  pub walk_of-write_value : (L : List (K × X)) (C : ℕ) (k : K) (v : X) → walk_of number (write_value number L k v) C ≡ write_value number (walk_of number L C) k v
  walk_of-write_value L C k v =
      flat_map-map (λ p. cond (same_key number k p.0) (p.0, v) p) (slot_of number L C) (slot_of number (write_value number L k v) C) (slot_of-write_value number L C k v) (range_with_len 0 C)

module _ {K V : Type 0} (number : K → ℕ) where
  bound_from : (W : List (K × V)) (C : ℕ) (k : K) (i place : ℕ) (o : Option V) → value_of number (slot_of number W C i) k ≡ o → position (λ p. same_key number k p.0) (slot_of number W C i) ≡ Some place → IsSome o
  bound_from W C k i place None none is = let missed = position-from_none (same_key number k) (slot_of number W C i) none in cc
  bound_from W C k i place (Some v) some is = refl

  -- the key of a located pair is present
  pub IsPresent-at : (W : List (K × V)) (C : ℕ) (at : Location K) → IsAt number W C at → IsPresent number W at.key
  IsPresent-at W C at is =
      bound_from W C at.key at.slot at.place (value_of number W at.key) (ap (λ i. value_of number (slot_of number W C i) at.key) is.slot ∙ value_of-slot_of number C W at.key) is.place

  -- a key was located if and only if it is present
  pub is_ok-located : (W : List (K × V)) (C : ℕ) (k : K) (r : Result (Location K) ℕ) → IfOk r (λ at. (at.key ≡ k) × IsAt number W C at) → OnErr r (value_of number W k ≡ None) → is_ok r ≡ is_some (value_of number W k)
  is_ok-located W C k (Err slot) found missing = rw missing refl
  is_ok-located W C k (Ok at) found missing = sym (subst (IsPresent number W) found.0 (IsPresent-at W C at found.1))

module _ {K V : Type 0} (number : K → ℕ) where
  -- where a key is absent, its pair is put behind all others
  pub put_pair-new : (L : List (K × V)) (C : ℕ) (k : K) (v : V) → value_of number L k ≡ None → put_pair number L C k v ≡ L ++ (k, v) ∷ []
  put_pair-new L C k v missing = ap (λ M. M ++ (k, v) ∷ []) (swap_out-none (λ (p : K × V). same_key number k p.0) (λ p. agrees number C k p.0) L (position-from_none (same_key number k) L missing))
