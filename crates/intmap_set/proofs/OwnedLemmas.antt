-- What a new set has that was made of the keys of an iterator, and why its making may fail.
use Rattle.std.proofs.Common.{◌≡◌, ◌∙◌, inl, inr, ℕ, ◌+◌, ◌-◌, ◌*◌, ◌/◌, ◌%◌, ◌^◌, ◌<◌, ◌≤◌, Bool, true, false, cond, List, [], ◌∷◌, Some, refl, sym, ap, subst, length, take, arith}
use Rattle.std.proofs.lemmas.Bool.{cases_Bool, eqb-true}
use Rattle.std.proofs.lemmas.Iterator.{YieldsList, items_from_drains}
use Rattle.std.proofs.lemmas.Iterator.Consumers.{YieldsList-from_copied, YieldsList-from_first, YieldsList-so_far, nth_from_yields_List}
use Rattle.std.proofs.lemmas.List.{map-id}
use Rattle.std.proofs.lemmas.Nat.{pow-add}
use Rattle.std.proofs.lemmas.Option.{slice_get_within}
use Rattle.std.specs.Iterator.{YieldsFirstBy, YieldsThen}
use Rattle.std.specs.Iterator.Adapters.{copied_source, copied_steps}
use Rattle.std.specs.List.{slice_get}
use Rattle.std.specs.Prelude.{◌⊎◌, min, Option, Result, Ok, Err, IfOk, IfErr, MatchResult}
use Rattle.intmap.specs.declared.refusal.Cause.{Cause}
use Rattle.intmap.specs.declared.refusal.Cause.TheVariants.{Memory, TooLarge}
use Rattle.intmap.specs.declared.refusal.RefusedPair.{RefusedPair}
use Rattle.intmap.specs.Bindings.{HasDistinctKeys}
use Rattle.intmap.specs.Classes.{IsCapacity}
use Rattle.intmap.specs.Extending.{new_keys}
use Rattle.intmap.specs.Growth.{IsNext, IsWanted, MeetsLoad, is_due, last_due}
use Rattle.intmap.specs.Map.{IsOutOfRange}
use Rattle.intmap.proofs.SlotNumberLemmas.{capacity-greatest, capacity-positive}
use Rattle.intmap.proofs.LoadFactorLemmas.{IsLoaded-larger, MeetsLoad-fewer, last_due-most}
use Rattle.intmap_set.specs.Combined.{HaveSameMembers, IsUnion}
use Rattle.intmap_set.specs.Extending.{Extends, ExtendsUpTo, IsExtended, MayStop, StopsAmong}
use Rattle.intmap_set.specs.Sets.{SetState, IsSet, empty_set, holds, load_factor, paired}
use Rattle.intmap_set.proofs.ExtendLemmas.{count_new, new_keys-paired}
use Rattle.intmap_set.proofs.MemberLemmas.{length-paired}
use Rattle.intmap_set.proofs.SizeLemmas.{length-same_members}

-- the copies of a list's elements are these
pub copies-came : {K : Type 0} {s : _} {L : List K} → copied_source s ≡ L → YieldsList (copied_steps (YieldsFirstBy (λ key. key.now) (λ rest. rest))) (λ k. k) s L
copies-came is = YieldsList-from_copied (YieldsList-from_first (λ key. key.now) (λ rest. rest) _ is)

-- what follows of what was made
pub if_ok : {T E : Type 0} {P Q : T → Type 0} (R : E → Type 0) (r : Result T E) → MatchResult r P R → ((t : T) → P t → Q t) → IfOk r Q
if_ok R (Ok t) says follows = follows t says
if_ok R (Err e) says follows = tt

-- what follows of an error
pub if_err : {T E : Type 0} {R Q : E → Type 0} (P : T → Type 0) (r : Result T E) → MatchResult r P R → ((e : E) → R e → Q e) → IfErr r Q
if_err P (Ok t) says follows = tt
if_err P (Err e) says follows = follows e says

-- what follows of what was made, by two facts
pub if_ok_both : {T E : Type 0} {P V Q : T → Type 0} (R : E → Type 0) (r : Result T E) → MatchResult r P R → IfOk r V → ((t : T) → P t → V t → Q t) → IfOk r Q
if_ok_both R (Ok t) says holds follows = follows t says holds
if_ok_both R (Err e) says holds follows = tt

-- a cause that isn't the one is the other
pub only_memory : (cause : Cause) → (cause ≡ TooLarge → ⊥) → cause ≡ Memory
only_memory Memory other = refl
only_memory TooLarge other = absurd (other refl)

-- if more than 2^63 slots follow, 2^63 slots don't meet the load, and the load is checked
exceeds-greatest : (C n F D : ℕ) → IsCapacity C → IsNext C n F D → 2 ^ 63 < D → (is_due n ≡ true) × (F < n * 1000 / 2 ^ 63)
exceeds-greatest C n F D room next above = elim (cases_Bool (is_due n)) [
  | inl due ↦
      (let wanted : IsWanted C n F D = rw due at next in
      let all : room.0 + (63 - room.0) ≡ 63 = (let below = room.2 in omega (arith, below)) in
      let pow : 2 ^ room.0 * 2 ^ (63 - room.0) ≡ 2 ^ 63 = sym (pow-add 2 room.0 (63 - room.0)) ∙ ap (λ e. 2 ^ e) all in
      let is : C * 2 ^ (63 - room.0) ≡ 2 ^ 63 = ap (λ c. c * 2 ^ (63 - room.0)) room.3 ∙ pow in
      (due, subst (λ x. F < n * 1000 / x) is (wanted.least (63 - room.0) (omega (arith, is, above)))))
  | inr not ↦ (let same : D ≡ C = rw not at next in let top = capacity-greatest C room in absurd (omega (arith, same, top, above)))
]

module _ {K : Type 0} (number : K → ℕ) (is_valid : K → Type 0) where
  -- no more keys are new than there are
  count_new-most : (W ks : List K) → count_new number W ks ≤ length ks
  count_new-most W [] = omega arith
  count_new-most W (k ∷ ks) = subst (λ l. length l ≤ length (k ∷ ks)) (sym (new_keys-paired number W k ks)) (at (holds number W k) (count_new-most W ks) (count_new-most (k ∷ W) ks))
    where
      at : (b : Bool) → count_new number W ks ≤ length ks → count_new number (k ∷ W) ks ≤ length ks
          → length (cond b (new_keys number (paired W) (paired ks)) (k ∷ new_keys number (paired (k ∷ W)) (paired ks))) ≤ length (k ∷ ks)
      at true rest other = omega (arith, rest)
      at false other rest = omega (arith, rest)

  -- if a key is out of range, one member more would exceed the load in 2^63 slots
  out_of_range-exceeds : (t : SetState K) (k : K) → IsSet number is_valid t → IsOutOfRange number (paired t.walk) t.capacity load_factor k
      → (2 ^ 64 ≤ length t.walk + 1) ⊎ ((is_due (length t.walk + 1) ≡ true) × (load_factor < (length t.walk + 1) * 1000 / 2 ^ 63))
  out_of_range-exceeds t k is (none, inl over) = let same = length-paired t.walk in inl (omega (arith, same, over))
  out_of_range-exceeds t k is (none, inr much) =
      inr (exceeds-greatest t.capacity (length t.walk + 1) load_factor much.0 is.capacity
      (subst (λ l. IsNext t.capacity (l + 1) load_factor much.0) (length-paired t.walk) much.1) much.2)

  -- no member more is out of range than a set has
  within-range : (s t : SetState K) (k : K) → IsSet number is_valid s → IsSet number is_valid t → length t.walk + 1 ≤ length s.walk
      → IsOutOfRange number (paired t.walk) t.capacity load_factor k → ⊥
  within-range s t k big small fewer beyond = at (out_of_range-exceeds t k small beyond)
    where
      count : length s.walk < 2 ^ 64
      count = let c = big.count in let same = length-paired s.walk in omega (arith, c, same)

      at : (2 ^ 64 ≤ length t.walk + 1) ⊎ ((is_due (length t.walk + 1) ≡ true) × (load_factor < (length t.walk + 1) * 1000 / 2 ^ 63)) → ⊥
      at (inl over) = let c = count in omega (arith, over, c, fewer)
      at (inr (due, over)) =
          let n : ℕ = length s.walk in
          let most = last_due-most (length t.walk + 1) n fewer due in
          let four : 4 ≤ n = due-four (length t.walk + 1) n due fewer in
          let loaded : 4 ≤ n → MeetsLoad s.capacity (last_due n) load_factor = subst (λ l. 4 ≤ l → MeetsLoad s.capacity (last_due l) load_factor) (length-paired s.walk) big.load in
          let some = capacity-positive s.capacity big.capacity in
          let top = IsLoaded-larger s.capacity (2 ^ 63) n load_factor some (capacity-greatest s.capacity big.capacity) loaded in
          let meets = MeetsLoad-fewer (2 ^ 63) (last_due n) (length t.walk + 1) load_factor (omega arith) (top four) most in
          omega (arith, meets, over)
        where
          due-four : (m n : ℕ) → is_due m ≡ true → m ≤ n → 4 ≤ n
          due-four m n due le = let one : m / 4 % 2 ≡ 1 = eqb-true (m / 4 % 2) 1 due in omega (arith, one, le)

  module _ {I : Type 0} {steps : I → Option K → I → Type 0} {i : I} {all : List K} (yields : YieldsList steps (λ k. k) i all) where
    -- the keys that came were inserted
    pub extended-all : (s t : SetState K) → Extends number is_valid steps i s t → IsExtended number is_valid s all t
    extended-all s t told =
        subst (λ ks. IsExtended number is_valid s ks t)
        (sym (map-id told.keys) ∙ items_from_drains told.keys (told.came.1.0, told.came.1.1, λ _. (told.came.0, told.came.1.2)) yields) told.extended

    -- an extended set has its members and the keys
    pub members-extended : (s t : SetState K) → Extends number is_valid steps i s t → IsUnion number s.walk all t.walk
    members-extended s t told = (extended-all s t told).updates

    -- a new set has the keys, and no others
    pub members-made : (t : SetState K) → Extends number is_valid steps i (empty_set 4) t → HaveSameMembers number t.walk all
    members-made t told = members-extended (empty_set 4) t told

    -- and as many
    pub length-made : HasDistinctKeys number (paired all) → (t : SetState K) → Extends number is_valid steps i (empty_set 4) t → IsSet number is_valid t → length t.walk ≡ length all
    length-made distinct t told is = length-same_members number t.walk all is.distinct distinct (members-made t told)

    -- the key that failed came behind those that were inserted
    next-came : (ks : List K) (k : K) (rest : I) → YieldsThen steps i ks (Some k) rest → slice_get all (length ks) ≡ Some k
    next-came ks k rest came = sym (nth_from_yields_List (Some k) rest (length ks) (ks, came, refl) yields)

    -- those that were inserted came first
    first-came : (ks : List K) (k : K) (rest : I) → YieldsThen steps i ks (Some k) rest → ks ≡ take (length ks) all
    first-came ks k rest came = sym (map-id ks) ∙ YieldsList-so_far yields ks came.0 came.1

    -- one more than the set then has came
    length-stopped : (refused : RefusedPair K (Unit {0})) (t : SetState K) (told : ExtendsUpTo number is_valid steps i (empty_set 4) refused t) → length told.before.walk + 1 ≤ length all
    length-stopped refused t told =
        let within = slice_get_within all (length told.keys) refused.key (next-came told.keys refused.key told.rest told.came) in
        let new = count_new-most [] told.keys in let len = told.extended.len in
        omega (arith, within, new, len)

    -- it fails as too large only if all keys exceed the load in 2^63 slots
    pub too_large-made : (cause : Cause) → MayStop number is_valid steps i (empty_set 4) cause → cause ≡ TooLarge → load_factor < length all * 1000 / 2 ^ 63
    too_large-made cause (inl memory) is = absurd (memory≢too_large (sym memory ∙ is))
      where
        memory≢too_large : Memory ≡ TooLarge → ⊥
        memory≢too_large same = cc
    too_large-made cause (inr (refused, t, told, set, same)) is =
        at told.before.walk (length-stopped refused t told)
        (out_of_range-exceeds told.before refused.key (subst (IsSet number is_valid) told.after set) (told.may_refuse.too_large.0 (sym same ∙ is)))
      where
        at : (W : List K) → length W + 1 ≤ length all → (2 ^ 64 ≤ length W + 1) ⊎ ((is_due (length W + 1) ≡ true) × (load_factor < (length W + 1) * 1000 / 2 ^ 63))
            → load_factor < length all * 1000 / 2 ^ 63
        at W fewer (inl over) = omega (arith, fewer, over)
        at W fewer (inr (due, over)) = omega (arith, fewer, over)

    -- and never if a set has as many members
    pub memory-made : (s : SetState K) → IsSet number is_valid s → length all ≤ length s.walk → (cause : Cause) → MayStop number is_valid steps i (empty_set 4) cause → cause ≡ Memory
    memory-made s big fewer cause (inl memory) = memory
    memory-made s big fewer cause (inr (refused, t, told, set, same)) =
        only_memory cause (λ is. within-range s told.before refused.key big (subst (IsSet number is_valid) told.after set) (let more = length-stopped refused t told in omega (arith, more, fewer)) (told.may_refuse.too_large.0 (sym same ∙ is)))

    -- where an extension stopped, in the list of the keys
    pub stops-among : (s : SetState K) (refused : RefusedPair K (Unit {0})) (t : SetState K) → length all < 2 ^ 64 → ExtendsUpTo number is_valid steps i s refused t
        → StopsAmong number is_valid s all refused t
    stops-among s refused t count told =
        let next = next-came told.keys refused.key told.rest told.came in
        let within = slice_get_within all (length told.keys) refused.key next in
        let many : refused.applied ≡ length told.keys = told.applied ∙ min-below (length told.keys) (2 ^ 64 - 1) (omega (arith, within, count)) in
        record {
          next = ap (slice_get all) many ∙ next;
          before = told.before;
          extended = subst (λ ks. IsExtended number is_valid s ks told.before) (first-came told.keys refused.key told.rest told.came ∙ ap (λ n. take n all) (sym many)) told.extended;
          may_refuse = told.may_refuse;
          after = told.after;
        }
      where
        min-below : (m n : ℕ) → m ≤ n → min m n ≡ m
        min-below m n le = omega (arith, le)
