-- Values written in their places, calls of entries and a walk of which some pairs stay are one step of every list that stands for the map.
use Rattle.std.proofs.Common.{◌≡◌, inl, inr, ℕ, Bool, Some, None, refl, sym, ap, subst, ◌∙◌}
use Rattle.std.specs.Prelude.{IsNone}
use Rattle.intmap.specs.Bindings.{value_of, take_key, write_value, keep_pairs}
use Rattle.intmap.specs.Classes.{same_key}
use Rattle.intmap.specs.Map.{MapState, IsMap, Fits, after_search, after_insert, after_remove, with_pair, without_key, written}
use Rattle.intmap.specs.PlainLists.{PlainList, Stands, looked_up, RefusalIsDue, list_of}
use Rattle.intmap.specs.declared.refusal.Cause.{Cause}
use Rattle.intmap_run.specs.declared.command.Command.{Command}
use Rattle.intmap_run.specs.declared.command.Command.TheVariants as command
use Rattle.intmap_run.specs.declared.answer.Answer.{Answer}
use Rattle.intmap_run.specs.declared.answer.Answer.TheVariants as answer
use Rattle.intmap_run.specs.Runs.{AnswersWrite}
use Rattle.intmap_run.specs.Steps.{StepsFrom}
use Rattle.intmap.proofs.PositionLemmas.{swap_out-none, position-from_none}
use Rattle.intmap_run.proofs.MapStandLemmas.{value_of-stands, compared-stands, walk_of-write_value-stands, walk_of-keep_pairs-stands}
use Rattle.intmap_run.proofs.StepLemmas.{accepted, may_searched, with_pair_in, StepsFrom-searched, StepsFrom-remove}

module _ {K V : Type 0} (number : K → ℕ) (is_valid : K → Type 0) (m : MapState K V) (is_map : IsMap number is_valid m) where
  -- the list with a value written stands for the map with that value written
  Stands-written : (k : K) (v : V) (s : PlainList K V) → Stands number s m
      → Stands number (record (looked_up number s k) { pairs = write_value number s.pairs k v }) (written number (after_search number m k) k v)
  Stands-written k v s stands = record {
    walk = walk_of-write_value-stands stands k v;
    capacity = stands.capacity;
    factor = stands.factor;
    placed = stands.placed;
    compared = compared-stands is_map stands k;
  }

module _ {K V S A : Type 0} (number : K → ℕ) (is_valid : K → Type 0) (m : MapState K V) (is_map : IsMap number is_valid m) (sees : V → S → Type 0) (keeps : K → V → Bool) where
  -- the answer of a value that is written is the value before
  AnswersWrite-bound : (k : K) (v old : V) → value_of number m.walk k ≡ Some old → (s : PlainList K V) → Stands number s m
      → AnswersWrite {A = A} number sees keeps (looked_up number s k) k v (answer.Old (Some old)) (record (looked_up number s k) { pairs = write_value number s.pairs k v })
  AnswersWrite-bound k v old bound s stands =
      let same : value_of number s.pairs k ≡ Some old = value_of-stands is_map stands k ∙ bound in
      (ap (λ o. answer.Old o) (sym same), rw same refl, refl)

  -- a value written through a reference
  pub StepsFrom-get_mut : (k : K) (v old : V) → value_of number m.walk k ≡ Some old
      → StepsFrom {A = A} number sees keeps m (command.GetMut k v) (answer.Old (Some old)) (written number (after_search number m k) k v)
  StepsFrom-get_mut k v old bound s stands = (
    record (looked_up number s k) { pairs = write_value number s.pairs k v },
    record {
      answers = inl (AnswersWrite-bound k v old bound s stands);
      stands = Stands-written number is_valid m is_map k v s stands;
    },
  )

  -- a value that has no place to be written in
  pub StepsFrom-back : (k : K) (v : V) → value_of number m.walk k ≡ None
      → StepsFrom {A = A} number sees keeps m (command.GetMut k v) (answer.Back v) (after_search number m k)
  StepsFrom-back k v missing s stands =
      let none : IsNone (value_of number s.pairs k) = rw (value_of-stands is_map stands k, missing) refl in
      StepsFrom-searched number is_valid m is_map sees keeps k (command.GetMut k v) (answer.Back v) s stands (inr (refl, none, refl))

  StepsFrom-entry_bound : (k : K) (v old : V) → value_of number m.walk k ≡ Some old
      → StepsFrom {A = A} number sees keeps m (command.EntryInsert k v) (answer.Old (Some old)) (written number (after_search number m k) k v)
  StepsFrom-entry_bound k v old bound s stands =
      let t : PlainList K V = record (looked_up number s k) { pairs = write_value number s.pairs k v } in (
        t,
        record {
          answers = inl (AnswersWrite-bound k v old bound s stands);
          stands = Stands-written number is_valid m is_map k v s stands;
        },
      )

  StepsFrom-entry_missing : (k : K) (v : V) (D : ℕ) → value_of number m.walk k ≡ None → Fits number m.walk m.capacity m.factor k D
      → StepsFrom {A = A} number sees keeps m (command.EntryInsert k v) answer.Fresh (after_insert number m k v D)
  StepsFrom-entry_missing k v D missing fits s stands =
      let none : IsNone (value_of number s.pairs k) = rw (value_of-stands is_map stands k, missing) refl in
      let left = accepted number is_valid m is_map k v (after_insert number m k v D) fits refl s stands in (
        with_pair_in number s k v D,
        record {
          answers = inr (inl (refl, none, left.inserts));
          stands = left.stands;
        },
      )

  StepsFrom-entry_refused : (k : K) (v : V) (cause : Cause) → RefusalIsDue number (list_of m) k cause
      → StepsFrom {A = A} number sees keeps m (command.EntryInsert k v) (answer.Refused cause (Some v)) (after_search number m k)
  StepsFrom-entry_refused k v cause due s stands =
      let refused = may_searched number is_valid m is_map k cause due s stands in
      StepsFrom-searched number is_valid m is_map sees keeps k (command.EntryInsert k v) (answer.Refused cause (Some v)) s stands (inr (inr (cause, refl, refused, refl)))

  StepsFrom-taken : (k : K) (old : V) → value_of number m.walk k ≡ Some old
      → StepsFrom {A = A} number sees keeps m (command.EntryRemove k) (answer.Old (Some old)) (after_remove number m k)
  StepsFrom-taken k old bound s stands =
      let step = StepsFrom-remove number is_valid m is_map sees keeps k s stands in
      (step.0, record { answers = (ap (λ o. answer.Old o) (sym bound) ∙ step.1.answers.0, step.1.answers.1); stands = step.1.stands })

  StepsFrom-not_taken : (k : K) → value_of number m.walk k ≡ None
      → StepsFrom {A = A} number sees keeps m (command.EntryRemove k) (answer.Old None) (after_search number m k)
  StepsFrom-not_taken k missing s stands =
      let none : value_of number s.pairs k ≡ None = value_of-stands is_map stands k ∙ missing in
      let same : take_key number s.pairs s.capacity k ≡ s.pairs = swap_out-none _ _ s.pairs (position-from_none (same_key number k) s.pairs none) in
      StepsFrom-searched number is_valid m is_map sees keeps k (command.EntryRemove k) (answer.Old None) s stands
      (ap (λ o. answer.Old o) (sym none), ap (λ L. record (looked_up number s k) { pairs = L }) (sym same))

  module _ (k q : K) (x : MapState K V) (searched : x ≡ after_search number m k) (same_key : q ≡ k) where
    -- a value written by an entry, of which x is the map and q the key
    pub StepsFrom-entry_insert : (v old : V) → value_of number x.walk q ≡ Some old
        → StepsFrom {A = A} number sees keeps m (command.EntryInsert k v) (answer.Old (Some old)) (written number x q v)
    StepsFrom-entry_insert v old bound = rw (searched, same_key) (StepsFrom-entry_bound k v old (rw (searched, same_key) at bound))

    -- a pair put in by an entry
    pub StepsFrom-fresh : (v w : V) (D : ℕ) → value_of number x.walk q ≡ None → w ≡ v → Fits number x.walk x.capacity x.factor q D
        → StepsFrom {A = A} number sees keeps m (command.EntryInsert k v) answer.Fresh (with_pair number x q w D)
    StepsFrom-fresh v w D missing value fits =
        rw (searched, same_key, value) (StepsFrom-entry_missing k v D (rw (searched, same_key) at missing) (subst (λ (r : MapState K V × K). Fits number r.0.walk r.0.capacity r.0.factor r.1 D) (λ i. (searched i, same_key i)) fits))

    -- a pair that an entry couldn't put in
    pub StepsFrom-not_fresh : (v : V) (cause : Cause) → RefusalIsDue number (list_of x) q cause
        → StepsFrom {A = A} number sees keeps m (command.EntryInsert k v) (answer.Refused cause (Some v)) x
    StepsFrom-not_fresh v cause due =
        let after : RefusalIsDue number (list_of (after_search number m k)) k cause = rw (searched, same_key) at due in
        rw searched (StepsFrom-entry_refused k v cause (record { new_key = after.new_key; too_large = after.too_large; memory = after.memory }))

    -- a pair that an entry removed
    pub StepsFrom-entry_remove : (old : V) → value_of number x.walk q ≡ Some old
        → StepsFrom {A = A} number sees keeps m (command.EntryRemove k) (answer.Old (Some old)) (without_key number x q)
    StepsFrom-entry_remove old bound = rw (searched, same_key) (StepsFrom-taken k old (rw (searched, same_key) at bound))

    -- an entry with no pair to take out
    pub StepsFrom-not_removed : value_of number x.walk q ≡ None
        → StepsFrom {A = A} number sees keeps m (command.EntryRemove k) (answer.Old None) x
    StepsFrom-not_removed missing = rw searched (StepsFrom-not_taken k (rw (searched, same_key) at missing))

module _ {K V S A : Type 0} (number : K → ℕ) (sees : V → S → Type 0) (keeps : K → V → Bool) (m : MapState K V) where
  -- the same map is left by the same step
  pub StepsFrom-equal : (c : Command K V A) (a : Answer K V S A) (n n' : MapState K V) → StepsFrom number sees keeps m c a n → n' ≡ n → StepsFrom number sees keeps m c a n'
  StepsFrom-equal c a n n' step same = rw same step

  StepsFrom-kept : StepsFrom {A = A} number sees keeps m command.Retain answer.Done (record m { walk = keep_pairs keeps m.walk })
  StepsFrom-kept s stands = (
    record s { pairs = keep_pairs keeps s.pairs },
    record {
      answers = (refl, refl);
      stands = record { walk = walk_of-keep_pairs-stands stands keeps; capacity = stands.capacity; factor = stands.factor; placed = stands.placed; compared = stands.compared };
    },
  )

  -- a walk of which the pairs stay that the judge keeps
  pub StepsFrom-retain : (n : MapState K V) → n ≡ record m { walk = n.walk } → n.walk ≡ keep_pairs keeps m.walk → StepsFrom {A = A} number sees keeps m command.Retain answer.Done n
  StepsFrom-retain n state walk = StepsFrom-equal command.Retain answer.Done _ n StepsFrom-kept (state ∙ ap (λ W. record m { walk = W }) walk)
