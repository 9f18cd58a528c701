-- One call on a map is one step of every list that stands for the map.
use Rattle.std.proofs.Common.{◌≡◌, inl, inr, ℕ, ◌+◌, cond, Bool, true, false, [], length, is_some, Option, Some, None, refl, sym, ap, subst, ◌∙◌, lit<}
use Rattle.std.specs.Prelude.{◌==◌, IsNone, IsSome, is_none, MatchBool}
use Rattle.std.specs.List.{AllZip}
use Rattle.std.specs.Map.{keys_of, values_of}
use Rattle.std.specs.declared.vec.Vec.{Vec}
use Rattle.intmap.specs.Bindings.{value_of, take_key, put_pair}
use Rattle.intmap.specs.Classes.{IsCapacity}
use Rattle.intmap.specs.Figures.{load_of, rate_of}
use Rattle.intmap.specs.Map.{MapState, IsMap, Fits, after_search, after_insert, after_remove, emptied}
use Rattle.intmap.specs.PlainLists.{PlainList, Stands, looked_up, ListInserts, RefusalIsDue, list_of}
use Rattle.intmap.specs.declared.refusal.Cause.{Cause}
use Rattle.intmap_run.specs.declared.command.Command.{Command}
use Rattle.intmap_run.specs.declared.command.Command.TheVariants as command
use Rattle.intmap_run.specs.declared.answer.Answer.{Answer}
use Rattle.intmap_run.specs.declared.answer.Answer.TheVariants as answer
use Rattle.intmap_run.specs.Runs.{SeesOption, SeesPair, Answers}
use Rattle.intmap_run.specs.Steps.{Step, StepsFrom}
use Rattle.intmap.proofs.MapLemmas.{IsMapWalk-empty}
use Rattle.intmap_run.proofs.CapacityLemmas.{IsLarger-after}
use Rattle.intmap_run.proofs.MapStandLemmas.{value_of-stands, length-stands, load_of-stands, class_size-stands, compared-stands, IsOutOfRange-stands, placements-stands, walk_of-put_pair-stands, walk_of-take_key-stands}

none_of : {V : Type 0} (o : Option V) → true ≡ is_none o → IsNone o
none_of None is = refl
none_of (Some v) is = let no : true ≡ false = is in cc

some_of : {V : Type 0} (o : Option V) → false ≡ is_none o → IsSome o
some_of None is = let no : false ≡ true = is in cc
some_of (Some v) is = refl

-- a command that leaves map and list
pub Step-same : {K V S A : Type 0} (number : K → ℕ) (sees : V → S → Type 0) (keeps : K → V → Bool) (m : MapState K V) (s : PlainList K V) (c : Command K V A) (a : Answer K V S A)
    → Answers number sees keeps s c a s → Stands number s m → (t : PlainList K V) × Step number sees keeps s c a t m
Step-same number sees keeps m s c a answers stands = (s, record { answers = answers; stands = stands })

-- the list once k was looked up and inserted with v, in D slots
abbrev pub with_pair_in : {K V : Type 0} → (K → ℕ) → PlainList K V → K → V → ℕ → PlainList K V
with_pair_in number s k v D = record (looked_up number s k) {
  pairs = put_pair number s.pairs s.capacity k v;
  capacity = D;
  placed = s.placed + cond (D == s.capacity) 0 (length (put_pair number s.pairs s.capacity k v));
}

module _ {K V : Type 0} (number : K → ℕ) (is_valid : K → Type 0) (m : MapState K V) (is_map : IsMap number is_valid m) where
  -- what a successful insertion leaves of list and map
  pub record Accepted (k : K) (v : V) (n : MapState K V) (s t : PlainList K V) : Type 0 where
    pub inserts : ListInserts number (looked_up number s k) k v t
    pub stands : Stands number t n

  -- it leaves the list with the pair put in
  pub accepted : (k : K) (v : V) (n : MapState K V) → Fits number m.walk m.capacity m.factor k n.capacity → n ≡ after_insert number m k v n.capacity
      → (s : PlainList K V) → Stands number s m → Accepted k v n s (with_pair_in number s k v n.capacity)
  accepted k v n fits is s stands =
      let larger = IsLarger-after (value_of number m.walk k) m.capacity (length m.walk + 1) m.factor n.capacity is_map.capacity fits.capacity fits.in_range in
      record {
        inserts = record {
          fits = record {
            in_range = λ out. fits.in_range ((IsOutOfRange-stands is_map stands k).0 out);
            capacity = rw (value_of-stands is_map stands k, length-stands is_map stands, stands.capacity, stands.factor) fits.capacity;
          };
          placed = refl;
          after = refl;
        };
        stands = record {
          walk = walk_of-put_pair-stands is_map stands k v n.capacity larger ∙ sym (ap (λ x. x.walk) is);
          capacity = refl;
          factor = stands.factor ∙ sym (ap (λ x. x.factor) is);
          placed =
              ap (λ x. x + cond (n.capacity == s.capacity) 0 (length (put_pair number s.pairs s.capacity k v))) stands.placed
              ∙ ap (λ x. m.placed + x) (sym (placements-stands is_map stands k v n.capacity fits.capacity)) ∙ sym (ap (λ x. x.placed) is);
          compared = compared-stands is_map stands k ∙ sym (ap (λ x. x.compared) is);
        };
      }

  -- an insertion may fail at each list with the cause that the map has
  pub may : (k : K) (cause : Cause) → RefusalIsDue number (list_of m) k cause → (s : PlainList K V) → Stands number s m → RefusalIsDue number s k cause
  may k cause due s stands =
      let same = IsOutOfRange-stands is_map stands k in
      record {
        new_key = rw (value_of-stands is_map stands k) due.new_key;
        too_large = ((λ h. same.1 (due.too_large.0 h)), (λ h. due.too_large.1 (same.0 h)));
        memory = λ h kept. rw (class_size-stands is_map stands k) (due.memory h (rw (length-stands is_map stands, stands.capacity, stands.factor) at kept));
      }

  -- so it may once the key was looked up
  pub may_searched : (k : K) (cause : Cause) → RefusalIsDue number (list_of m) k cause → (s : PlainList K V) → Stands number s m → RefusalIsDue number (looked_up number s k) k cause
  may_searched k cause due s stands =
      let refuses = may k cause due s stands in record { new_key = refuses.new_key; too_large = refuses.too_large; memory = refuses.memory }

  -- a list that stands for the map stands for it once a key was looked up in both
  pub Stands-searched : (k : K) (s : PlainList K V) → Stands number s m → Stands number (looked_up number s k) (after_search number m k)
  Stands-searched k s stands = record {
    walk = stands.walk;
    capacity = stands.capacity;
    factor = stands.factor;
    placed = stands.placed;
    compared = compared-stands is_map stands k;
  }

module _ {K V S A : Type 0} (number : K → ℕ) (is_valid : K → Type 0) (m : MapState K V) (is_map : IsMap number is_valid m) (sees : V → S → Type 0) (keeps : K → V → Bool) where
  -- an insertion that succeeds
  pub StepsFrom-insert : (k : K) (v : V) (n : MapState K V) → Fits number m.walk m.capacity m.factor k n.capacity → n ≡ after_insert number m k v n.capacity
      → StepsFrom {A = A} number sees keeps m (command.Insert k v) (answer.Old (value_of number m.walk k)) n
  StepsFrom-insert k v n fits is s stands =
      let left = accepted number is_valid m is_map k v n fits is s stands in (
        with_pair_in number s k v n.capacity,
        record {
          answers = inl (ap (λ o. answer.Old o) (sym (value_of-stands is_map stands k)), left.inserts);
          stands = left.stands;
        },
      )

  -- a checked insertion of a new key that succeeds
  StepsFrom-insert_new : (k : K) (v : V) (n : MapState K V) → IsNone (value_of number m.walk k) → Fits number m.walk m.capacity m.factor k n.capacity
      → n ≡ after_insert number m k v n.capacity
      → StepsFrom {A = A} number sees keeps m (command.InsertChecked k v) (answer.Flag true) n
  StepsFrom-insert_new k v n new_key fits is s stands =
      let left = accepted number is_valid m is_map k v n fits is s stands in (
        with_pair_in number s k v n.capacity,
        record {
          answers = inr (inl (refl, rw (value_of-stands is_map stands k) new_key, left.inserts));
          stands = left.stands;
        },
      )

  -- a search that leaves the list
  pub StepsFrom-searched : (k : K) (c : Command K V A) (a : Answer K V S A) (s : PlainList K V) → Stands number s m → Answers number sees keeps s c a (looked_up number s k)
      → (t : PlainList K V) × Step number sees keeps s c a t (after_search number m k)
  StepsFrom-searched k c a s stands answers = (looked_up number s k, record { answers = answers; stands = Stands-searched number is_valid m is_map k s stands })

  -- an insertion that fails
  pub StepsFrom-refused : (k : K) (v : V) (cause : Cause) → RefusalIsDue number (list_of m) k cause
      → StepsFrom {A = A} number sees keeps m (command.Insert k v) (answer.Refused cause (Some v)) (after_search number m k)
  StepsFrom-refused k v cause due s stands =
      StepsFrom-searched k (command.Insert k v) (answer.Refused cause (Some v)) s stands (inr (cause, refl, may_searched number is_valid m is_map k cause due s stands, refl))

  -- a checked insertion that fails
  pub StepsFrom-refused_checked : (k : K) (v : V) (cause : Cause) → RefusalIsDue number (list_of m) k cause
      → StepsFrom {A = A} number sees keeps m (command.InsertChecked k v) (answer.Refused cause (Some v)) (after_search number m k)
  StepsFrom-refused_checked k v cause due s stands =
      StepsFrom-searched k (command.InsertChecked k v) (answer.Refused cause (Some v)) s stands (inr (inr (cause, refl, may_searched number is_valid m is_map k cause due s stands, refl)))

  -- a checked insertion of a present key
  StepsFrom-bound : (k : K) (v : V) → IsSome (value_of number m.walk k)
      → StepsFrom {A = A} number sees keeps m (command.InsertChecked k v) (answer.Flag false) (after_search number m k)
  StepsFrom-bound k v bound s stands =
      StepsFrom-searched k (command.InsertChecked k v) (answer.Flag false) s stands (inl (refl, rw (value_of-stands is_map stands k) bound, refl))

  -- a checked insertion that succeeds, of a present key or not
  pub StepsFrom-insert_checked : (k : K) (v : V) (n : MapState K V) (new : Bool) → new ≡ is_none (value_of number m.walk k) → Fits number m.walk m.capacity m.factor k n.capacity
      → MatchBool new (n ≡ after_insert number m k v n.capacity) (n ≡ after_search number m k)
      → StepsFrom {A = A} number sees keeps m (command.InsertChecked k v) (answer.Flag new) n
  StepsFrom-insert_checked k v n true new fits is = StepsFrom-insert_new k v n (none_of (value_of number m.walk k) new) fits is
  StepsFrom-insert_checked k v n false new fits is = rw is (StepsFrom-bound k v (some_of (value_of number m.walk k) new))

  -- whether a key is present
  pub StepsFrom-contains_key : (k : K) → StepsFrom {A = A} number sees keeps m (command.ContainsKey k) (answer.Flag (is_some (value_of number m.walk k))) m
  StepsFrom-contains_key k s stands =
      Step-same number sees keeps m s (command.ContainsKey k) (answer.Flag (is_some (value_of number m.walk k))) (ap (λ o. answer.Flag (is_some o)) (sym (value_of-stands is_map stands k)), refl) stands

  -- whether there is no pair
  pub StepsFrom-is_empty : StepsFrom {A = A} number sees keeps m command.IsEmpty (answer.Flag (length m.walk == 0)) m
  StepsFrom-is_empty s stands =
      Step-same number sees keeps m s command.IsEmpty (answer.Flag (length m.walk == 0)) (ap (λ n. answer.Flag (n == 0)) (sym (length-stands is_map stands)), refl) stands

  -- an emptied map
  pub StepsFrom-clear : StepsFrom {A = A} number sees keeps m command.Clear answer.Done (emptied m)
  StepsFrom-clear s stands = (
    record s { pairs = [] },
    record {
      answers = (refl, refl);
      stands = record {
        walk = (IsMapWalk-empty number is_valid [] s.capacity 909 refl (subst IsCapacity (sym stands.capacity) is_map.capacity) (lit< tt)).own;
        capacity = stands.capacity;
        factor = stands.factor;
        placed = stands.placed;
        compared = stands.compared;
      };
    },
  )

  -- a look at the value of a key
  pub StepsFrom-get : (k : K) (seen : Option S) → SeesOption sees (value_of number m.walk k) seen
      → StepsFrom {A = A} number sees keeps m (command.Get k) (answer.Seen seen) m
  StepsFrom-get k seen h s stands =
      Step-same number sees keeps m s (command.Get k) (answer.Seen seen) ((seen, refl, rw (value_of-stands is_map stands k) h), refl) stands

  -- a removal
  pub StepsFrom-remove : (k : K) → StepsFrom {A = A} number sees keeps m (command.Remove k) (answer.Old (value_of number m.walk k)) (after_remove number m k)
  StepsFrom-remove k s stands = (
    record (looked_up number s k) { pairs = take_key number s.pairs s.capacity k },
    record {
      answers = (ap (λ o. answer.Old o) (sym (value_of-stands is_map stands k)), refl);
      stands = record {
        walk = walk_of-take_key-stands is_map stands k;
        capacity = stands.capacity;
        factor = stands.factor;
        placed = stands.placed;
        compared = compared-stands is_map stands k;
      };
    },
  )

  -- the number of pairs
  pub StepsFrom-len : StepsFrom {A = A} number sees keeps m command.Len (answer.Number (length m.walk)) m
  StepsFrom-len s stands =
      Step-same number sees keeps m s command.Len (answer.Number (length m.walk)) (ap (λ n. answer.Number n) (sym (length-stands is_map stands)), refl) stands

  -- the number of slots that hold a pair
  pub StepsFrom-load : StepsFrom {A = A} number sees keeps m command.Load (answer.Number (load_of number m.walk m.capacity)) m
  StepsFrom-load s stands =
      Step-same number sees keeps m s command.Load (answer.Number (load_of number m.walk m.capacity))
      (ap (λ n. answer.Number n) (sym (load_of-stands is_map stands)), refl) stands

  -- the pairs to a slot
  pub StepsFrom-load_rate : StepsFrom {A = A} number sees keeps m command.LoadRate (answer.Number (rate_of m.walk m.capacity)) m
  StepsFrom-load_rate s stands =
      Step-same number sees keeps m s command.LoadRate (answer.Number (rate_of m.walk m.capacity))
      (rw (length-stands is_map stands, stands.capacity) refl, refl) stands

module _ {K V S A : Type 0} (number : K → ℕ) (sees : V → S → Type 0) (keeps : K → V → Bool) (m : MapState K V) where
  -- whether the number of pairs is what the count says
  pub StepsFrom-assert_count : StepsFrom {A = A} number sees keeps m command.AssertCount (answer.Flag true) m
  StepsFrom-assert_count s stands = Step-same number sees keeps m s command.AssertCount (answer.Flag true) (refl, refl) stands

  -- a look at the value of each pair of the walk
  pub StepsFrom-walk : (seen : Vec (K × S) A) → AllZip (SeesPair sees) m.walk seen.items
      → StepsFrom {A = A} number sees keeps m command.Walk (answer.Walk seen) m
  StepsFrom-walk seen h s stands =
      Step-same number sees keeps m s command.Walk (answer.Walk seen) (inl (seen, refl, rw stands.walk h, refl)) stands

  -- the keys of the walk
  pub StepsFrom-keys : (keys : Vec K A) → keys.items ≡ keys_of m.walk → StepsFrom {A = A} number sees keeps m command.Keys (answer.Keys keys) m
  StepsFrom-keys keys is s stands =
      Step-same number sees keeps m s command.Keys (answer.Keys keys) (inl (keys, refl, rw stands.walk is, refl)) stands

  -- a look at each value of the walk
  pub StepsFrom-values : (seen : Vec S A) → AllZip sees (values_of m.walk) seen.items → StepsFrom number sees keeps m command.Values (answer.Values seen) m
  StepsFrom-values seen h s stands =
      Step-same number sees keeps m s command.Values (answer.Values seen) (inl (seen, refl, rw stands.walk h, refl)) stands
