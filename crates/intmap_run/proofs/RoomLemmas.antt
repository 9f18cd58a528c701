-- What a command leaves of the room for further pairs.
use Rattle.std.proofs.Common.{◌≡◌, ℕ, zero, suc, ◌+◌, ◌≤◌, Bool, true, false, inl, inr, cond, List, [], ◌∷◌, ◌++◌, length, map, drop, Option, Some, None, refl, sym, ap, subst, arith, zero-add}
use Rattle.std.specs.Prelude.{◌==◌, All, MatchBool, filter, is_none, unwrap_or}
use Rattle.std.specs.List.{list_any}
use Rattle.std.proofs.lemmas.Bool.{cases_Bool}
use Rattle.std.proofs.lemmas.Bool.Decides.{nat_tests}
use Rattle.std.proofs.lemmas.List.Elements.{All-head, All-nil, All-push, All-tail}
use Rattle.intmap.specs.Bindings.{write_value}
use Rattle.intmap.specs.Classes.{IsCapacity, residue, same_key}
use Rattle.intmap.specs.Extending.{MapInsertsAll}
use Rattle.intmap.specs.Figures.{each_once, load_of}
use Rattle.intmap.specs.Insertions.{IsInsertion}
use Rattle.intmap.specs.Map.{MapState, IsMap, after_insert, after_search, with_pair, with_walk, without_key, written}
use Rattle.intmap.specs.Room.{HasRoom}
use Rattle.intmap.proofs.LoadFactorLemmas.{MeetsLoad-fewer}
use Rattle.intmap.proofs.LoadLemmas.{length-each_once}
use Rattle.intmap.proofs.ReservedLemmas.{HasRoom-fewer, HasRoom-inserted, HasRoom-removed}
use Rattle.intmap.proofs.SlotNumberLemmas.{capacity-positive}
use Rattle.intmap.proofs.WriteLemmas.{length-write_value}
use Rattle.intmap_run.specs.declared.command.Command.{Command}
use Rattle.intmap_run.specs.declared.command.Command.TheVariants as command
use Rattle.intmap_run.specs.declared.answer.Answer.{Answer}
use Rattle.intmap_run.specs.declared.answer.Answer.TheVariants as answer
use Rattle.intmap_run.specs.Room.{IsNoFailedInsertion, KeepsRoom, LeavesSlots, most_inserted, most_inserted_by}
use Rattle.intmap_run.specs.Steps.{StepKeepsRoom}

module _ {K V : Type 0} (number : K → ℕ) (C : ℕ) where
  -- the residues of the keys
  abbrev residues : List (K × V) → List ℕ
  residues L = map (λ p. residue number p.0 C) L

  -- M has no more pairs than L, and no more behind the first ones of their slots
  pub record IsThinned (L M : List (K × V)) : Type 0 where
    pub few : length M ≤ length L
    pub spare : load_of number L C + length M ≤ load_of number M C + length L

  -- the last pairs of a list
  pub thinned-drop : (n : ℕ) (L : List (K × V)) → IsThinned L (drop n L)
  thinned-drop zero L = record { few = omega arith; spare = omega arith }
  thinned-drop (suc n) [] = record { few = omega arith; spare = omega arith }
  thinned-drop (suc n) (p ∷ L) =
      let rest = thinned-drop n L in let few = rest.few in let spare = rest.spare in
      let more = length-each_once (residue number p.0 C) (residues L) in
      record { few = omega (arith, few); spare = omega (arith, spare, more) }

  -- a residue that is left was there
  any-filter : (test : K × V → Bool) (n : ℕ) (L : List (K × V))
      → cond {A = ℕ} (list_any (λ m. m == n) (residues (filter test L))) 1 0 ≤ cond {A = ℕ} (list_any (λ m. m == n) (residues L)) 1 0
  any-filter test n [] = omega arith
  any-filter test n (p ∷ L) = let rest = any-filter test n L in grind (arith, nat_tests, rest)

  -- the pairs that pass a test
  pub thinned-filter : (test : K × V → Bool) (L : List (K × V)) → IsThinned L (filter test L)
  thinned-filter test [] = record { few = omega arith; spare = omega arith }
  thinned-filter test (p ∷ L) =
      let rest = thinned-filter test L in let few = rest.few in let spare = rest.spare in
      let r = residue number p.0 C in
      let more = length-each_once r (residues L) in let kept = length-each_once r (residues (filter test L)) in let was = any-filter test r L in
      elim (cases_Bool (test p)) as (λ _. IsThinned (p ∷ L) (filter test (p ∷ L))) [
        | inl stays ↦ rw stays (record { few = omega (arith, few); spare = omega (arith, spare, more, kept, was) })
        | inr goes ↦ rw goes (record { few = omega (arith, few); spare = omega (arith, spare, more) })
      ]

  -- a written value changes no residue
  residues-write_value : (L : List (K × V)) (k : K) (v : V) → residues (write_value number L k v) ≡ residues L
  residues-write_value [] k v = refl
  residues-write_value (p ∷ L) k v = λ i. at (same_key number k p.0) i ∷ residues-write_value L k v i
    where
      at : (b : Bool) → residue number (cond {A = K × V} b (p.0, v) p).0 C ≡ residue number p.0 C
      at true = refl
      at false = refl

  -- the pairs with another value for a key
  pub thinned-written : (L : List (K × V)) (k : K) (v : V) → IsThinned L (write_value number L k v)
  thinned-written L k v =
      let same = length-write_value number L k v in let load = ap (λ ns. length (each_once ns)) (residues-write_value L k v) in
      record { few = omega (arith, same); spare = omega (arith, same, load) }

module _ {K V : Type 0} (number : K → ℕ) (is_valid : K → Type 0) where
  -- with fewer pairs behind the first ones of their slots the room stays
  pub HasRoom-thinned : (m : MapState K V) (W : List (K × V)) (n : ℕ) → IsCapacity m.capacity → IsThinned number m.capacity m.walk W → HasRoom number m n → HasRoom number (with_walk m W) n
  HasRoom-thinned m W n capacity thin room =
      let few = thin.few in let spare = thin.spare in let all = room.memory in let count = room.count in
      record {
        memory = omega (arith, spare, all);
        count = omega (arith, few, count);
        load = MeetsLoad-fewer m.capacity (length m.walk + n) (length W + n) m.factor (capacity-positive m.capacity capacity) room.load (omega (arith, few));
      }

  -- room for more is room for some
  pub HasRoom-less : (m : MapState K V) (more left : ℕ) → IsMap number is_valid m → HasRoom number m (more + left) → HasRoom number m left
  HasRoom-less m more left valid room = HasRoom-fewer number m (more + left) left valid.capacity room (omega arith)

  -- an insertion leaves the room for others
  pub HasRoom-pushed : (m n : MapState K V) (k : K) (v : V) (left : ℕ) → IsMap number is_valid m → IsInsertion number is_valid m k v n → n ≡ after_insert number m k v n.capacity
      → HasRoom number m (1 + left) → HasRoom number n left
  HasRoom-pushed m n k v left valid did state room = HasRoom-inserted number is_valid m n k v left valid (HasRoom-fewer number m (1 + left) (left + 1) valid.capacity room (omega arith)) did state

  -- so does a checked insertion
  pub HasRoom-checked : (m n : MapState K V) (k : K) (v : V) (new : Bool) (o : Option V) (left : ℕ) → IsMap number is_valid m → new ≡ is_none o → IsInsertion number is_valid m k (unwrap_or o v) n
      → MatchBool new (n ≡ after_insert number m k v n.capacity) (n ≡ after_search number m k) → HasRoom number m (1 + left) → HasRoom number n left
  HasRoom-checked m n k v true None left valid is did state room = HasRoom-pushed m n k v left valid did state room
  HasRoom-checked m n k v true (Some w) left valid is did state room = let no : true ≡ false = is in cc
  HasRoom-checked m n k v false o left valid is did state room = subst (λ s. HasRoom number s left) (sym state) (HasRoom-less m 1 left valid room)

  -- and the insertion of several pairs
  pub HasRoom-extended : (m n : MapState K V) (ps : List (K × V)) (left : ℕ) → IsMap number is_valid m → MapInsertsAll number is_valid m ps n → HasRoom number m (length ps + left) → HasRoom number n left
  HasRoom-extended m n [] left valid same room = subst (λ s. HasRoom number s left) (sym same) (HasRoom-less m (length {A = K × V} []) left valid room)
  HasRoom-extended m n (p ∷ ps) left valid all room =
      let first = all.1 in
      HasRoom-extended all.0 n ps left first.inserted.valid all.2
      (HasRoom-pushed m all.0 p.0 p.1 (length ps + left) valid first.inserted first.state (HasRoom-fewer number m (length (p ∷ ps) + left) (1 + (length ps + left)) valid.capacity room (omega arith)))

  -- of the entry of k, with the map x and the key q, in a map with room
  module _ (m : MapState K V) (valid : IsMap number is_valid m) (k q : K) (x : MapState K V) (searched : x ≡ after_search number m k) (same_key : q ≡ k) where
    -- a value written by an entry
    pub HasRoom-entry_insert : (left : ℕ) (v : V) → HasRoom number m (1 + left) → HasRoom number (written number x q v) left
    HasRoom-entry_insert left v room =
        rw searched (HasRoom-thinned m (write_value number m.walk q v) left valid.capacity (thinned-written number m.capacity m.walk q v) (HasRoom-less m 1 left valid room))

    -- a pair put in by an entry
    HasRoom-fresh : (left : ℕ) (v : V) (D : ℕ) → IsInsertion number is_valid x q v (with_pair number x q v D) → HasRoom number m (1 + left) → HasRoom number (with_pair number x q v D) left
    HasRoom-fresh left v D did room =
        let after : IsInsertion number is_valid (after_search number m k) k v (with_pair number (after_search number m k) k v D) = rw (searched, same_key) at did in
        rw (searched, same_key)
        (HasRoom-pushed m (after_insert number m k v D) k v left valid (record { fits = after.fits; updates = after.updates; len = after.len; valid = after.valid }) refl room)

    pub StepKeepsRoom-fresh : {S A : Type 0} (v w : V) (D : ℕ) → IsInsertion number is_valid x q w (with_pair number x q w D)
        → StepKeepsRoom {S = S} {A = A} number m (command.EntryInsert k v) answer.Fresh (with_pair number x q w D)
    StepKeepsRoom-fresh v w D did = record { kept = λ left leaves room. (tt, HasRoom-fresh left w D did room) }

    -- a pair that an entry removed
    pub HasRoom-entry_remove : (left : ℕ) → HasRoom number m left → HasRoom number (without_key number x q) left
    HasRoom-entry_remove left room = rw searched (HasRoom-removed number is_valid m q left valid room)

module _ {K V S A : Type 0} (number : K → ℕ) where
  -- the same of an equal map
  pub StepKeepsRoom-equal : (m : MapState K V) (c : Command K V A) (a : Answer K V S A) (n o : MapState K V) → StepKeepsRoom number m c a n → o ≡ n → StepKeepsRoom number m c a o
  StepKeepsRoom-equal m c a n o step same = rw same step

  -- before the commands that are left: the answers so far are no failed insertions, and there is room for what is left to insert
  abbrev pub KeptSoFar : MapState K V → List (Command K V A) → List (Answer K V S A) → MapState K V → List (Command K V A) → Type 0
  KeptSoFar start all done now left =
      (spare : ℕ) → All LeavesSlots all → HasRoom number start (most_inserted all + spare)
      → All LeavesSlots left × All IsNoFailedInsertion done × HasRoom number now (most_inserted left + spare)

  -- at the start
  pub KeptSoFar-start : (start : MapState K V) (all left : List (Command K V A)) (done : List (Answer K V S A)) → left ≡ all → done ≡ [] → KeptSoFar start all done start left
  KeptSoFar-start start all left done whole none spare leaves room = rw (whole, none) (leaves, All-nil IsNoFailedInsertion, room)

  -- after one more command
  pub KeptSoFar-step : (start now next : MapState K V) (all left after : List (Command K V A)) (done new : List (Answer K V S A)) (c : Command K V A) (a : Answer K V S A)
      → left ≡ c ∷ after → new ≡ done ++ a ∷ [] → StepKeepsRoom number now c a next → KeptSoFar start all done now left → KeptSoFar start all new next after
  KeptSoFar-step start now next all left after done new c a taken pushed step kept spare leaves room =
      let so_far : All LeavesSlots (c ∷ after) × All IsNoFailedInsertion done × HasRoom number now (most_inserted (c ∷ after) + spare) = rw taken at (kept spare leaves room) in
      let did = step.kept (most_inserted after + spare) (All-head LeavesSlots c after so_far.0) (subst (HasRoom number now) (let e : most_inserted_by c + most_inserted after + spare ≡ most_inserted_by c + (most_inserted after + spare) = omega arith in e) so_far.2) in
      (All-tail LeavesSlots c after so_far.0, rw pushed (All-push IsNoFailedInsertion done a so_far.1 did.0), did.1)

  -- after the last command
  pub KeptSoFar-end : (start now : MapState K V) (all left : List (Command K V A)) (done : List (Answer K V S A)) → left ≡ [] → KeptSoFar start all done now left → KeepsRoom number start all done now
  KeptSoFar-end start now all left done none kept spare leaves room =
      let so_far = kept spare leaves room in (so_far.1, let whole : HasRoom number now (0 + spare) = subst (λ l. HasRoom number now (most_inserted l + spare)) none so_far.2 in subst (HasRoom number now) (zero-add spare) whole)
