-- What a call leaves of the map and returns, as the set shows it.
use Rattle.std.proofs.Common.{◌≡◌, ◌∙◌, ℕ, ◌+◌, ◌^◌, ◌<◌, ◌≤◌, Bool, true, false, cond, Some, refl, sym, ap, subst, length}
use Rattle.std.specs.Prelude.{◌↔◌, not, is_none, Result, Ok, Err, IfErr, OnErr, IsErrAnd, MatchBool}
use Rattle.std.proofs.lemmas.Map.Entries.{length-keys_of}
use Rattle.intmap.specs.declared.refusal.Cause.{Cause}
use Rattle.intmap.specs.Bindings.{value_of}
use Rattle.intmap.specs.Insertions.{IsInsertion}
use Rattle.intmap.specs.PlainLists.{RefusalIsDue, list_of}
use Rattle.intmap.specs.Growing as of_map
use Rattle.intmap.specs.Growing.{IsEnough, MayRefuseReserve, MayRefuseRoom, MeetsFactor, NeedsTooMuchRoom}
use Rattle.intmap.specs.Map.{MapState, NeedsNoMemory, after_search, after_insert, after_remove, in_slots, still_reserved}
use Rattle.intmap.specs.Reach.{reach}
use Rattle.intmap.specs.Room.{HasRoom, HasRoomInRow}
use Rattle.intmap.specs.Walk.{ArePassed}
use Rattle.intmap_set.specs.Sets.{SetState, as_map, load_factor, looked_up, paired, set_of}
use Rattle.intmap_set.specs.Extending.{Inserts}
use Rattle.intmap_set.specs.Growing.{IsReservation, IsRoomMade}
use Rattle.intmap_set.proofs.MemberLemmas.{Updates-seen, as_map-seen, holds-seen, length-seen, not-is_none, set_of-as_map}

-- what holds, holds on an error
pub on_err_given : {T E P : Type 0} (r : Result T E) → P → OnErr r P
on_err_given (Ok t) given = tt
on_err_given (Err e) given = given

module _ {K : Type 0} (number : K → ℕ) (m n : MapState K (Unit {0})) (s : SetState K) (seen : set_of m ≡ s) (kept : m.factor ≡ load_factor) where
  -- a search of the map is one of the set
  pub looked_up-seen : (k : K) → n ≡ after_search number m k → set_of n ≡ looked_up number s k
  looked_up-seen k state =
      ap set_of state ∙ ap (λ x. set_of (after_search number x k)) (as_map-seen m s seen kept) ∙ set_of-as_map (looked_up number s k)

  -- a removal from the map is one from the set
  pub after_remove-seen : (k : K) → n ≡ after_remove number m k → set_of n ≡ set_of (after_remove number (as_map s) k)
  after_remove-seen k state = ap set_of state ∙ ap (λ x. set_of (after_remove number x k)) (as_map-seen m s seen kept)

  -- growth of the map is growth of the set
  in_slots-seen : n ≡ in_slots number m n.capacity n.reserved → set_of n ≡ set_of (in_slots number (as_map s) n.capacity n.reserved)
  in_slots-seen state = ap set_of state ∙ ap (λ x. set_of (in_slots number x n.capacity n.reserved)) (as_map-seen m s seen kept)

  -- a reservation in the map is one in the set
  pub IsReservation-seen : (d : ℕ) → of_map.IsReservation number m d n → IsReservation number s d (set_of n)
  IsReservation-seen d did = record {
    enough = subst (λ (t : ℕ × ℕ). IsEnough t.0 (t.1 + d) n.capacity) (λ i. ((seen i).capacity, length-seen m s seen i)) did.enough;
    state = in_slots-seen did.state;
    reserved = subst (λ x. still_reserved number x n.capacity ≤ n.reserved) (as_map-seen m s seen kept) did.reserved;
  }

  -- and why that fails is why the set does
  pub MayRefuseReserve-seen : (d : ℕ) (r : Result (Unit {0}) Cause) → IfErr r (MayRefuseReserve m.capacity (length m.walk + d)) → IfErr r (MayRefuseReserve s.capacity (length s.walk + d))
  MayRefuseReserve-seen d r = subst (λ (t : ℕ × ℕ). IfErr r (MayRefuseReserve t.0 (t.1 + d))) (λ i. ((seen i).capacity, length-seen m s seen i))

  -- so is the making of room
  pub IsRoomMade-seen : (d : ℕ) → of_map.IsRoomMade number m d n → IsRoomMade number s d (set_of n)
  IsRoomMade-seen d did = record {
    count = subst (λ k. k + d < 2 ^ 64) (length-seen m s seen) did.count;
    meets = subst (λ (t : ℕ × ℕ × ℕ). MeetsFactor t.0 (t.1 + d) t.2 n.capacity) (λ i. ((seen i).capacity, length-seen m s seen i, kept i)) did.meets;
    state = in_slots-seen did.state;
    reserved = subst (λ x. still_reserved number x n.capacity ≤ n.reserved) (as_map-seen m s seen kept) did.reserved;
  }

  pub MayRefuseRoom-seen : (d : ℕ) (r : Result (Unit {0}) Cause) → IfErr r (MayRefuseRoom m.capacity (length m.walk + d) m.factor) → IfErr r (MayRefuseRoom s.capacity (length s.walk + d) load_factor)
  MayRefuseRoom-seen d r = subst (λ (t : ℕ × ℕ × ℕ). IfErr r (MayRefuseRoom t.0 (t.1 + d) t.2)) (λ i. ((seen i).capacity, length-seen m s seen i, kept i))

  pub NeedsTooMuchRoom-seen : (d : ℕ) {P : Type 0} → P ↔ NeedsTooMuchRoom m.capacity (length m.walk + d) m.factor → P ↔ NeedsTooMuchRoom s.capacity (length s.walk + d) load_factor
  NeedsTooMuchRoom-seen d {P} = subst (λ (t : ℕ × ℕ × ℕ). P ↔ NeedsTooMuchRoom t.0 (t.1 + d) t.2) (λ i. ((seen i).capacity, length-seen m s seen i, kept i))

  -- room in the map is room in the set
  pub HasRoomInRow-seen : (d : ℕ) → HasRoomInRow number m.walk m.capacity m.factor d → HasRoomInRow number (paired s.walk) s.capacity load_factor d
  HasRoomInRow-seen d = subst (λ x. HasRoomInRow number x.walk x.capacity x.factor d) (as_map-seen m s seen kept)

  -- and the other way round, for any keys
  pub seen-HasRoom : (d : ℕ) → HasRoom number (as_map s) d → HasRoom number m d
  seen-HasRoom d room = subst (λ x. HasRoom number x d) (sym (as_map-seen m s seen kept)) room

  pub HasRoom-seen : (d : ℕ) → HasRoom number m d → HasRoom number (as_map s) d
  HasRoom-seen d room = subst (λ x. HasRoom number x d) (as_map-seen m s seen kept) room

  -- slots without a member are slots without a pair
  pub ArePassed-seen : (i : ℕ) → ArePassed number m.walk m.capacity i → ArePassed number (paired s.walk) s.capacity i
  ArePassed-seen i passed = subst (λ x. ArePassed number x.walk x.capacity i) (as_map-seen m s seen kept) passed

  -- and the other way round
  pub seen-ArePassed : (i : ℕ) → ArePassed number (paired s.walk) s.capacity i → ArePassed number m.walk m.capacity i
  seen-ArePassed i passed = subst (λ x. ArePassed number x.walk x.capacity i) (sym (as_map-seen m s seen kept)) passed

  module _ (k : K) where
    -- a key that needs no memory in the set needs none in the map
    pub NeedsNoMemory-seen : NeedsNoMemory number (paired s.walk) s.capacity load_factor k → NeedsNoMemory number m.walk m.capacity m.factor k
    NeedsNoMemory-seen free = subst (λ x. NeedsNoMemory number x.walk x.capacity x.factor k) (sym (as_map-seen m s seen kept)) free

    -- why the map fails is why the set does
    pub RefusalIsDue-seen : (r : Result Bool Cause) (cause : Cause) → IsErrAnd r (λ e. e ≡ cause) → RefusalIsDue number (list_of m) k cause
        → IfErr r (RefusalIsDue number (list_of (as_map s)) k)
    RefusalIsDue-seen (Ok new) cause is due = absurd is
    RefusalIsDue-seen (Err e) cause is due =
        subst (RefusalIsDue number (list_of (as_map s)) k) (sym is) (subst (λ x. RefusalIsDue number (list_of x) k cause) (as_map-seen m s seen kept) due)

    -- a new pair of the map is a new member of the set, and otherwise both are searched
    inserted-seen : (new : Bool) → MatchBool new (n ≡ after_insert number m k tt n.capacity) (n ≡ after_search number m k)
        → (n.factor ≡ m.factor) × (set_of n ≡ cond (not new) (looked_up number s k) (set_of (after_insert number (as_map s) k tt n.capacity)))
    inserted-seen true state = (ap (λ x. x.factor) state, ap set_of state ∙ ap (λ x. set_of (after_insert number x k tt n.capacity)) (as_map-seen m s seen kept))
    inserted-seen false state = (ap (λ x. x.factor) state, looked_up-seen k state)

    -- the same by whether it is new
    pub state-seen : (new : Bool) → MatchBool new (n ≡ after_insert number m k tt n.capacity) (n ≡ after_search number m k)
        → MatchBool new (set_of n ≡ set_of (after_insert number (as_map s) k tt n.capacity)) (set_of n ≡ looked_up number s k)
    state-seen true state = (inserted-seen true state).1
    state-seen false state = (inserted-seen false state).1

    -- either way the search is counted
    compared-seen : (new : Bool) → MatchBool new (n ≡ after_insert number m k tt n.capacity) (n ≡ after_search number m k)
        → n.compared ≡ s.compared + reach number (paired s.walk) s.capacity k
    compared-seen true state = ap (λ x. x.compared) state ∙ ap (λ x. x.compared + reach number x.walk x.capacity k) (as_map-seen m s seen kept)
    compared-seen false state = ap (λ x. x.compared) state ∙ ap (λ x. x.compared + reach number x.walk x.capacity k) (as_map-seen m s seen kept)

    -- an insertion into the map is one into the set
    pub Inserts-seen : (is_valid : K → Type 0) (new : Bool) → new ≡ is_none (value_of number m.walk k)
        → MatchBool new (n ≡ after_insert number m k tt n.capacity) (n ≡ after_search number m k) → IsInsertion number is_valid m k tt n → Inserts number is_valid s k (set_of n)
    Inserts-seen is_valid new was state did = record {
      inserted = subst (λ x. IsInsertion number is_valid x k tt (as_map (set_of n))) (as_map-seen m s seen kept)
          (subst (IsInsertion number is_valid m k tt) (as_map-seen n (set_of n) refl (left.0 ∙ kept)) did);
      state = left.1 ∙ ap (λ b. cond b (looked_up number s k) (set_of (after_insert number (as_map s) k tt n.capacity))) (ap not was ∙ not-is_none (value_of number m.walk k) ∙ sym (holds-seen number m s k seen));
      compared = compared-seen new state;
      updates = Updates-seen number m n s k (Some tt) seen did.updates;
      len = length-keys_of n.walk ∙ did.len ∙ ap (λ (t : ℕ × Bool). t.0 + cond t.1 0 1) (λ i. (length-seen m s seen i, sym (holds-seen number m s k seen) i));
    }
      where
        left : (n.factor ≡ m.factor) × (set_of n ≡ cond (not new) (looked_up number s k) (set_of (after_insert number (as_map s) k tt n.capacity)))
        left = inserted-seen new state
