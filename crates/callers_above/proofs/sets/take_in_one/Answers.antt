-- The search takes no law whose premise says something of every member.
use Rattle.std.proofs.Common.{arith, ap, sym, subst, ◌≡◌, ◌∷◌, [], ℕ, List, Some, slice_get, take}
use Rattle.std.proofs.lemmas.Option.{slice_get_within}
use Rattle.std.specs.Prelude.{unwrap_or}
use Rattle.intmap.specs.PlainLists.{RefusalIsDue, list_of}
use Rattle.intmap.specs.declared.refusal.RefusedPair.{RefusedPair}
use Rattle.intmap_set.specs.Extending.{InsertsAll, StopsAmong}
use Rattle.intmap_set.specs.Sets.{SetState, as_map}
use Rattle.callers_above.proofs.sets.take_in_one.Goals as goal

-- if the insertion of the only key failed, it did so from the set as it was
stops-first : {K : Type 0} (number : K → ℕ) (is_valid : K → Type 0) (s t : SetState K) (k : K) (ks : List K) (refused : RefusedPair K (Unit {0}))
    → ks ≡ k ∷ [] → StopsAmong number is_valid s ks refused t → RefusalIsDue number (list_of (as_map s)) k refused.cause
stops-first number is_valid s t k ks refused one stops =
    let next : slice_get (k ∷ []) refused.applied ≡ Some refused.key = subst (λ l. slice_get l refused.applied ≡ Some refused.key) one stops.next in
    let none : refused.applied ≡ 0 = (let within = slice_get_within (k ∷ []) refused.applied refused.key next in omega (arith, within)) in
    let key : k ≡ refused.key = ap (λ o. unwrap_or o refused.key) (subst (λ n. slice_get (k ∷ []) n ≡ Some refused.key) none next) in
    let before : stops.before ≡ s = subst (λ n. InsertsAll number is_valid s (take n ks) stops.before) none stops.extended.inserted in
    subst (λ q. RefusalIsDue number (list_of (as_map s)) q refused.cause) (sym key)
    (subst (λ b. RefusalIsDue number (list_of (as_map b)) refused.key refused.cause) before stops.may_refuse)

pub unreachable-requires : goal.unreachable-requires
unreachable-requires g c =
    let s = c.args.set.now in let k = c.args.key in let e = c.extend_from_set.ensures in
    let alone = c.small_new_keys_are_alone.ensures s.walk s.capacity k c.requires.members c.requires.small c.requires.new in
    let no_memory = c.met_loads_leave_room.ensures s.walk s.capacity _ k e.valid.capacity c.requires.room (omega arith) alone in
    c.keys_that_need_no_memory_are_never_refused.ensures s k c.in-Err._refused.cause e.valid.capacity no_memory
    (stops-first g.K.IntKey.number_of g.K.IntKey.is_valid s _ k _ c.in-Err._refused c.requires.one c.in-Err.ensures.stops)
