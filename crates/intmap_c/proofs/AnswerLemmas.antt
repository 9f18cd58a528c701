-- What a call did to the map of a handle.
use Rattle.std.proofs.Common.{◌≡◌, ◌↔◌, ◌∙◌, ℕ, ℤ, ◌^◌, ◌<◌, ◌==◌, Bool, true, List, [], ◌∷◌, length, Some, None, Option, refl, sym, ap, subst, arith}
use Rattle.std.proofs.lemmas.Grind.{common_steps}
use Rattle.intmap.proofs.EqualityLemmas.{value_of-first}
use Rattle.intmap.specs.Bindings.{value_of}
use Rattle.intmap.specs.Insertions.{IsInsertion}
use Rattle.intmap.specs.Map.{after_search, with_pair}
use Rattle.intmap.specs.PlainLists.{RefusalIsDue, list_of}
use Rattle.intmap.specs.Room.{HasRoom}
use Rattle.intmap.specs.declared.refusal.Cause.{Cause}
use Rattle.intmap_c.specs.Statuses.{failed_status}
use Rattle.intmap.proofs.InsertionLemmas.{IsInsertion-searched}
use Rattle.intmap.proofs.RefusalLemmas.{RefusalIsDue-searched}
use Rattle.intmap_c.specs.Calls.{AreEqual, Binds, FailsToBind, OnMapOrNew, State, itself, map_of}

-- P, if there is a map
pub OnMapOrNew-Some : (h : Option State) {k : Option State} {m n : State} (N : Type 0) (P : State → State → Type 0) → m ≡ map_of h → k ≡ Some n → P m n → OnMapOrNew h k N P
OnMapOrNew-Some h {n = n} N P e f p = subst (λ x. OnMapOrNew h x N P) (sym f) (subst (λ s. P s n) e p)

-- only in a list without pairs no key has a value
no_value-nil : (W : List (ℕ × ℕ)) (r : Bool) → r ≡ (length W == 0) → (r ≡ true) ↔ ((k : ℕ) → value_of itself W k ≡ None)
no_value-nil [] r e = ((λ yes k. refl), (λ all. e))
no_value-nil (p ∷ W) r e = (
  (λ yes. absurd (grind (arith, common_steps, yes, e))),
  (λ all. let here = all p.0 in let first = value_of-first itself p W in absurd (grind (arith, common_steps, here, first))),
)

module _ {v w : Option State} where
  -- maps of two words are equal if the maps are
  pub AreEqual-maps : {m n : State} {r : Bool} → v ≡ Some m → w ≡ Some n → AreEqual m n r → AreEqual (map_of v) (map_of w) r
  AreEqual-maps {m} {n} {r} e f same = rw (e, f) same

  -- a map without pairs is equal to that of a word without one
  pub AreEqual-first : {m : State} {r : Bool} → v ≡ Some m → w ≡ None → r ≡ (length m.walk == 0) → AreEqual (map_of v) (map_of w) r
  AreEqual-first {m} {r} e f told = rw (e, f) (no_value-nil m.walk r told)

  -- and the other way around
  pub AreEqual-second : {n : State} {r : Bool} → v ≡ None → w ≡ Some n → r ≡ (length n.walk == 0) → AreEqual (map_of v) (map_of w) r
  AreEqual-second {n} {r} e f told = rw (e, f) (let is = no_value-nil n.walk r told in ((λ yes k. sym (is.0 yes k)), (λ same. is.1 (λ k. sym (same k)))))

-- an insertion of k was refused, with a cause that was due, in a map without room
pub Fails-refused : (m n : State) (k : ℕ) (status : ℤ) (cause : Cause) → n ≡ after_search itself m k → RefusalIsDue itself (list_of m) k cause → (HasRoom itself m 1 → ⊥) → status ≡ failed_status cause → FailsToBind m n k status
Fails-refused m n k status cause stayed due no_room told = (cause, told, record { due = due; no_room = no_room }, stayed)

-- a call on the key k, where v is the map once k was looked up, and q is what was looked up
module _ (m v : State) (k q : ℕ) (searched : v ≡ after_search itself m k) (same : q ≡ k) where
  said_before : (P : State → ℕ → Type 0) → P v q → P (after_search itself m k) k
  said_before P p = subst (λ s. P s k) searched (subst (P v) same p)

  -- a refusal that is due is told by the status of its cause
  pub Fails-due : (n : State) (status : ℤ) (cause : Cause) → n ≡ v → RefusalIsDue itself (list_of v) q cause → (HasRoom itself v 1 → ⊥) → status ≡ failed_status cause → FailsToBind m n k status
  Fails-due n status cause stayed due no_room told =
      Fails-refused m n k status cause (stayed ∙ searched) (RefusalIsDue-searched itself m k k cause (said_before (λ s key. RefusalIsDue itself (list_of s) key cause) due))
      (said_before (λ s key. HasRoom itself s 1 → ⊥) no_room) told

  -- an insertion, into the number of slots that it needs
  pub Binds-new : (n : State) (x D : ℕ) → n ≡ with_pair itself v q x D → IsInsertion itself (λ r. r < 2 ^ 64) v q x n → Binds m n k x
  Binds-new n x D made did = record {
    inserted = IsInsertion-searched itself (λ r. r < 2 ^ 64) m n k k x (said_before (λ s key. IsInsertion itself (λ r. r < 2 ^ 64) s key x n) did);
    state = said_before (λ s key. n ≡ with_pair itself s key x n.capacity) (made ∙ ap (λ C. with_pair itself v q x C) (sym (ap (λ s. s.capacity) made)));
  }
