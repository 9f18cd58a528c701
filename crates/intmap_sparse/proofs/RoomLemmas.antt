-- A map without zeros is a vector; what a value that is set leaves of the room for further places.
use Rattle.std.proofs.Common.{◌≡◌, ◌∙◌, ℕ, ◌+◌, ◌^◌, ◌<◌, true, false, cond, refl, sym, subst, length, inl, inr, arith}
use Rattle.std.specs.Prelude.{◌==◌, ◌↔◌, ℤ, MatchBool}
use Rattle.std.proofs.lemmas.Bool.{cases_Bool, eq-eqb}
use Rattle.intmap.specs.Bindings.{put_pair, take_key}
use Rattle.intmap.specs.Growing.{NeedsTooMuchRoom}
use Rattle.intmap.specs.Map.{MapState, IsCapacityAfter, IsMap, IsMapWalk, after_insert, without_key}
use Rattle.intmap.specs.Room.{HasRoom}
use Rattle.intmap.specs.Walk.{walk_of}
use Rattle.intmap.proofs.InsertionLemmas.{IsInsertion-put}
use Rattle.intmap.proofs.LoadFactorLemmas.{in_range-next}
use Rattle.intmap.proofs.ReservedLemmas.{HasRoom-fewer, HasRoom-inserted, HasRoom-removed, HasRoom-takes}
use Rattle.intmap_sparse.specs.Vectors.{Vector, HasNoZeros, IsAssignment, IsSparseVec, as_map, is_nonzero, load_factor, vector_of}
use Rattle.intmap_sparse.proofs.ValueLemmas.{IsVector-map}

module _ (m : MapState ℕ ℤ) (v : Vector) (seen : vector_of m ≡ v) (kept : m.factor ≡ load_factor) where
  -- a map without zeros is a vector
  pub IsSparseVec-seen : HasNoZeros m.walk → IsMap (λ key. key) (λ key. key < 2 ^ 64) m → IsSparseVec v
  IsSparseVec-seen none map = subst IsSparseVec seen (record {
    vector = IsVector-map m map none;
    map = subst (λ F. IsMapWalk (λ key. key) (λ key. key < 2 ^ 64) m.walk m.capacity F) kept map;
  })

  -- where none can be made in the map, none can be made in the vector
  pub NeedsTooMuchRoom-seen : (d : ℕ) {P : Type 0} → P ↔ NeedsTooMuchRoom m.capacity (length m.walk + d) m.factor → P ↔ NeedsTooMuchRoom v.capacity (length v.walk + d) load_factor
  NeedsTooMuchRoom-seen d {P} iff =
      subst (λ u. P ↔ NeedsTooMuchRoom u.capacity (length u.walk + d) load_factor) seen (subst (λ F. P ↔ NeedsTooMuchRoom m.capacity (length m.walk + d) F) kept iff)

module _ (v w : Vector) (place : ℕ) (z : ℤ) (valid : IsSparseVec v) (did : IsAssignment v place z w) where
  -- a 0 that is set leaves the room
  pub HasRoom-removed_from : is_nonzero z ≡ false → (n : ℕ) → HasRoom (λ key. key) (as_map v) n → HasRoom (λ key. key) (as_map w) n
  HasRoom-removed_from zero n room =
      let C = v.capacity in
      let same : w.capacity ≡ C = subst (λ b. MatchBool b (IsCapacityAfter (λ key. key) v.walk C load_factor place w.capacity) (w.capacity ≡ C)) zero did.capacity in
      let is : w ≡ vector_of (without_key (λ key. key) (as_map v) place) =
      did.state
      ∙ (λ i. record {
        walk = walk_of (λ key. key) (cond (zero i) (put_pair (λ key. key) v.walk C place z) (take_key (λ key. key) v.walk C place)) (same i);
        capacity = same i;
        reserved = cond (same i == C) v.reserved 0;
      })
      ∙ (λ i. record { walk = walk_of (λ key. key) (take_key (λ key. key) v.walk C place) C; capacity = C; reserved = cond (eq-eqb C C refl i) v.reserved 0 }) in
      subst (λ u. HasRoom (λ key. key) (as_map u) n) (sym is) (HasRoom-removed (λ key. key) (λ key. key < 2 ^ 64) (as_map v) place n valid.map room)

  -- another value leaves room for one place less
  HasRoom-inserted_into : is_nonzero z ≡ true → (n : ℕ) → HasRoom (λ key. key) (as_map v) (n + 1) → HasRoom (λ key. key) (as_map w) n
  HasRoom-inserted_into nonzero n room =
      let m = as_map v in
      let l = after_insert (λ key. key) m place z w.capacity in
      let is : w ≡ vector_of l =
      did.state ∙ (λ i. record {
        walk = walk_of (λ key. key) (cond (nonzero i) (put_pair (λ key. key) v.walk v.capacity place z) (take_key (λ key. key) v.walk v.capacity place)) w.capacity;
        capacity = w.capacity;
        reserved = cond (w.capacity == v.capacity) v.reserved 0;
      }) in
      let after : IsSparseVec (vector_of l) = subst IsSparseVec is did.valid in
      let takes = HasRoom-takes (λ key. key) v.walk v.capacity load_factor v.reserved valid.map.capacity (HasRoom-fewer (λ key. key) m (n + 1) 1 valid.map.capacity room (omega arith)) in
      let capacity = subst (λ b. MatchBool b (IsCapacityAfter (λ key. key) v.walk v.capacity load_factor place w.capacity) (w.capacity ≡ v.capacity)) nonzero did.capacity in
      let inserted = IsInsertion-put (λ key. key) (λ key. key < 2 ^ 64) m l place z valid.map after.map refl (record {
        in_range = λ out. in_range-next v.walk v.capacity load_factor v.capacity takes.count valid.map.capacity takes.stays out.1;
        capacity = capacity;
      }) in
      subst (λ u. HasRoom (λ key. key) (as_map u) n) (sym is) (HasRoom-inserted (λ key. key) (λ key. key < 2 ^ 64) m l place z n valid.map room inserted refl)

  -- a value that is set leaves room for one place less, or for as many
  pub HasRoom-assigned : (n : ℕ) → HasRoom (λ key. key) (as_map v) (n + 1) → HasRoom (λ key. key) (as_map w) n
  HasRoom-assigned n room = elim (cases_Bool (is_nonzero z)) [
    | inl nonzero ↦ HasRoom-inserted_into nonzero n room
    | inr zero ↦ HasRoom-removed_from zero n (HasRoom-fewer (λ key. key) (as_map v) (n + 1) n valid.map.capacity room (omega arith))
  ]
