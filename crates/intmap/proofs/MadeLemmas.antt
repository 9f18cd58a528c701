-- Maps that insertions in turn made: with one pair more, and with a value written.
use Rattle.std.proofs.Common.{◌≡◌, ℕ, ◌+◌, Bool, true, false, cond, List, [], ◌∷◌, ◌++◌, length, map, Option, Some, None, refl, sym, ap, ◌∙◌, subst, lit≤, lit<, arith}
use Rattle.std.specs.Prelude.{is_some, MatchOption}
use Rattle.std.proofs.lemmas.List.{map-append}
use Rattle.intmap_table.specs.Bindings.{value_of, take_key, put_pair, write_value, swap_out}
use Rattle.intmap_table.specs.Classes.{same_key, agrees}
use Rattle.intmap.specs.Extending.{MapInsertsAll, IsMadeOf}
use Rattle.intmap.specs.Growth.{IsNext}
use Rattle.intmap.specs.Insertions.{IsInsertion, MapInserts}
use Rattle.intmap.specs.Map.{MapState, IsMap, empty_map, after_insert}
use Rattle.intmap_table.specs.Walk.{walk_of}
use Rattle.intmap.proofs.ExtendLemmas.{MapInsertsAll-push}
use Rattle.intmap.proofs.InsertionLemmas.{IsInsertion-put}
use Rattle.intmap.proofs.MapLemmas.{IsMapWalk-empty}
use Rattle.intmap_table.proofs.LocationLemmas.{walk_of-write_value}
use Rattle.intmap_table.proofs.MappedLemmas.{swap_out-map}
use Rattle.intmap.proofs.WriteLemmas.{length-write_value, value_of-write_value, IsMapWalk-written}

module _ {K V : Type 0} (number : K → ℕ) (k : K) (v : V) where
  -- the pair, with v as its value if its key is k
  abbrev rewritten : K × V → K × V
  rewritten p = cond (same_key number k p.0) (p.0, v) p

  -- it keeps its key
  rewritten-key : (p : K × V) → (rewritten p).0 ≡ p.0
  rewritten-key p = elim (same_key number k p.0) as (λ b. (cond b (p.0, v) p).0 ≡ p.0) [ true ↦ refl | false ↦ refl ]

  -- and is a pair of it and of a value
  rewritten-pair : (q : K) (w : V) → rewritten (q, w) ≡ (q, cond (same_key number k q) v w)
  rewritten-pair q w = elim (same_key number k q) as (λ b. ◌≡◌ {A = K × V} (cond b (q, v) (q, w)) (q, cond b v w)) [ true ↦ refl | false ↦ refl ]

  -- a key is removed from pairs alike, once a value was written
  take_key-write_value : (L : List (K × V)) (C : ℕ) (q : K) → take_key number (write_value number L k v) C q ≡ write_value number (take_key number L C q) k v
  take_key-write_value L C q =
      swap_out-map rewritten (λ p. same_key number q p.0) (λ p. agrees number C q p.0) L
      ∙ ap (λ (tests : (K × V → Bool) × (K × V → Bool)). map rewritten (swap_out tests.0 tests.1 L))
      (λ i. ((λ p. same_key number q (rewritten-key p i)), (λ p. agrees number C q (rewritten-key p i))))

  -- and a pair is put in alike
  put_pair-write_value : (L : List (K × V)) (C : ℕ) (q : K) (w : V)
      → put_pair number (write_value number L k v) C q (cond (same_key number k q) v w) ≡ write_value number (put_pair number L C q w) k v
  put_pair-write_value L C q w =
      ap (λ M. M ++ (q, cond (same_key number k q) v w) ∷ []) (take_key-write_value L C q)
      ∙ ap (λ p. write_value number (take_key number L C q) k v ++ p ∷ []) (sym (rewritten-pair q w))
      ∙ sym (map-append rewritten (take_key number L C q) ((q, w) ∷ []))

  -- the same keys are present
  is_some-write_value : (L : List (K × V)) (q : K) → is_some (value_of number (write_value number L k v) q) ≡ is_some (value_of number L q)
  is_some-write_value L q = let at = value_of-write_value number L k q v in grind (arith, at)

-- what asks only whether there is a value
MatchOption-alike : {V : Type 0} (o p : Option V) (P Q : Type 0) → is_some p ≡ is_some o → MatchOption o P (λ _. Q) → MatchOption p P (λ _. Q)
MatchOption-alike None None P Q same holds = holds
MatchOption-alike (Some v) (Some w) P Q same holds = holds
MatchOption-alike o p P Q same holds = let no : is_some p ≡ is_some o = same in cc

module _ {K V : Type 0} (number : K → ℕ) (is_valid : K → Type 0) where
  module _ (k : K) (v : V) where
    -- the map m with v written as the value of k, whatever its counts are
    record IsWrittenTo (m n : MapState K V) : Type 0 where
      walk : n.walk ≡ write_value number m.walk k v
      capacity : n.capacity ≡ m.capacity
      factor : n.factor ≡ m.factor

    -- it is a map too
    IsMap-written : (m n : MapState K V) → IsMap number is_valid m → IsWrittenTo m n → IsMap number is_valid n
    IsMap-written m n old is = rw (is.walk, is.capacity, is.factor) (IsMapWalk-written number is_valid m.walk m.capacity m.factor k v old)

    -- what insertions leave of it, if they insert the same pairs with the value written
    MapInsertsAll-written : (ps : List (K × V)) (m l n : MapState K V) → IsMap number is_valid m → IsWrittenTo m n → MapInsertsAll number is_valid m ps l
        → (o : MapState K V) × MapInsertsAll number is_valid n (write_value number ps k v) o × IsWrittenTo l o
    MapInsertsAll-written [] m l n old is same = (n, refl, rw same is)
    MapInsertsAll-written (p ∷ ps) m l n old is all =
        let j : MapState K V = all.0 in
        let one : MapInserts number is_valid m p.0 p.1 j = all.1 in
        let w : V = cond (same_key number k p.0) v p.1 in
        let i : MapState K V = after_insert number n p.0 w j.capacity in
        let len : length n.walk ≡ length m.walk = ap length is.walk ∙ length-write_value number m.walk k v in
        let bound : is_some (value_of number n.walk p.0) ≡ is_some (value_of number m.walk p.0) =
        ap (λ W. is_some (value_of number W p.0)) is.walk ∙ is_some-write_value number k v m.walk p.0 in
        let walk : i.walk ≡ write_value number j.walk k v =
        ap (λ (x : List (K × V) × ℕ). walk_of number (put_pair number x.0 x.1 p.0 w) j.capacity) (λ t. (is.walk t, is.capacity t))
        ∙ ap (λ L. walk_of number L j.capacity) (put_pair-write_value number k v m.walk m.capacity p.0 p.1)
        ∙ walk_of-write_value number (put_pair number m.walk m.capacity p.0 p.1) j.capacity k v
        ∙ ap (λ W. write_value number W k v) (sym (ap (λ x. x.walk) one.state)) in
        let factor : i.factor ≡ j.factor = is.factor ∙ sym (ap (λ x. x.factor) one.state) in
        let inserted : MapInserts number is_valid n p.0 w i = record {
          inserted = IsInsertion-put number is_valid n i p.0 w (IsMap-written m n old is) (IsMap-written j i one.inserted.valid (record { walk = walk; capacity = refl; factor = factor })) refl (record {
            in_range = λ out. one.inserted.fits.in_range (let none = out.0 in grind (arith, bound, none), rw (len, is.capacity, is.factor) at out.1);
            capacity = rw (len, is.capacity, is.factor) (MatchOption-alike (value_of number m.walk p.0) (value_of number n.walk p.0) (IsNext m.capacity (length m.walk + 1) m.factor j.capacity) (j.capacity ≡ m.capacity) bound one.inserted.fits.capacity);
          });
          state = refl;
        } in
        let rest = MapInsertsAll-written ps j l i one.inserted.valid (record { walk = walk; capacity = refl; factor = factor }) all.2 in
        (rest.0, (i, subst (λ (r : K × V). MapInserts number is_valid n r.0 r.1 i) (sym (rewritten-pair number k v p.0 p.1)) inserted, rest.1), rest.2)

    -- a map that was made of pairs, once the value of a key was written in its place
    pub IsMadeOf-written : (ps : List (K × V)) (m n : MapState K V) → IsMadeOf number is_valid ps m → n.walk ≡ write_value number m.walk k v → n.capacity ≡ m.capacity → n.factor ≡ m.factor
        → IsMadeOf number is_valid (write_value number ps k v) n
    IsMadeOf-written ps m n made walk capacity factor =
        let after = MapInsertsAll-written ps (empty_map 4) made.filled (empty_map 4) (IsMapWalk-empty number is_valid [] 4 909 refl (2, lit≤ tt, lit< tt, refl) (lit< tt)) (record { walk = refl; capacity = refl; factor = refl }) made.inserted in
        let w : n.walk ≡ after.0.walk = walk ∙ ap (λ x. write_value number x.walk k v) made.state ∙ sym after.2.walk in
        let c : n.capacity ≡ after.0.capacity = capacity ∙ ap (λ x. x.capacity) made.state ∙ sym after.2.capacity in
        let f : n.factor ≡ after.0.factor = factor ∙ ap (λ x. x.factor) made.state ∙ sym after.2.factor in
        record {
          filled = after.0;
          inserted = after.1;
          state = λ t. record n { walk = w t; capacity = c t; factor = f t };
        }

  -- insertions keep the load factor
  MapInsertsAll-factor : (ps : List (K × V)) (m n : MapState K V) → MapInsertsAll number is_valid m ps n → n.factor ≡ m.factor
  MapInsertsAll-factor [] m n same = ap (λ x. x.factor) same
  MapInsertsAll-factor (p ∷ ps) m n all =
      let one : MapInserts number is_valid m p.0 p.1 all.0 = all.1 in MapInsertsAll-factor ps all.0 n all.2 ∙ ap (λ x. x.factor) one.state

  -- a map that was made of pairs has the load factor of a new one
  pub IsMadeOf-factor : (ps : List (K × V)) (m : MapState K V) → IsMadeOf number is_valid ps m → m.factor ≡ 909
  IsMadeOf-factor ps m made = ap (λ x. x.factor) made.state ∙ MapInsertsAll-factor ps (empty_map 4) made.filled made.inserted

  -- a map that was made of pairs, once one more was inserted
  pub IsMadeOf-inserted : (ps : List (K × V)) (k : K) (v : V) (m n : MapState K V) → IsMadeOf number is_valid ps m → IsInsertion number is_valid m k v n
      → n.walk ≡ walk_of number (put_pair number m.walk m.capacity k v) n.capacity → n.factor ≡ m.factor → IsMadeOf number is_valid (ps ++ (k, v) ∷ []) n
  IsMadeOf-inserted ps k v m n made last put same =
      let f : MapState K V = made.filled in
      let o : MapState K V = after_insert number f k v n.capacity in
      let w : n.walk ≡ o.walk = put ∙ ap (λ x. walk_of number (put_pair number x.walk x.capacity k v) n.capacity) made.state in
      let l : n.factor ≡ o.factor = same ∙ ap (λ x. x.factor) made.state in
      let state : n ≡ record o { placed = n.placed; compared = n.compared; reserved = n.reserved } = λ t. record n { walk = w t; factor = l t } in
      let did = subst (λ x. IsInsertion number is_valid (record f { placed = m.placed; compared = m.compared; reserved = m.reserved }) k v x) state (subst (λ x. IsInsertion number is_valid x k v n) made.state last) in
      record {
        filled = o;
        inserted = MapInsertsAll-push number is_valid (empty_map 4) f o ps k v made.inserted (record {
          inserted = record { fits = did.fits; updates = did.updates; len = did.len; valid = did.valid };
          state = refl;
        });
        state = state;
      }
