-- Slots that grow in place: in the middle some of them lead into the old nodes, the others into the new ones.
use Rattle.std.proofs.Common.{◌⊎◌, ⊎_elim, inl, inr, ◌≡◌, ℕ, ◌+◌, ◌-◌, ◌%◌, ◌<◌, ◌≤◌, Bool, true, false, cond, List, [], ◌∷◌, ◌++◌, length, get_or, set, refl, sym, ap, ◌∙◌, subst, arith, zero-add, append-nil, append_assoc, ◌==◌}
use Rattle.std.specs.Prelude.{nat_lt, replicate, reverse, take}
use Rattle.std.proofs.Math.Nat.{mod-eq_of_lt}
use Rattle.std.proofs.Math.Seq.{take-append_seam}
use Rattle.std.proofs.lemmas.Bool.{lt-ltb, le-ltb}
use Rattle.std.proofs.lemmas.Grind.{reverse_onto}
use Rattle.std.proofs.lemmas.List.Elements.{filter-append}
use Rattle.std.proofs.lemmas.List.{length_push, reverse-append, ext_get_or, get_or_default, get_or_past, get_or-map, get_or-take, get_or-append_right, length-append, length-map, length-replicate, length-set, length-take-le, get_or-set_same, get_or-set_other}
use Rattle.std.proofs.lemmas.List.FromFn.{length-map-range_with_len, get_or-map-range_with_len}
use Rattle.intmap_table.specs.Classes.{slot_number}
use Rattle.intmap_table.specs.declared.linked.row.growth.Order.{Order}
use Rattle.intmap_table.specs.declared.linked.row.growth.Order.TheVariants as orders
use Rattle.intmap_table.specs.Walk.{slot_of}
use Rattle.intmap_table.specs.Tables.Growing.{blank, moved_slot, place_in, put_in}
use Rattle.intmap_table.specs.Tables.Nodes.{Node, Free, Held, empty, freed, Pool, node_at, chain_of, row_in, rows_in, AreHome, AreLinked, IsChain, IsChainSet, IsCut, IsSlot, IsSlotSet, Misses, Spares}
use Rattle.intmap_table.specs.Tables.Rows.{AreRows, HasMoved, IsGrown}
use Rattle.intmap_table.proofs.SlotNumberLemmas.{capacity-positive}
use Rattle.intmap_table.proofs.Tables.FilledLemmas.{filled-pushed, marks-enough, AreMarked-set}
use Rattle.intmap_table.proofs.Tables.GrownLemmas.{grown-more}
use Rattle.intmap_table.proofs.Tables.MarkedLemmas.{get_or-of_default}
use Rattle.intmap_table.proofs.Nodes.ChainLemmas.{Cut-chain}
use Rattle.intmap_table.proofs.Nodes.LinkedLemmas.{AreFree, HaveRows, Row-of, Row-set, Stays, home-append, home-join, slot_stays}
use Rattle.intmap_table.proofs.Nodes.NodeLemmas.{same_or_not, below_or_not}
use Rattle.intmap_table.proofs.Nodes.PathLemmas.{Chain-next}
use Rattle.intmap_table.proofs.Nodes.PlacedLemmas.{home-put_second, put_second-filled}

-- a slot that gets pairs of old slot i is that slot, or a new one
pub part-outside : (C i j : ℕ) → j % C ≡ i → (j < i + 1) ⊎ (C ≤ j)
part-outside C i j part = elim (below_or_not j C) [ inl lt ↦ inl (let e = mod-eq_of_lt lt in omega (arith, e, part)) | inr le ↦ inr le ]

-- a pair that is put in before the other ones, or between the first one and them
put_between : {P : Type 0} (b : Bool) (first p : P) (ps : List P) → put_in (cond b orders.Second orders.First) (cond b (first ∷ ps) ps) p ≡ cond b (first ∷ p ∷ ps) (p ∷ ps)
put_between true first p ps = refl
put_between false first p ps = refl

-- a pair that is alone
pub put_in-alone : {P : Type 0} (o : Order) (p : P) → put_in o [] p ≡ p ∷ []
put_in-alone orders.First p = refl
put_in-alone orders.Second p = refl
put_in-alone orders.Last p = refl

-- there is one more
pub length-put_in : {P : Type 0} (o : Order) (ps : List P) (p : P) → length (put_in o ps p) ≡ length ps + 1
length-put_in orders.First ps p = omega arith
length-put_in orders.Second [] p = refl
length-put_in orders.Second (q ∷ ps) p = omega arith
length-put_in orders.Last ps p = length_push ps p

pub place_in-alone : {P : Type 0} (o : Order) (row : List P) → row ≡ [] → place_in o row ≡ 0
place_in-alone orders.First row none = refl
place_in-alone orders.Second row none = ap (place_in orders.Second) none
place_in-alone orders.Last row none = ap length none

home_put_in : {P : Type 0} (home : P → ℕ) (i : ℕ) (o : Order) (ps : List P) (p : P) → AreHome home i ps → home p ≡ i → AreHome home i (put_in o ps p)
home_put_in home i orders.First ps p own e = (e, own)
home_put_in home i orders.Second ps p own e = home-put_second home i ps p own e
home_put_in home i orders.Last ps p own e = home-append home i ps p own e

put_in_filled : {P : Type 0} (o : Order) (ps : List P) (p : P) → true ≡ nat_lt 0 (length (put_in o ps p))
put_in_filled orders.First ps p = sym (lt-ltb 0 (length (p ∷ ps)) (omega arith))
put_in_filled orders.Second ps p = put_second-filled ps p
put_in_filled orders.Last ps p = sym (filled-pushed ps p)

cond_same : {X : Type 0} (b : Bool) (x : X) → cond b x x ≡ x
cond_same true x = refl
cond_same false x = refl

module _ {P : Type 0} where
  moved_outside : (n C j : ℕ) (s : Node P) → (j < n) ⊎ (C ≤ j) → moved_slot n C j s ≡ s
  moved_outside n C j s (inl lt) = ap (λ b. cond b s (cond (nat_lt j C) (freed s) s)) (lt-ltb j n lt)
  moved_outside n C j s (inr le) = ap (λ b. cond (nat_lt j n) s (cond b (freed s) s)) (le-ltb j C le) ∙ cond_same (nat_lt j n) s

  moved_inside : (n C j : ℕ) (s : Node P) → n ≤ j → j < C → moved_slot n C j s ≡ freed s
  moved_inside n C j s le lt = ap (λ b. cond b s (cond (nat_lt j C) (freed s) s)) (le-ltb j n le) ∙ ap (λ b. cond b (freed s) s) (lt-ltb j C lt)

  -- one that holds no pair if it hasn't moved counts as it is
  moved_none : (n C j : ℕ) (s : Node P) → (n ≤ j → j < C → freed s ≡ s) → moved_slot n C j s ≡ s
  moved_none n C j s none =
      ⊎_elim (λ lt. moved_outside n C j s (inl lt))
      (λ le. ⊎_elim (λ lt. moved_inside n C j s le lt ∙ none le lt) (λ past. moved_outside n C j s (inr past)) (below_or_not j C)) (below_or_not j n)

  pub length-blank : (n C : ℕ) (S : List (Node P)) → length (blank n C S) ≡ length S
  unfolding blank
  length-blank n C S = length-map-range_with_len (λ j. moved_slot n C j (get_or S j empty)) 0 (length S)

  blank_at : (n C : ℕ) (S : List (Node P)) (j : ℕ) → j < length S → get_or (blank n C S) j empty ≡ moved_slot n C j (get_or S j empty)
  unfolding blank
  blank_at n C S j below = get_or-map-range_with_len (λ j. moved_slot n C j (get_or S j empty)) 0 (length S) j j empty below (zero-add j)

  -- lists of slots that are alike at each index
  blank_is : (n C : ℕ) (S T : List (Node P)) → length S ≡ length T → ((j : ℕ) → j < length S → moved_slot n C j (get_or S j empty) ≡ get_or T j empty) → blank n C S ≡ T
  blank_is n C S T len same =
      let long = length-blank n C S in
      ext_get_or empty (blank n C S) T (long ∙ len)
      (λ j below. let less : j < length S = omega (arith, long, below) in blank_at n C S j less ∙ same j less)

  -- if the slots that haven't moved hold no pair, all slots count as they are
  pub blank-all : (n C : ℕ) (S : List (Node P)) → ((j : ℕ) → n ≤ j → j < C → freed (get_or S j empty) ≡ get_or S j empty) → blank n C S ≡ S
  blank-all n C S none = blank_is n C S S refl (λ j below. moved_none n C j (get_or S j empty) (none j))

  -- slots without a pair are passed over
  pub blank-passed : (n i C : ℕ) (S : List (Node P)) → n ≤ i → ((j : ℕ) → n ≤ j → j < i → freed (get_or S j empty) ≡ get_or S j empty) → blank n C S ≡ blank i C S
  blank-passed n i C S up none =
      blank_is n C S (blank i C S) (sym (length-blank i C S))
      (λ j below. ⊎_elim (λ lt. ⊎_elim (λ before. moved_outside n C j (get_or S j empty) (inl before))
      (λ behind. moved_none n C j (get_or S j empty) (λ _ _. none j behind lt)) (below_or_not j n) ∙ sym (moved_outside i C j (get_or S j empty) (inl lt)))
      (λ le. ⊎_elim (λ lt. moved_inside n C j (get_or S j empty) (omega (arith, le, up)) lt ∙ sym (moved_inside i C j (get_or S j empty) le lt))
      (λ past. moved_outside n C j (get_or S j empty) (inr past) ∙ sym (moved_outside i C j (get_or S j empty) (inr past))) (below_or_not j C)) (below_or_not j i)
      ∙ sym (blank_at i C S j below))

  -- the pairs of a slot that holds some are taken out of it
  pub blank-taken : (n C : ℕ) (S : List (Node P)) → n < C → n < length S → freed (get_or S n empty) ≡ empty → blank n C S ≡ blank (n + 1) C (set S n empty)
  blank-taken n C S in_old within some =
      let T = set S n empty in
      let len = length-set S n empty in
      blank_is n C S (blank (n + 1) C T) (sym (length-blank (n + 1) C T ∙ len))
      (λ j below. ⊎_elim
      (λ e. moved_inside n C j (get_or S j empty) (omega (arith, e)) (omega (arith, e, in_old)) ∙ ap (λ k. freed (get_or S k empty)) e ∙ some
      ∙ sym (moved_outside (n + 1) C j (get_or T j empty) (inl (omega (arith, e))) ∙ ap (λ k. get_or T k empty) e ∙ get_or-set_same S n empty empty within))
      (λ apart. ⊎_elim (λ lt. moved_outside n C j (get_or S j empty) (inl lt) ∙ sym (moved_outside (n + 1) C j (get_or S j empty) (inl (omega (arith, lt)))))
      (λ le. ⊎_elim (λ lt. moved_inside n C j (get_or S j empty) le lt ∙ sym (moved_inside (n + 1) C j (get_or S j empty) (omega (arith, le, apart)) lt))
      (λ past. moved_outside n C j (get_or S j empty) (inr past) ∙ sym (moved_outside (n + 1) C j (get_or S j empty) (inr past))) (below_or_not j C)) (below_or_not j n)
      ∙ ap (moved_slot (n + 1) C j) (sym (get_or-set_other S n j empty empty apart)))
      (same_or_not j n) ∙ sym (blank_at (n + 1) C T j (omega (arith, len, below))))

  -- a slot that has moved, or is new, changes
  pub blank-set : (n C : ℕ) (S : List (Node P)) (j : ℕ) (t : Node P) → (j < n) ⊎ (C ≤ j) → j < length S → blank n C (set S j t) ≡ set (blank n C S) j t
  blank-set n C S j t out within =
      let B = blank n C S in
      let len = length-set S j t in
      let long = length-blank n C S in
      blank_is n C (set S j t) (set B j t) (len ∙ sym (length-set B j t ∙ long))
      (λ k below. ⊎_elim
      (λ e. ap (λ i. moved_slot n C i (get_or (set S j t) i empty)) e ∙ moved_outside n C j (get_or (set S j t) j empty) out ∙ get_or-set_same S j t empty within
      ∙ sym (ap (λ i. get_or (set B j t) i empty) e ∙ get_or-set_same B j t empty (omega (arith, long, within))))
      (λ apart. ap (moved_slot n C k) (get_or-set_other S j k t empty apart) ∙ sym (get_or-set_other B j k t empty apart ∙ blank_at n C S k (omega (arith, len, below))))
      (same_or_not k j))

  freed_twice : (s : Node P) → freed (freed s) ≡ freed s
  freed_twice (Free n) = refl
  freed_twice (Held n p) = refl

  -- at the start no slot has moved, and the new ones are empty: none counts as one with a pair
  pub blank-start : (O : List (Node P)) (k : ℕ) → AreFree (blank 0 (length O) (O ++ replicate k empty))
  blank-start O k j =
      let S = O ++ replicate k empty in
      let B = blank 0 (length O) S in
      let free : (s : Node P) → get_or B j empty ≡ s → freed s ≡ s → freed (get_or B j empty) ≡ get_or B j empty = λ s is none. subst (λ t. freed t ≡ t) (sym is) none in
      ⊎_elim
      (λ below. let at = blank_at 0 (length O) S j below in ⊎_elim
      (λ lt. free (freed (get_or S j empty)) (at ∙ moved_inside 0 (length O) j (get_or S j empty) (omega arith) lt) (freed_twice (get_or S j empty)))
      (λ new. free empty (at ∙ moved_outside 0 (length O) j (get_or S j empty) (inr new)
      ∙ get_or-append_right O (replicate k empty) (length O) j empty refl new ∙ get_or-of_default k (j - length O) empty) refl)
      (below_or_not j (length O)))
      (λ past. let long = length-blank 0 (length O) S in free empty (get_or_past B j empty (omega (arith, past, long))) refl)
      (below_or_not j (length S))

  -- a slot without a pair has none that could be taken
  pub row-empty : (cs : List (Node P)) (s : Node P) → row_in cs s ≡ [] → freed s ≡ s
  row-empty cs (Free n) none = refl
  row-empty cs (Held l p) none = absurd (let e = ap length none in omega (arith, e))

  -- of the pairs of a row those are left that the link leads through
  pub record AreTaken (a : Pool P) (row : List P) (b : Pool P) (m : ℕ) : Type 0 where
    pub is : IsChain b.nodes m
    pub spares : Spares a.nodes b.nodes row
    pub misses : (test : P → Bool) → Misses test row → Misses test (chain_of b.nodes m)

  misses_join : (t : P → Bool) (ps qs : List P) → Misses t ps → Misses t qs → Misses t (ps ++ qs)
  misses_join t [] qs h k = k
  misses_join t (p ∷ ps) qs h k = (h.0, misses_join t ps qs h.1 k)

  misses_reverse : (t : P → Bool) (ps : List P) → Misses t ps → Misses t (reverse ps)
  misses_reverse t [] h = tt
  misses_reverse t (p ∷ ps) h = subst (λ qs. Misses t qs) (sym (reverse-append (p ∷ []) ps)) (misses_join t (reverse ps) (p ∷ []) (misses_reverse t ps h.1) (h.0, tt))

  -- the first one is taken, and the others are turned
  pub Taken-start : (a : Pool P) (row : List P) (l : ℕ) (p : P) (b : Pool P) (m : ℕ) → row ≡ p ∷ chain_of a.nodes l → IsChainSet a l (reverse (chain_of a.nodes l)) b m → AreTaken a row b m
  Taken-start a row l p b m is h = record {
    is = h.is;
    spares = λ t misses. (let all : Misses t (p ∷ chain_of a.nodes l) = subst (λ ps. Misses t ps) is misses in h.spares t all.1);
    misses = λ t misses. (let all : Misses t (p ∷ chain_of a.nodes l) = subst (λ ps. Misses t ps) is misses in subst (λ ps. Misses t ps) (sym h.pairs) (misses_reverse t (chain_of a.nodes l) all.1));
  }

  pub Taken-next : (a : Pool P) (row : List P) (b : Pool P) (m : ℕ) (p : P) (c : Pool P) (k : ℕ) → AreTaken a row b m → IsCut b m 0 p c k → AreTaken a row c k
  Taken-next a row b m p c k h cut = record {
    is = cut.chain.is;
    spares = λ t misses j n q passes at. cut.chain.spares t (h.misses t misses) j n q passes (h.spares t misses j n q passes at);
    misses = λ t misses. (let all : Misses t (p ∷ chain_of c.nodes k) = subst (λ ps. Misses t ps) (Cut-chain b m p c k cut) (h.misses t misses) in all.1);
  }

  -- a pair that was read is the first one
  pub Chain-head : (cs : List (Node P)) (l n : ℕ) (q p : P) (ps : List P) → IsChain cs l → node_at cs l ≡ Held n q → chain_of cs l ≡ p ∷ ps → q ≡ p
  Chain-head cs l n q p ps is at first =
      let next = Chain-next cs l n q is at in
      let both : q ∷ chain_of cs n ≡ p ∷ ps = sym next.pairs ∙ first in
      cc

  -- the slots from `from` up to slot C lead into the old nodes, through the rows that they had
  pub record AreLeft (R : List (List P)) (from C : ℕ) (S : List (Node P)) (a : Pool P) : Type 0 where
    pub chains : (j : ℕ) → from ≤ j → j < C → IsSlot a.nodes (get_or S j empty)
    pub rows : (j : ℕ) → from ≤ j → j < C → row_in a.nodes (get_or S j empty) ≡ get_or R j []

  module _ (home : P → ℕ) where
    pub home-reverse : (i : ℕ) (ps : List P) → AreHome home i ps → AreHome home i (reverse ps)
    home-reverse i [] own = tt
    home-reverse i (p ∷ ps) own = subst (AreHome home i) (sym (reverse-append (p ∷ []) ps)) (home-join home i (reverse ps) (p ∷ []) (home-reverse i ps own.1) (own.0, tt))

    pub Left-start : (C : ℕ) (S : List (Node P)) (a : Pool P) → C ≤ length S → AreLinked home (take C S) a → AreLeft (rows_in (take C S) a.nodes) 0 C S a
    Left-start C S a less linked =
        let len = length-take-le C S less in
        record {
          chains = λ j _ lt. subst (λ s. IsSlot a.nodes s) (get_or-take C S j empty lt) (linked.chains j (omega (arith, len, lt)));
          rows = λ j _ lt. ap (row_in a.nodes) (sym (get_or-take C S j empty lt)) ∙ sym (get_or-map (row_in a.nodes) (take C S) j empty [] (omega (arith, len, lt)));
        }

    -- the pairs of each of them are at home there
    pub Left-own : (C : ℕ) (S : List (Node P)) (a : Pool P) → C ≤ length S → AreLinked home (take C S) a → (j : ℕ) → j < C → AreHome home j (get_or (rows_in (take C S) a.nodes) j [])
    Left-own C S a less linked j lt =
        let len = length-take-le C S less in
        let below : j < length (take C S) = omega (arith, len, lt) in
        subst (λ ps. AreHome home j ps) (sym (get_or-map (row_in a.nodes) (take C S) j empty [] below)) (linked.own j below)

    -- the next one has moved
    pub Left-next : (R : List (List P)) (from i C : ℕ) (S : List (Node P)) (a : Pool P) (T : List (Node P)) (b : Pool P) → AreLeft R from C S a → ((j : ℕ) → j < C → AreHome home j (get_or R j [])) → from ≤ i → i < C
        → ((j : ℕ) → i < j → j < C → get_or T j empty ≡ get_or S j empty) → Spares a.nodes b.nodes (row_in a.nodes (get_or S i empty)) → AreLeft R (i + 1) C T b
    Left-next R from i C S a T b left own up in_old same spares =
        let mine : AreHome home i (row_in a.nodes (get_or S i empty)) = subst (λ ps. AreHome home i ps) (sym (left.rows i up in_old)) (own i in_old) in
        let stays : (j : ℕ) → i < j → j < C → Stays home j a.nodes b.nodes (get_or S j empty) = λ j behind lt.
        slot_stays home i j a.nodes b.nodes (row_in a.nodes (get_or S i empty)) (get_or S j empty) (λ e. omega (arith, e, behind)) mine spares (left.chains j (omega (arith, up, behind)) lt)
        (subst (λ ps. AreHome home j ps) (sym (left.rows j (omega (arith, up, behind)) lt)) (own j lt)) in
        record {
          chains = λ j le lt. subst (λ s. IsSlot b.nodes s) (sym (same j (omega (arith, le)) lt)) (stays j (omega (arith, le)) lt).chain;
          rows = λ j le lt. ap (row_in b.nodes) (same j (omega (arith, le)) lt) ∙ (stays j (omega (arith, le)) lt).row ∙ left.rows j (omega (arith, le, up)) lt;
        }

module _ {K X : Type 0} (number : K → ℕ) where
  -- a slot that has moved, or is new, is one of the slots, and its row is there
  pub record IsReached (S : List (Node (K × X))) (pool : Pool (K × X)) (marks : List Bool) (R : List (List (K × X))) (j : ℕ) : Type 0 where
    pub within : j < length S
    pub mark : j < length marks
    pub leads : IsSlot pool.nodes (get_or S j empty)
    pub row : row_in pool.nodes (get_or S j empty) ≡ get_or R j []

  -- slot j got a pair
  pub record HasPut (n C mask : ℕ) (S : List (Node (K × X))) (pool : Pool (K × X)) (j : ℕ) (order : Order) (p : K × X) (T : List (Node (K × X))) (pool' : Pool (K × X)) (marks' : List Bool) : Type 0 where
    pub are : AreRows number (blank n C T) pool' marks' mask
    pub rows : rows_in (blank n C T) pool'.nodes ≡ set (rows_in (blank n C S) pool.nodes) j (put_in order (get_or (rows_in (blank n C S) pool.nodes) j []) p)
    pub len : length T ≡ length S
    pub left : (k : ℕ) → n ≤ k → k < C → get_or T k empty ≡ get_or S k empty

  module _ (n C : ℕ) (S : List (Node (K × X))) (pool : Pool (K × X)) (marks : List Bool) (mask j : ℕ) (are : AreRows number (blank n C S) pool marks mask) (out : (j < n) ⊎ (C ≤ j)) (le : j ≤ mask) where
    below : j < length S
    below = let count = are.count in let len = length-blank n C S in omega (arith, count, len, le)

    in_blank : j < length (blank n C S)
    in_blank = let count = are.count in omega (arith, count, le)

    slot_is : get_or (blank n C S) j empty ≡ get_or S j empty
    slot_is = blank_at n C S j below ∙ moved_outside n C j (get_or S j empty) out

    in_rows : j < length (rows_in (blank n C S) pool.nodes)
    in_rows = let long = length-map (blank n C S) (row_in pool.nodes) in let w = in_blank in omega (arith, long, w)

    pub Growing-reached : IsReached S pool marks (rows_in (blank n C S) pool.nodes) j
    Growing-reached = record {
      within = below;
      mark = (let enough = marks-enough (rows_in (blank n C S) pool.nodes) marks are.marked in let w = in_rows in omega (arith, enough, w));
      leads = subst (λ s. IsSlot pool.nodes s) slot_is (are.linked.chains j in_blank);
      row = ap (row_in pool.nodes) (sym slot_is) ∙ sym (get_or-map (row_in pool.nodes) (blank n C S) j empty [] in_blank);
    }

    pub Growing-put : (order : Order) (p : K × X) (T : List (Node (K × X))) (pool' : Pool (K × X)) (marks' : List Bool) → slot_number number p.0 (mask + 1) ≡ j
        → (t : Node (K × X)) × (T ≡ set S j t) × IsSlotSet pool (get_or S j empty) (put_in order (row_in pool.nodes (get_or S j empty)) p) pool' t → marks' ≡ set marks j true → HasPut n C mask S pool j order p T pool' marks'
    Growing-put order p T pool' marks' own put marked =
        let B = blank n C S in
        let R = rows_in B pool.nodes in
        let s = get_or S j empty in
        let t = put.0 in
        let row = Row-of number B pool marks mask j s are in_rows (sym slot_is ∙ get_or_default B j empty s in_blank) in
        let done : HaveRows number (set B j t) pool' (set marks j true) mask (set R j (put_in order (get_or R j []) p)) =
        Row-set number B pool marks mask j s (λ ps. put_in order ps p) pool' t (set marks j true) are row put.2
        (home_put_in (λ q. slot_number number q.0 (length B)) j order (row_in pool.nodes s) p row.own (ap (slot_number number p.0) (sym are.count) ∙ own))
        (AreMarked-set R marks are.marked j in_rows (put_in order (get_or R j []) p) true (put_in_filled order (get_or R j []) p)) in
        let same : set B j t ≡ blank n C T = sym (ap (blank n C) put.1 ∙ blank-set n C S j t out below) in
        record {
          are = subst (λ ms. AreRows number (blank n C T) pool' ms mask) (sym marked) (subst (λ U. AreRows number U pool' (set marks j true) mask) same done.are);
          rows = ap (λ U. rows_in U pool'.nodes) (sym same) ∙ done.rows;
          len = ap length put.1 ∙ length-set S j t;
          left = λ k up lt. ap (λ U. get_or U k empty) put.1 ∙ get_or-set_other S j k t empty (λ e. elim out [ inl o ↦ omega (arith, e, o, up) | inr o ↦ omega (arith, e, o, lt) ]);
        }

  -- the pairs of slot n are taken out of it, and go to new slots next
  pub record HasTaken (n C mask : ℕ) (S : List (Node (K × X))) (pool : Pool (K × X)) (marks : List Bool) (T : List (Node (K × X))) : Type 0 where
    pub are : AreRows number (blank (n + 1) C T) pool marks mask
    pub rows : rows_in (blank (n + 1) C T) pool.nodes ≡ rows_in (blank n C S) pool.nodes
    pub len : length T ≡ length S
    pub left : (k : ℕ) → n + 1 ≤ k → k < C → get_or T k empty ≡ get_or S k empty

  pub Growing-taken : (n C mask : ℕ) (S : List (Node (K × X))) (pool : Pool (K × X)) (marks : List Bool) (t : Node (K × X)) → AreRows number (blank n C S) pool marks mask → n < C → n < length S → freed (get_or S n empty) ≡ empty → t ≡ empty
      → HasTaken n C mask S pool marks (set S n t)
  Growing-taken n C mask S pool marks t are in_old within some none =
      let same : blank n C S ≡ blank (n + 1) C (set S n t) = blank-taken n C S in_old within some ∙ ap (λ u. blank (n + 1) C (set S n u)) (sym none) in
      record {
        are = subst (λ U. AreRows number U pool marks mask) same are;
        rows = ap (λ U. rows_in U pool.nodes) (sym same);
        len = length-set S n t;
        left = λ k up lt. get_or-set_other S n k t empty (λ e. omega (arith, e, up));
      }

  -- of an old row these pairs are left, turned; the first one and those behind them are in their new slots, of which the first one has slot j
  pub record IsMoving (D : ℕ) (row : List (K × X)) (j : ℕ) (left : List (K × X)) (R S : List (List (K × X))) : Type 0 where
    pub first : K × X
    pub done : List (K × X)
    pub pairs : row ≡ first ∷ (reverse left ++ done)
    pub own : slot_number number first.0 D ≡ j
    pub len : length S ≡ length R
    pub rows : (k : ℕ) → k < length R → get_or S k [] ≡ get_or R k [] ++ slot_of number (first ∷ done) D k

  pub Moving-start : (D : ℕ) (row : List (K × X)) (j : ℕ) (left : List (K × X)) (R S : List (List (K × X))) (p : K × X) → row ≡ p ∷ reverse left → slot_number number p.0 D ≡ j → get_or R j [] ≡ []
      → S ≡ set R j (put_in orders.First (get_or R j []) p) → IsMoving D row j left R S
  Moving-start D row j left R S p is own none put = record {
    first = p;
    done = [];
    pairs = is ∙ ap (λ ps. p ∷ ps) (sym (append-nil (reverse left)));
    own = own;
    len = ap length put ∙ length-set R j (put_in orders.First (get_or R j []) p);
    rows = λ k below.
        ap (λ T. get_or T k []) put
        ∙ ⊎_elim (λ e.
        let yes : (slot_number number p.0 D == k) ≡ true = grind (arith, own, e) in
        ap (λ i. get_or (set R j (put_in orders.First (get_or R j []) p)) i []) e ∙ get_or-set_same R j (put_in orders.First (get_or R j []) p) [] (omega (arith, e, below)) ∙ ap (λ ps. p ∷ ps) none
        ∙ sym (ap (λ b. get_or R k [] ++ cond b (p ∷ []) []) yes ∙ ap (λ i. get_or R i [] ++ p ∷ []) e ∙ ap (λ ps. ps ++ p ∷ []) none))
        (λ apart.
        let no : (slot_number number p.0 D == k) ≡ false = grind (arith, own, apart) in
        get_or-set_other R j k (put_in orders.First (get_or R j []) p) [] apart ∙ sym (ap (λ b. get_or R k [] ++ cond b (p ∷ []) []) no ∙ append-nil (get_or R k [])))
        (same_or_not k j);
  }

  pub Moving-next : (D : ℕ) (row : List (K × X)) (j : ℕ) (left : List (K × X)) (R S : List (List (K × X))) (p : K × X) (rest : List (K × X)) (i : ℕ) (o : Order) (T : List (List (K × X))) → IsMoving D row j left R S → left ≡ p ∷ rest
      → slot_number number p.0 D ≡ i → o ≡ cond (j == i) orders.Second orders.First → get_or R i [] ≡ [] → T ≡ set S i (put_in o (get_or S i []) p) → IsMoving D row j rest R T
  Moving-next D row j left R S p rest i o T h is own which none put = record {
    first = h.first;
    done = p ∷ h.done;
    pairs = h.pairs ∙ ap (λ ps. h.first ∷ (reverse ps ++ h.done)) is ∙ ap (λ ps. h.first ∷ ps) (ap (λ xs. xs ++ h.done) (reverse_onto rest p []) ∙ append_assoc (reverse rest) (p ∷ []) h.done);
    own = h.own;
    len = ap length put ∙ length-set S i (put_in o (get_or S i []) p) ∙ h.len;
    rows = λ k below.
        let len = h.len in
        ap (λ U. get_or U k []) put
        ∙ ⊎_elim (λ e.
        let yes : (slot_number number p.0 D == i) ≡ true = grind (arith, own) in
        let same : (slot_number number h.first.0 D == i) ≡ (j == i) = ap (λ n. n == i) h.own in
        let Z = slot_of number h.done D i in
        ap (λ n. get_or (set S i (put_in o (get_or S i []) p)) n []) e ∙ get_or-set_same S i (put_in o (get_or S i []) p) [] (omega (arith, e, below, len))
        ∙ ap (λ ps. put_in o ps p) (h.rows i (omega (arith, e, below)) ∙ ap (λ ps. ps ++ slot_of number (h.first ∷ h.done) D i) none ∙ ap (λ b. cond b (h.first ∷ Z) Z) same)
        ∙ ap (λ u. put_in u (cond (j == i) (h.first ∷ Z) Z) p) which ∙ put_between (j == i) h.first p Z
        ∙ sym (ap (λ n. get_or R n [] ++ slot_of number (h.first ∷ p ∷ h.done) D n) e ∙ ap (λ ps. ps ++ slot_of number (h.first ∷ p ∷ h.done) D i) none
        ∙ ap (λ b. cond (slot_number number h.first.0 D == i) (h.first ∷ cond b (p ∷ Z) Z) (cond b (p ∷ Z) Z)) yes ∙ ap (λ b. cond b (h.first ∷ p ∷ Z) (p ∷ Z)) same))
        (λ apart.
        let no : (slot_number number p.0 D == k) ≡ false = grind (arith, own, apart) in
        let Z = slot_of number h.done D k in
        get_or-set_other S i k (put_in o (get_or S i []) p) [] apart ∙ h.rows k below
        ∙ sym (ap (λ b. get_or R k [] ++ cond (slot_number number h.first.0 D == k) (h.first ∷ cond b (p ∷ Z) Z) (cond b (p ∷ Z) Z)) no))
        (same_or_not k i);
  }

  pub Moving-end : (D : ℕ) (row : List (K × X)) (j : ℕ) (left : List (K × X)) (R S : List (List (K × X))) → IsMoving D row j left R S → left ≡ [] → (L : List (K × X)) → HasMoved number L D R → HasMoved number (L ++ row) D S
  Moving-end D row j left R S h none L before =
      let all : row ≡ h.first ∷ h.done = h.pairs ∙ ap (λ ps. h.first ∷ (reverse ps ++ h.done)) none in
      record {
        capacity = before.capacity;
        len = h.len ∙ before.len;
        rows = λ k below.
            h.rows k (let len = before.len in omega (arith, below, len)) ∙ ap (λ ps. ps ++ slot_of number (h.first ∷ h.done) D k) (before.rows k below)
            ∙ sym (filter-append (λ q. slot_number number q.0 D == k) L (h.first ∷ h.done)) ∙ ap (λ ps. slot_of number (L ++ ps) D k) (sym all);
      }

  -- another pair comes last in its slot, i
  pub Moved-next : (C : ℕ) (L : List (K × X)) (R : List (List (K × X))) (p : K × X) (i : ℕ) (S : List (List (K × X))) → HasMoved number L C R
      → slot_number number p.0 C ≡ i → S ≡ set R i (get_or R i [] ++ p ∷ []) → HasMoved number (L ++ p ∷ []) C S
  Moved-next C L R p i S moved own is =
      let row = get_or R i [] ++ p ∷ [] in
      let len = moved.len in
      record {
        capacity = moved.capacity;
        len = ap length is ∙ length-set R i row ∙ len;
        rows = λ j below.
            ap (λ T. get_or T j []) is
            ∙ ⊎_elim (λ e.
            let yes : (slot_number number p.0 C == j) ≡ true = grind (arith, own, e) in
            ap (λ k. get_or (set R i row) k []) e ∙ get_or-set_same R i row [] (omega (arith, below, e, len)) ∙ ap (λ k. get_or R k [] ++ p ∷ []) (sym e) ∙ ap (λ ps. ps ++ p ∷ []) (moved.rows j below)
            ∙ ap (λ b. slot_of number L C j ++ cond b (p ∷ []) []) (sym yes))
            (λ apart.
            let no : (slot_number number p.0 C == j) ≡ false = grind (arith, own, apart) in
            get_or-set_other R i j row [] apart ∙ moved.rows j below ∙ sym (append-nil (slot_of number L C j)) ∙ ap (λ b. slot_of number L C j ++ cond b (p ∷ []) []) (sym no))
            (same_or_not j i)
            ∙ sym (filter-append (λ q. slot_number number q.0 C == j) L (p ∷ []));
      }

  -- slots with empty ones behind them, before the first pair moves
  pub record IsEnlarged (O : List (Node (K × X))) (C D : ℕ) (S : List (Node (K × X))) : Type 0 where
    pub grown : IsGrown C (D - 1 + 1)
    pub old : take C S ≡ O
    pub len : length S ≡ D - 1 + 1
    pub none : AreFree (blank 0 C S)
    pub all : D - 1 + 1 ≡ D

  pub Enlarged : (O : List (Node (K × X))) (a : Pool (K × X)) (marks : List Bool) (mask D : ℕ) (S : List (Node (K × X))) → AreRows number O a marks mask → IsGrown (length (rows_in O a.nodes)) D
      → S ≡ O ++ replicate (D - length O) empty → IsEnlarged O (mask + 1) D S
  Enlarged O a marks mask D S are grown is =
      let long = length-map O (row_in a.nodes) in
      let count = are.count in
      let more = grown-more (length (rows_in O a.nodes)) D grown in
      let some = capacity-positive D grown.new in
      let left = length-replicate {A = Node (K × X)} (D - length O) empty in
      let sum = ap length is ∙ length-append O (replicate (D - length O) empty) in
      let all : length O + (D - length O) ≡ D = omega (arith, more, long) in
      let C_is : length (rows_in O a.nodes) ≡ mask + 1 = omega (arith, long, count) in
      let D_is : D ≡ D - 1 + 1 = omega (arith, some) in
      record {
        grown = subst (λ C. IsGrown C (D - 1 + 1)) C_is (subst (λ E. IsGrown (length (rows_in O a.nodes)) E) D_is grown);
        old = ap (λ n. take n S) count ∙ ap (take (length O)) is ∙ take-append_seam O (replicate (D - length O) empty);
        len = omega (arith, sum, left, all, some);
        none = subst AreFree (sym (ap (λ n. blank 0 n S) count ∙ ap (blank 0 (length O)) is)) (blank-start O (D - length O));
        all = sym D_is;
      }
