-- Slots that share one pool of nodes.
use Rattle.std.proofs.Common.{⊎_elim, take, ◌≡◌, ◌≢◌, ℕ, zero, suc, ◌+◌, ◌-◌, ◌<◌, ◌==◌, Bool, true, false, cond, List, [], ◌∷◌, ◌++◌, length, get_or, set, refl, sym, ap, ◌∙◌, subst, arith}
use Rattle.std.specs.Prelude.{swap_remove, drop, nat_lt, replicate, ◌*◌, ◌/◌}
use Rattle.std.proofs.lemmas.Bool.{lt-ltb}
use Rattle.std.proofs.lemmas.List.{length-replicate, get_or_default, ext_get_or, get_or-map, length-map, length-set, get_or-set_same, get_or-set_other}
use Rattle.std.proofs.lemmas.List.Sums.{sum_by-set, sum_by-cons}
use Rattle.intmap_table.specs.Classes.{slot_number, IsCapacity}
use Rattle.intmap_table.specs.Tables.Nodes.{nowhere, Node, Free, Held, empty, freed, is_empty, Pool, node_at, Path, Leads, chain_of, Misses, Spares, row_in, IsSlot, IsSlotSet, AreHome, rows_in, further, AreLinked}
use Rattle.intmap_table.specs.Tables.Rows.{AreRows}
use Rattle.intmap_table.specs.Tables.Slots.{AreMarked}
use Rattle.intmap_table.proofs.Nodes.NodeLemmas.{same_or_not}
use Rattle.intmap_table.proofs.Nodes.PathLemmas.{chain_is, IsChain-leads}
use Rattle.intmap_table.proofs.Tables.FilledLemmas.{row-within, filled-pushed, AreMarked-set, AreMarked-kept, AreMarked-none}

module _ {P : Type 0} where
  -- with another row of slot i
  pub further-set : (R : List (List P)) (i : ℕ) (row : List P) → i < length R → further (set R i row) + (length (get_or R i []) - 1) ≡ further R + (length row - 1)
  further-set R i row below = sum_by-set (λ (ps : List P). length ps - 1) R i row [] below

further-none : (P : Type 0) (n : ℕ) → further {P = P} (replicate n []) ≡ 0
further-none P zero = refl
further-none P (suc n) = let e = sum_by-cons (λ (ps : List P). length ps - 1) [] (replicate n []) in let rest = further-none P n in omega (arith, e, rest)

-- no slot holds a pair
abbrev pub AreFree : {P : Type 0} → List (Node P) → Type 0
AreFree slots = (i : ℕ) → freed (get_or slots i empty) ≡ get_or slots i empty

module _ {P : Type 0} (home : P → ℕ) where
  -- the pairs of slot i aren't those of slot j
  home_misses : (i j : ℕ) (ps : List P) → i ≢ j → AreHome home i ps → Misses (λ p. home p == j) ps
  home_misses i j [] apart own = tt
  home_misses i j (p ∷ ps) apart own =
      let e : home p ≡ i = own.0 in
      let no : (home p == j) ≡ false = grind (arith, e, apart) in
      (no, home_misses i j ps apart own.1)

  path_stays : (j : ℕ) (cs ds : List (Node P)) (l : ℕ) (ps : List P) (m : ℕ)
      → ((k n : ℕ) (p : P) → (home p == j) ≡ true → node_at cs k ≡ Held n p → node_at ds k ≡ Held n p) → AreHome home j ps → Path cs l ps m → Path ds l ps m
  path_stays j cs ds l [] m same own path = path
  path_stays j cs ds l (p ∷ ps) m same own path =
      let e : home p ≡ j = own.0 in
      let yes : (home p == j) ≡ true = grind (arith, e) in
      (path.0, same l path.0 p yes path.1, path_stays j cs ds path.0 ps m same own.1 path.2)

  -- another slot is as it was
  pub record Stays (j : ℕ) (cs ds : List (Node P)) (s : Node P) : Type 0 where
    pub chain : IsSlot ds s
    pub row : row_in ds s ≡ row_in cs s

  pub slot_stays : (i j : ℕ) (cs ds : List (Node P)) (row : List P) (s : Node P) → i ≢ j → AreHome home i row → Spares cs ds row → IsSlot cs s → AreHome home j (row_in cs s) → Stays j cs ds s
  slot_stays i j cs ds row (Free n) apart own spares is home_s = record { chain = tt; row = refl }
  slot_stays i j cs ds row (Held l p) apart own spares is home_s =
      let leads : Leads ds l (chain_of cs l) = path_stays j cs ds l (chain_of cs l) nowhere (spares (λ q. home q == j) (home_misses i j row apart own)) home_s.1 is in
      record { chain = IsChain-leads ds l (chain_of cs l) leads; row = ap (λ ps. p ∷ ps) (chain_is ds l (chain_of cs l) leads) }

  -- slot i has another row, and the others have theirs
  pub record AreSet (slots : List (Node P)) (a : Pool P) (i : ℕ) (row : List P) (slots' : List (Node P)) (b : Pool P) : Type 0 where
    pub linked : AreLinked home slots' b
    pub rows : rows_in slots' b.nodes ≡ set (rows_in slots a.nodes) i row

  record IsAt (slots : List (Node P)) (cs : List (Node P)) (i : ℕ) (row : List P) (slots' : List (Node P)) (ds : List (Node P)) (j : ℕ) : Type 0 where
    chain : IsSlot ds (get_or slots' j empty)
    own : AreHome home j (row_in ds (get_or slots' j empty))
    read : row_in ds (get_or slots' j empty) ≡ get_or (set (rows_in slots cs) i row) j []

  at_place : (slots : List (Node P)) (a : Pool P) (i : ℕ) (row : List P) (b : Pool P) (t : Node P) (j : ℕ) → i < length slots → IsSlotSet a (get_or slots i empty) row b t → AreHome home i row
      → j ≡ i → IsAt slots a.nodes i row (set slots i t) b.nodes j
  at_place slots a i row b t j within h own here =
      let there : get_or (set slots i t) j empty ≡ t = ap (λ k. get_or (set slots i t) k empty) here ∙ get_or-set_same slots i t empty within in
      let len = length-map slots (row_in a.nodes) in
      let read_is : get_or (set (rows_in slots a.nodes) i row) j [] ≡ row = ap (λ k. get_or (set (rows_in slots a.nodes) i row) k []) here ∙ get_or-set_same (rows_in slots a.nodes) i row [] (omega (arith, len, within)) in
      record {
        chain = subst (λ s. IsSlot b.nodes s) (sym there) h.is;
        own = subst (λ s. AreHome home j (row_in b.nodes s)) (sym there) (subst (λ ps. AreHome home j ps) (sym h.pairs) (subst (λ k. AreHome home k row) (sym here) own));
        read = ap (row_in b.nodes) there ∙ h.pairs ∙ sym read_is;
      }

  at_other : (slots : List (Node P)) (a : Pool P) (i : ℕ) (row : List P) (b : Pool P) (t : Node P) (j : ℕ) → j < length slots → AreLinked home slots a → Stays j a.nodes b.nodes (get_or slots j empty)
      → j ≢ i → IsAt slots a.nodes i row (set slots i t) b.nodes j
  at_other slots a i row b t j below linked stays apart =
      let there : get_or (set slots i t) j empty ≡ get_or slots j empty = get_or-set_other slots i j t empty apart in
      let read_is : get_or (set (rows_in slots a.nodes) i row) j [] ≡ row_in a.nodes (get_or slots j empty) = get_or-set_other (rows_in slots a.nodes) i j row [] apart ∙ get_or-map (row_in a.nodes) slots j empty [] below in
      record {
        chain = subst (λ s. IsSlot b.nodes s) (sym there) stays.chain;
        own = subst (λ s. AreHome home j (row_in b.nodes s)) (sym there) (subst (λ ps. AreHome home j ps) (sym stays.row) (linked.own j below));
        read = ap (row_in b.nodes) there ∙ stays.row ∙ sym read_is;
      }

  pub Linked-set : (slots : List (Node P)) (a : Pool P) (i : ℕ) (row : List P) (b : Pool P) (t : Node P) → i < length slots → AreLinked home slots a
      → IsSlotSet a (get_or slots i empty) row b t → AreHome home i row → AreSet slots a i row (set slots i t) b
  Linked-set slots a i row b t within linked h own =
      let len = length-set slots i t in
      let others : (j : ℕ) → j ≢ i → j < length slots → Stays j a.nodes b.nodes (get_or slots j empty) = λ j apart below.
      slot_stays i j a.nodes b.nodes (row_in a.nodes (get_or slots i empty)) (get_or slots j empty) (λ e. apart (sym e)) (linked.own i within) h.spares (linked.chains j below) (linked.own j below) in
      let at : (j : ℕ) → j < length slots → IsAt slots a.nodes i row (set slots i t) b.nodes j = λ j below.
      ⊎_elim (at_place slots a i row b t j within h own) (λ apart. at_other slots a i row b t j below linked (others j apart below) apart) (same_or_not j i) in
      let rows : rows_in (set slots i t) b.nodes ≡ set (rows_in slots a.nodes) i row =
      ext_get_or [] (rows_in (set slots i t) b.nodes) (set (rows_in slots a.nodes) i row)
      (let x = length-map (set slots i t) (row_in b.nodes) in let y = length-set (rows_in slots a.nodes) i row in let z = length-map slots (row_in a.nodes) in omega (arith, x, y, z, len))
      (λ j below. let x = length-map (set slots i t) (row_in b.nodes) in
      let less : j < length (set slots i t) = omega (arith, x, below) in
      get_or-map (row_in b.nodes) (set slots i t) j empty [] less ∙ (at j (omega (arith, len, less))).read) in
      let all = length-map slots (row_in a.nodes) in
      let more = further-set (rows_in slots a.nodes) i row (omega (arith, all, within)) in
      let was = ap length (get_or-map (row_in a.nodes) slots i empty [] within) in
      let now = ap further rows in
      let held = h.held in let before = linked.held in
      record {
        linked = record {
          chains = λ j below. (at j (omega (arith, len, below))).chain;
          own = λ j below. (at j (omega (arith, len, below))).own;
          held = omega (arith, more, was, now, held, before);
        };
        rows = rows;
      }

  home_at : (i : ℕ) (ps : List P) (k : ℕ) (d : P) → AreHome home i ps → k < length ps → home (get_or ps k d) ≡ i
  home_at i [] k d own less = absurd (omega arith)
  home_at i (p ∷ ps) zero d own less = own.0
  home_at i (p ∷ ps) (suc k) d own less = home_at i ps k d own.1 (omega arith)

  home_set : (i : ℕ) (ps : List P) (k : ℕ) (x : P) → AreHome home i ps → home x ≡ i → AreHome home i (set ps k x)
  home_set i [] k x own e = tt
  home_set i (p ∷ ps) zero x own e = (e, own.1)
  home_set i (p ∷ ps) (suc k) x own e = (own.0, home_set i ps k x own.1 e)

  pub home_take : (i : ℕ) (n : ℕ) (ps : List P) → AreHome home i ps → AreHome home i (take n ps)
  home_take i zero ps own = tt
  home_take i (suc n) [] own = tt
  home_take i (suc n) (p ∷ ps) own = (own.0, home_take i n ps own.1)

  pub home_drop : (i : ℕ) (n : ℕ) (ps : List P) → AreHome home i ps → AreHome home i (drop n ps)
  home_drop i zero ps own = own
  home_drop i (suc n) [] own = tt
  home_drop i (suc n) (p ∷ ps) own = home_drop i n ps own.1

  pub home-join : (i : ℕ) (ps qs : List P) → AreHome home i ps → AreHome home i qs → AreHome home i (ps ++ qs)
  home-join i [] qs own own' = own'
  home-join i (p ∷ ps) qs own own' = (own.0, home-join i ps qs own.1 own')

  pub home-swap_remove : (i : ℕ) (ps : List P) (k : ℕ) (d : P) → AreHome home i ps → k < length ps → AreHome home i (swap_remove ps k d)
  home-swap_remove i ps k d own less =
      home_take i (length ps - 1) (set ps k (get_or ps (length ps - 1) d)) (home_set i ps k (get_or ps (length ps - 1) d) own (home_at i ps (length ps - 1) d own (omega arith)))

  pub home-append : (i : ℕ) (ps : List P) (p : P) → AreHome home i ps → home p ≡ i → AreHome home i (ps ++ p ∷ [])
  home-append i ps p own e = home-join i ps (p ∷ []) own (e, tt)

  pub home-remove : (i : ℕ) (ps : List P) (k : ℕ) → AreHome home i ps → AreHome home i (take k ps ++ drop (k + 1) ps)
  home-remove i ps k own = home-join i (take k ps) (drop (k + 1) ps) (home_take i k ps own) (home_drop i (k + 1) ps own)

module _ {K X : Type 0} (number : K → ℕ) where
  -- slots with these rows
  pub record HaveRows (slots : List (Node (K × X))) (pool : Pool (K × X)) (marks : List Bool) (mask : ℕ) (R : List (List (K × X))) : Type 0 where
    pub are : AreRows number slots pool marks mask
    pub rows : rows_in slots pool.nodes ≡ R

  -- the row of one slot
  pub record IsRow (slots : List (Node (K × X))) (pool : Pool (K × X)) (R : List (List (K × X))) (i : ℕ) (s : Node (K × X)) : Type 0 where
    pub within : i < length slots
    pub slot : s ≡ get_or slots i empty
    pub chain : IsSlot pool.nodes s
    pub is : row_in pool.nodes s ≡ get_or R i []
    pub own : AreHome (λ p. slot_number number p.0 (length slots)) i (row_in pool.nodes s)

  pub Row-in : (slots : List (Node (K × X))) (pool : Pool (K × X)) (i : ℕ) (s : Node (K × X))
      → AreLinked (λ p. slot_number number p.0 (length slots)) slots pool → i < length (rows_in slots pool.nodes) → s ≡ get_or slots i s → IsRow slots pool (rows_in slots pool.nodes) i s
  Row-in slots pool i s linked within read =
      let len = length-map slots (row_in pool.nodes) in
      let less : i < length slots = omega (arith, len, within) in
      let slot : s ≡ get_or slots i empty = read ∙ get_or_default slots i s empty less in
      record {
        within = less;
        slot = slot;
        chain = subst (λ t. IsSlot pool.nodes t) (sym slot) (linked.chains i less);
        is = ap (row_in pool.nodes) slot ∙ sym (get_or-map (row_in pool.nodes) slots i empty [] less);
        own = subst (λ t. AreHome (λ p. slot_number number p.0 (length slots)) i (row_in pool.nodes t)) (sym slot) (linked.own i less);
      }

  pub Row-of : (slots : List (Node (K × X))) (pool : Pool (K × X)) (marks : List Bool) (mask : ℕ) (i : ℕ) (s : Node (K × X))
      → AreRows number slots pool marks mask → i < length (rows_in slots pool.nodes) → s ≡ get_or slots i s → IsRow slots pool (rows_in slots pool.nodes) i s
  Row-of slots pool marks mask i s are = Row-in slots pool i s are.linked

  -- with another row of slot i, and with marks that say so
  pub Row-set : (slots : List (Node (K × X))) (a : Pool (K × X)) (marks : List Bool) (mask : ℕ) (i : ℕ) (s : Node (K × X)) (f : List (K × X) → List (K × X)) (b : Pool (K × X)) (t : Node (K × X)) (marks' : List Bool)
      → AreRows number slots a marks mask → IsRow slots a (rows_in slots a.nodes) i s → IsSlotSet a s (f (row_in a.nodes s)) b t
      → AreHome (λ p. slot_number number p.0 (length slots)) i (f (row_in a.nodes s)) → AreMarked (set (rows_in slots a.nodes) i (f (get_or (rows_in slots a.nodes) i []))) marks'
      → HaveRows (set slots i t) b marks' mask (set (rows_in slots a.nodes) i (f (get_or (rows_in slots a.nodes) i [])))
  Row-set slots a marks mask i s f b t marks' are row h own marked =
      let home : K × X → ℕ = λ p. slot_number number p.0 (length slots) in
      let done = Linked-set home slots a i (f (row_in a.nodes s)) b t row.within are.linked (subst (λ u. IsSlotSet a u (f (row_in a.nodes s)) b t) row.slot h) own in
      let len = length-set slots i t in
      let same : rows_in (set slots i t) b.nodes ≡ set (rows_in slots a.nodes) i (f (get_or (rows_in slots a.nodes) i [])) = done.rows ∙ ap (λ ps. set (rows_in slots a.nodes) i (f ps)) row.is in
      record {
        are = record {
          linked = subst (λ C. AreLinked (λ p. slot_number number p.0 C) (set slots i t) b) (sym len) done.linked;
          capacity = rw len are.capacity;
          marked = subst (λ R. AreMarked R marks') (sym same) marked;
          count = are.count ∙ sym len;
        };
        rows = same;
      }

  -- a slot leads through its pairs
  pub Row-chain : (slots : List (Node (K × X))) (pool : Pool (K × X)) (marks : List Bool) (mask : ℕ) (i : ℕ) (s : Node (K × X))
      → AreRows number slots pool marks mask → i < length slots → s ≡ get_or slots i s → IsSlot pool.nodes s
  Row-chain slots pool marks mask i s are below read = subst (λ t. IsSlot pool.nodes t) (sym (read ∙ get_or_default slots i s empty below)) (are.linked.chains i below)

  -- a slot with a pair is there
  pub Row-within : (slots : List (Node (K × X))) (pool : Pool (K × X)) (i : ℕ) → 0 < length (get_or (rows_in slots pool.nodes) i []) → i < length slots
  Row-within slots pool i some = let w = row-within (rows_in slots pool.nodes) i some in let len = length-map slots (row_in pool.nodes) in omega (arith, w, len)

  -- a pair came behind those of a slot, and the slot is marked
  pub Row-pushed : (slots : List (Node (K × X))) (a : Pool (K × X)) (marks : List Bool) (mask : ℕ) (i : ℕ) (s : Node (K × X)) (p : K × X) (b : Pool (K × X)) (t : Node (K × X))
      → AreRows number slots a marks mask → i < length (rows_in slots a.nodes) → s ≡ get_or slots i s → slot_number number p.0 (length (rows_in slots a.nodes)) ≡ i → IsSlotSet a s (row_in a.nodes s ++ p ∷ []) b t
      → HaveRows (set slots i t) b (set marks i true) mask (set (rows_in slots a.nodes) i (get_or (rows_in slots a.nodes) i [] ++ p ∷ []))
  Row-pushed slots a marks mask i s p b t are within read own h =
      let row = Row-of slots a marks mask i s are within read in
      let len : length slots ≡ length (rows_in slots a.nodes) = sym (length-map slots (row_in a.nodes)) in
      let home : slot_number number p.0 (length slots) ≡ i = ap (slot_number number p.0) len ∙ own in
      Row-set slots a marks mask i s (λ ps. ps ++ p ∷ []) b t (set marks i true) are row h (home-append (λ q. slot_number number q.0 (length slots)) i (row_in a.nodes s) p row.own home)
      (AreMarked-set (rows_in slots a.nodes) marks are.marked i within (get_or (rows_in slots a.nodes) i [] ++ p ∷ []) true (sym (filled-pushed (get_or (rows_in slots a.nodes) i []) p)))

  marked_now : (R : List (List (K × X))) (marks : List Bool) (i : ℕ) (row : List (K × X)) (nodes : List (Node (K × X))) (t : Node (K × X)) → AreMarked R marks → i < length R → (0 < length row → 0 < length (get_or R i []))
      → row_in nodes t ≡ row → AreMarked (set R i row) (cond (is_empty t) (set marks i false) marks)
  marked_now R marks i row nodes (Free n) are below some is = AreMarked-set R marks are i below row false (ap (λ ps. nat_lt 0 (length ps)) is)
  marked_now R marks i row nodes (Held l p) are below some is =
      let filled : 0 < length (p ∷ chain_of nodes l) = omega arith in
      let left = ap length is in
      AreMarked-kept R marks are i below row (are.own i ∙ lt-ltb 0 (length (get_or R i [])) (some (omega (arith, left))) ∙ sym (lt-ltb 0 (length (p ∷ chain_of nodes l)) filled) ∙ ap (λ ps. nat_lt 0 (length ps)) is)

  -- a slot has another row, which holds no pair if it held none, and if it has none any more it isn't marked
  pub Row-shrunk : (slots : List (Node (K × X))) (a : Pool (K × X)) (marks : List Bool) (mask : ℕ) (i : ℕ) (s : Node (K × X)) (f : List (K × X) → List (K × X)) (b : Pool (K × X)) (t : Node (K × X))
      → AreRows number slots a marks mask → IsRow slots a (rows_in slots a.nodes) i s → IsSlotSet a s (f (row_in a.nodes s)) b t
      → AreHome (λ p. slot_number number p.0 (length slots)) i (f (row_in a.nodes s)) → (0 < length (f (get_or (rows_in slots a.nodes) i [])) → 0 < length (get_or (rows_in slots a.nodes) i []))
      → HaveRows (set slots i t) b (cond (is_empty t) (set marks i false) marks) mask (set (rows_in slots a.nodes) i (f (get_or (rows_in slots a.nodes) i [])))
  Row-shrunk slots a marks mask i s f b t are row h own some =
      let len = length-map slots (row_in a.nodes) in
      Row-set slots a marks mask i s f b t (cond (is_empty t) (set marks i false) marks) are row h own
      (marked_now (rows_in slots a.nodes) marks i (f (get_or (rows_in slots a.nodes) i [])) b.nodes t are.marked (omega (arith, row.within, len)) some (h.pairs ∙ ap f row.is))

  -- one that held a pair may have any row
  pub Row-changed : (slots : List (Node (K × X))) (a : Pool (K × X)) (marks : List Bool) (mask : ℕ) (i : ℕ) (s : Node (K × X)) (f : List (K × X) → List (K × X)) (b : Pool (K × X)) (t : Node (K × X))
      → AreRows number slots a marks mask → IsRow slots a (rows_in slots a.nodes) i s → IsSlotSet a s (f (row_in a.nodes s)) b t
      → AreHome (λ p. slot_number number p.0 (length slots)) i (f (row_in a.nodes s)) → 0 < length (get_or (rows_in slots a.nodes) i [])
      → HaveRows (set slots i t) b (cond (is_empty t) (set marks i false) marks) mask (set (rows_in slots a.nodes) i (f (get_or (rows_in slots a.nodes) i [])))
  Row-changed slots a marks mask i s f b t are row h own some = Row-shrunk slots a marks mask i s f b t are row h own (λ _. some)

  free_row : (cs : List (Node (K × X))) (s : Node (K × X)) → freed s ≡ s → row_in cs s ≡ []
  free_row cs (Free n) free = refl
  free_row cs (Held n p) free = absurd cc

  free_slot : (cs : List (Node (K × X))) (s : Node (K × X)) → freed s ≡ s → IsSlot cs s
  free_slot cs (Free n) free = tt
  free_slot cs (Held n p) free = absurd cc

  all_free : (n : ℕ) → AreFree {P = K × X} (replicate n empty)
  all_free zero i = refl
  all_free (suc n) zero = refl
  all_free (suc n) (suc i) = all_free n i

  no_rows : (n i : ℕ) → get_or {A = List (K × X)} (replicate n []) i [] ≡ []
  no_rows zero i = refl
  no_rows (suc n) zero = refl
  no_rows (suc n) (suc i) = no_rows n i

  -- slots without a pair
  pub Rows-free : (slots : List (Node (K × X))) (pool : Pool (K × X)) (C mask : ℕ) → AreFree slots → length slots ≡ C → IsCapacity C → pool.held ≡ 0 → mask + 1 ≡ C
      → HaveRows slots pool (replicate (64 * ((C + 63) / 64)) false) mask (replicate C [])
  Rows-free slots pool C mask free len capacity held count =
      let cs = pool.nodes in
      let long = length-map slots (row_in cs) in
      let rows : rows_in slots cs ≡ replicate C [] =
      ext_get_or [] (rows_in slots cs) (replicate C []) (long ∙ len ∙ sym (length-replicate C []))
      (λ i below. get_or-map (row_in cs) slots i empty [] (omega (arith, long, below)) ∙ free_row cs (get_or slots i empty) (free i) ∙ sym (no_rows C i)) in
      let none = ap further rows ∙ further-none (K × X) C in
      record {
        are = record {
          linked = record {
            chains = λ i below. free_slot cs (get_or slots i empty) (free i);
            own = λ i below. subst (λ ps. AreHome (λ p. slot_number number p.0 (length slots)) i ps) (sym (free_row cs (get_or slots i empty) (free i))) tt;
            held = none ∙ sym held;
          };
          capacity = rw len capacity;
          marked = subst (λ R. AreMarked R (replicate (64 * ((C + 63) / 64)) false)) (sym rows) (AreMarked-none (replicate C []) C (length-replicate C []) (no_rows C));
          count = count ∙ sym len;
        };
        rows = rows;
      }

  pub Rows-none : (pool : Pool (K × X)) (C mask : ℕ) → IsCapacity C → pool.held ≡ 0 → mask + 1 ≡ C → HaveRows (replicate C empty) pool (replicate (64 * ((C + 63) / 64)) false) mask (replicate C [])
  Rows-none pool C mask capacity held count = Rows-free (replicate C empty) pool C mask (all_free C) (length-replicate C empty) capacity held count

  -- the row of a slot that was changed
  pub Row-here : (slots : List (Node (K × X))) (b : Pool (K × X)) (i : ℕ) (t : Node (K × X)) → i < length slots → get_or (rows_in (set slots i t) b.nodes) i [] ≡ row_in b.nodes t
  Row-here slots b i t below =
      let len = length-set slots i t in
      get_or-map (row_in b.nodes) (set slots i t) i empty [] (omega (arith, len, below)) ∙ ap (row_in b.nodes) (get_or-set_same slots i t empty below)

  -- a slot that held a pair has another row, with a pair
  pub Row-kept : (slots : List (Node (K × X))) (a : Pool (K × X)) (marks : List Bool) (mask : ℕ) (i : ℕ) (s : Node (K × X)) (f : List (K × X) → List (K × X)) (b : Pool (K × X)) (t : Node (K × X))
      → AreRows number slots a marks mask → IsRow slots a (rows_in slots a.nodes) i s → IsSlotSet a s (f (row_in a.nodes s)) b t
      → AreHome (λ p. slot_number number p.0 (length slots)) i (f (row_in a.nodes s)) → 0 < length (get_or (rows_in slots a.nodes) i []) → 0 < length (f (get_or (rows_in slots a.nodes) i []))
      → HaveRows (set slots i t) b marks mask (set (rows_in slots a.nodes) i (f (get_or (rows_in slots a.nodes) i [])))
  Row-kept slots a marks mask i s f b t are row h own some filled =
      let R = rows_in slots a.nodes in
      Row-set slots a marks mask i s f b t marks are row h own
      (AreMarked-kept R marks are.marked i (row-within R i some) (f (get_or R i []))
      (are.marked.own i ∙ lt-ltb 0 (length (get_or R i [])) some ∙ sym (lt-ltb 0 (length (f (get_or R i []))) filled)))
