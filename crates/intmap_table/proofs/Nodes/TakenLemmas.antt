-- A pair that is sought is taken out of a row, and the last pair takes its place.
use Rattle.std.proofs.Common.{◌≡◌, ℕ, suc, ◌+◌, ◌<◌, Bool, true, false, cond, List, [], ◌∷◌, ◌++◌, length, get_or, set, Some, None, sym, ap, ◌∙◌, subst, refl, arith, append-nil}
use Rattle.std.specs.Prelude.{position, swap_remove}
use Rattle.std.proofs.lemmas.List.{length-append, get_or_append_left, nil_from_length}
use Rattle.std.specs.List.{list_any}
use Rattle.intmap_table.specs.Bindings.{last_passing, without_last, swap_out, first_value}
use Rattle.intmap_table.specs.Tables.Nodes.{Node, Held, empty, Pool, node_at, chain_of, row_in, IsNodeAt, IsChanged, IsChainSet, IsCut, IsSlot, IsSlotSet, IsSwapRemoved, Misses, AreHome}
use Rattle.intmap_table.proofs.Nodes.SlotLemmas.{slot_is, Slot-first, misses_left, last_is, swap_last, swap_other}
use Rattle.intmap_table.proofs.Nodes.ChainLemmas.{Set-then, Set-swap, NodeAt-value}
use Rattle.intmap_table.proofs.Nodes.PathLemmas.{NodeAt-some}
use Rattle.intmap_table.proofs.Nodes.RetainedLemmas.{Slot-same}
use Rattle.intmap_table.proofs.PositionLemmas.{swap_remove-position, swap_out-none, first_value-position}
use Rattle.intmap_table.proofs.Tables.SwapOutLemmas.{any}

module _ {X : Type 0} (test : X → Bool) where
  -- the one sought is behind the first pair
  pub swap_out-behind : (x : X) (xs : List X) → test x ≡ false → swap_out test any (x ∷ xs) ≡ x ∷ swap_out test any xs
  swap_out-behind x xs fails = rw fails refl

-- a value behind the first pair, whose key isn't the one
pub first_value-behind : {K V : Type 0} (test : K → Bool) (p : K × V) (L : List (K × V)) → test p.0 ≡ false → first_value test (p ∷ L) ≡ first_value test L
first_value-behind test p L fails = rw fails refl

module _ {P : Type 0} (a : Pool P) (s : Node P) (l j : ℕ) (p x : P) (is : s ≡ Held l p) (b : Pool P) (m : ℕ) (cut : IsCut a l j x b m) (end : length (chain_of a.nodes l) ≡ j + 1) where
  -- the last pair of a slot was cut, and the others are left
  none : cut.behind ≡ []
  none =
      let all = ap length cut.pairs ∙ length-append cut.before (x ∷ cut.behind) in
      let len = cut.len in
      nil_from_length cut.behind (omega (arith, all, len, end))

  row : row_in a.nodes s ≡ (p ∷ cut.before) ++ x ∷ []
  row = ap (row_in a.nodes) is ∙ ap (λ ps. p ∷ ps) (cut.pairs ∙ ap (λ ps. cut.before ++ x ∷ ps) none)

  left : IsChainSet a l cut.before b m
  left = subst (λ ps. IsChainSet a l ps b m) (ap (λ ps. cut.before ++ ps) none ∙ append-nil cut.before) cut.chain

  -- a slot with these is one whose row is left
  swapped : (i : ℕ) (r q : P) (ps : List P) (d : Pool P) (t : Node P) → swap_remove ((p ∷ cut.before) ++ x ∷ []) i r ≡ q ∷ ps → IsChainSet a l ps d m → t ≡ Held m q → IsSlotSet a s (swap_remove (row_in a.nodes s) i r) d t
  swapped i r q ps d t list set now =
      slot_is a (Held l p) (Held m q) (q ∷ ps) (swap_remove (row_in a.nodes s) i r) d s t (Slot-first a l p q ps d m set) is (ap (λ qs. swap_remove qs i r) row ∙ list) now

  -- it was the one to be removed
  pub Swap-last : (t : Node P) → t ≡ Held m p → IsSwapRemoved a s (j + 1) x b t
  Swap-last t now =
      let len = cut.len in
      let here : j + 1 ≡ length (p ∷ cut.before) = omega (arith, len) in
      (sym (ap (λ ps. get_or ps (j + 1) x) row ∙ last_is (p ∷ cut.before) x x (j + 1) here), swapped (j + 1) x p cut.before b t (swap_last (p ∷ cut.before) x x (j + 1) here) left now)

  -- or it takes the place of the first pair
  pub Swap-first : (t : Node P) → t ≡ Held m x → IsSwapRemoved a s 0 p b t
  Swap-first t now = (sym (ap (λ ps. get_or ps 0 p) row), swapped 0 p x cut.before b t (swap_other (p ∷ cut.before) x p 0 (omega arith)) left now)

  -- or of one between
  pub Swap-behind : (i c n : ℕ) (r : P) (d : Pool P) (t : Node P) → i < j → IsNodeAt a.nodes l i c → node_at b.nodes c ≡ Held n r → IsChanged b c n x d → t ≡ Held m p → IsSwapRemoved a s (i + 1) r d t
  Swap-behind i c n r d t less at held changed now =
      let len = cut.len in
      let stays = cut.stays i c less at in
      let next : i + 1 ≡ suc i = omega arith in
      let within : i + 1 < length (p ∷ cut.before) = omega (arith, len, less) in
      let filled = Set-then a l cut.before b m (set cut.before i x) d m left (subst (λ ps. IsChainSet b m (set ps i x) d m) left.pairs (Set-swap b m i c n r x d stays held changed))
      (λ t misses. misses_left t cut.before (x ∷ cut.behind) (subst (Misses t) cut.pairs misses)) in
      let value : get_or (row_in a.nodes s) (i + 1) r ≡ get_or cut.before i r =
      ap (λ ps. get_or ps (i + 1) r) row ∙ get_or_append_left (p ∷ cut.before) (x ∷ []) r (i + 1) within ∙ ap (λ k. get_or (p ∷ cut.before) k r) next in (
        NodeAt-value b.nodes m i c n r stays held ∙ ap (λ ps. get_or ps i r) left.pairs ∙ sym value,
        swapped (i + 1) r p (set cut.before i x) d t (swap_other (p ∷ cut.before) x r (i + 1) within ∙ ap (λ k. set (p ∷ cut.before) k x) next) filled now,
      )

  -- a node before the last one holds a pair still
  pub Swap-held : (i c : ℕ) → i < j → IsNodeAt a.nodes l i c → (n : ℕ) × (r : P) × (node_at b.nodes c ≡ Held n r)
  Swap-held i c less at = let len = ap length left.pairs in let e = cut.len in NodeAt-some b.nodes m i c (cut.stays i c less at) (omega (arith, len, e, less))

module _ {P : Type 0} (test : P → Bool) (a : Pool P) (s : Node P) where
  -- the pair at the place that was found is taken out
  pub Taken-at : (i : ℕ) (r : P) (b : Pool P) (t : Node P) → position test (row_in a.nodes s) ≡ Some i → IsSwapRemoved a s i r b t → IsSlotSet a s (swap_out test any (row_in a.nodes s)) b t
  Taken-at i r b t found out = subst (λ ps. IsSlotSet a s ps b t) (swap_remove-position test (row_in a.nodes s) i r found out.0) out.1

  -- none was found
  pub Taken-none : IsSlot a.nodes s → position test (row_in a.nodes s) ≡ None → IsSlotSet a s (swap_out test any (row_in a.nodes s)) a s
  Taken-none chain none = subst (λ ps. IsSlotSet a s ps a s) (sym (swap_out-none test any (row_in a.nodes s) none)) (Slot-same a s chain)

  -- the only pair is taken out
  pub Taken-only : (l : ℕ) (p : P) → s ≡ Held l p → chain_of a.nodes l ≡ [] → test p ≡ true → IsSlotSet a s (swap_out test any (row_in a.nodes s)) a empty
  Taken-only l p is alone passes =
      let row : row_in a.nodes s ≡ p ∷ [] = ap (row_in a.nodes) is ∙ ap (λ ps. p ∷ ps) alone in
      let left : swap_out test any (row_in a.nodes s) ≡ [] = ap (swap_out test any) row ∙ rw passes refl in
      let one = ap length row in
      let gone = ap length left in
      record { is = tt; pairs = sym left; spares = λ t misses k n q passes at. at; held = omega (arith, one, gone) }

-- and its value is that of the key sought
pub Taken-value : {K V : Type 0} (test : K → Bool) (a : Pool (K × V)) (s : Node (K × V)) (i : ℕ) (r : K × V) (b : Pool (K × V)) (t : Node (K × V)) → position (λ q. test q.0) (row_in a.nodes s) ≡ Some i → IsSwapRemoved a s i r b t
    → Some r.1 ≡ first_value test (row_in a.nodes s)
Taken-value test a s i r b t found out = sym (first_value-position test (row_in a.nodes s) i r found ∙ ap (λ q. Some q.1) (sym out.0))

module _ {P : Type 0} (home : P → ℕ) (i : ℕ) where
  home_last : (d : P) (ps : List P) → home d ≡ i → AreHome home i ps → home (last_passing any d ps) ≡ i
  home_last d [] e own = e
  home_last d (p ∷ ps) e own = home_last p ps own.0 own.1

  home_without_last : (ps : List P) → AreHome home i ps → AreHome home i (without_last any ps)
  home_without_last [] own = tt
  home_without_last (p ∷ []) own = tt
  home_without_last (p ∷ q ∷ ps) own = (own.0, home_without_last (q ∷ ps) own.1)

  home_hole : (p : P) (ps : List P) → AreHome home i (p ∷ ps) → AreHome home i (cond (list_any any ps) (last_passing any p ps ∷ without_last any ps) ps)
  home_hole p [] own = tt
  home_hole p (q ∷ ps) own = (home_last p (q ∷ ps) own.0 own.1, home_without_last (q ∷ ps) own.1)

  home_pick : (b : Bool) (p : P) (ps qs : List P) → AreHome home i (p ∷ ps) → AreHome home i qs → AreHome home i (cond b (cond (list_any any ps) (last_passing any p ps ∷ without_last any ps) ps) (p ∷ qs))
  home_pick true p ps qs own rest = home_hole p ps own
  home_pick false p ps qs own rest = (own.0, rest)

  -- the pairs that are left are at home where all were
  pub home-swap_out : (test : P → Bool) (ps : List P) → AreHome home i ps → AreHome home i (swap_out test any ps)
  home-swap_out test [] own = tt
  home-swap_out test (p ∷ ps) own = home_pick (test p) p ps (swap_out test any ps) own (home-swap_out test ps own.1)
