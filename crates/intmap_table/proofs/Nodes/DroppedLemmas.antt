-- The pairs of slots that share a pool of nodes are dropped.
use Rattle.std.proofs.Common.{◌≡◌, ℕ, ◌<◌, Bool, false, List, [], ◌∷◌, length, get_or, set, replicate, refl, sym, ap, ◌∙◌, subst, arith}
use Rattle.std.specs.Prelude.{◌==◌, All}
use Rattle.std.specs.List.{list_any}
use Rattle.std.proofs.lemmas.Bool.{ltb-true}
use Rattle.std.proofs.lemmas.Bool.Decides.{nat_tests}
use Rattle.std.proofs.lemmas.List.{get_or_default, length-map, length-set, get_or-set_same, get_or-set_other}
use Rattle.std.proofs.lemmas.List.Elements.{All-head, All-tail}
use Rattle.intmap_table.specs.Classes.{slot_number}
use Rattle.intmap_table.specs.Tables.Bits.{marked_indices}
use Rattle.intmap_table.specs.Tables.Nodes.{Node, empty, Pool, row_in, rows_in, AreLinked, IsSlot, IsSlotSet, Misses}
use Rattle.intmap_table.specs.Tables.Rows.{AreRows}
use Rattle.intmap_table.specs.Tables.Slots.{AreMarked}
use Rattle.intmap_table.proofs.Tables.FilledLemmas.{row-within, row-unmarked, AreMarked-none}
use Rattle.intmap_table.proofs.Tables.MarkedLemmas.{All-marked_indices}
use Rattle.intmap_table.proofs.Nodes.LinkedLemmas.{AreSet, Linked-set}

module _ {P : Type 0} where
  -- of a slot's pairs those are left that it has now
  pub record IsDropped (a : Pool P) (s : Node P) (b : Pool P) (t : Node P) : Type 0 where
    pub changed : IsSlotSet a s (row_in b.nodes t) b t
    pub misses : (test : P → Bool) → Misses test (row_in a.nodes s) → Misses test (row_in b.nodes t)

  -- at first all are left
  pub Dropped-start : (a : Pool P) (s : Node P) → IsSlot a.nodes s → IsDropped a s a s
  Dropped-start a s is = record {
    changed = record { is = is; pairs = refl; spares = λ test misses k n p passes at. at; held = refl };
    misses = λ test misses. misses;
  }

  -- the first one that was left is dropped
  pub Dropped-next : (a : Pool P) (s : Node P) (b : Pool P) (t : Node P) (p : P) (row : List P) (c : Pool P) (u : Node P) → IsDropped a s b t → row_in b.nodes t ≡ p ∷ row → IsSlotSet b t row c u → IsDropped a s c u
  Dropped-next a s b t p row c u h is next =
      let one = h.changed.held in let two = next.held in
      let before = ap length is in let after = ap length next.pairs in
      record {
        changed = record {
          is = next.is;
          pairs = refl;
          spares = λ test misses k n q passes at. next.spares test (h.misses test misses) k n q passes (h.changed.spares test misses k n q passes at);
          held = omega (arith, one, two, before, after);
        };
        misses = λ test misses. subst (λ ps. Misses test ps) (sym next.pairs) (let rest : Misses test (p ∷ row) = subst (λ ps. Misses test ps) is (h.misses test misses) in rest.1);
      }

  -- the slots whose indices aren't left hold no pair
  pub record AreDropped (home : P → ℕ) (slots : List (Node P)) (a : Pool P) (left : List ℕ) : Type 0 where
    pub linked : AreLinked home slots a
    pub within : All (λ index. index < length slots) left
    pub empty : (i : ℕ) → list_any (λ j. j == i) left ≡ false → get_or (rows_in slots a.nodes) i [] ≡ []

  -- at first those of the slots that hold a pair are left
  pub AreDropped-start : (home : P → ℕ) (slots : List (Node P)) (a : Pool P) (marks : List Bool) → AreLinked home slots a → AreMarked (rows_in slots a.nodes) marks → AreDropped home slots a (marked_indices marks)
  AreDropped-start home slots a marks linked are = record {
    linked = linked;
    within = λ k d lt.
        let index = get_or (marked_indices marks) k d in
        let is = (All-marked_indices marks k d lt).1 in
        let below = row-within (rows_in slots a.nodes) index (ltb-true 0 (length (get_or (rows_in slots a.nodes) index [])) (sym (are.own index) ∙ is)) in
        let len = length-map slots (row_in a.nodes) in
        omega (arith, below, len);
    empty = row-unmarked (rows_in slots a.nodes) marks are;
  }

  -- the first index that is left is that of a slot
  pub AreDropped-below : (home : P → ℕ) (slots : List (Node P)) (a : Pool P) (index : ℕ) (rest : List ℕ) → AreDropped home slots a (index ∷ rest) → index < length slots
  AreDropped-below home slots a index rest h = All-head (λ i. i < length slots) index rest h.within

  module _ (home : P → ℕ) (slots : List (Node P)) (a : Pool P) (index : ℕ) (rest : List ℕ) (s : Node P) (h : AreDropped home slots a (index ∷ rest)) (read : s ≡ get_or slots index s) where
    -- the slot is there
    below : index < length slots
    below = AreDropped-below home slots a index rest h

    -- what was read is that slot
    slot_is : s ≡ get_or slots index empty
    slot_is = read ∙ get_or_default slots index s empty below

    -- its link leads through pairs
    pub AreDropped-chain : IsSlot a.nodes s
    AreDropped-chain = subst (λ t. IsSlot a.nodes t) (sym slot_is) (h.linked.chains index below)

    -- its pairs are dropped
    pub AreDropped-next : (b : Pool P) (t : Node P) → IsSlotSet a s [] b t → AreDropped home (set slots index t) b rest
    AreDropped-next b t changed =
        let done : AreSet home slots a index [] (set slots index t) b = Linked-set home slots a index [] b t below h.linked (subst (λ u. IsSlotSet a u [] b t) slot_is changed) tt in
        let R = rows_in slots a.nodes in
        let len = length-map slots (row_in a.nodes) in
        record {
          linked = done.linked;
          within = rw (length-set slots index t) (All-tail (λ i. i < length slots) index rest h.within);
          empty = λ i missed. ap (λ S. get_or S i []) done.rows
              ∙ (let own = get_or-set_same R index [] [] (omega (arith, len, below)) in let other = get_or-set_other R index i [] [] in let old = h.empty i in
              grind (arith, nat_tests, missed, own, other, old));
        }

module _ {K X : Type 0} (number : K → ℕ) where
  -- no slot holds a pair any more, and none is marked
  pub Rows-dropped : (slots : List (Node (K × X))) (a : Pool (K × X)) (marks : List Bool) (mask : ℕ) (slots' : List (Node (K × X))) (b : Pool (K × X)) → AreRows number slots a marks mask → length slots' ≡ length slots
      → AreLinked (λ p. slot_number number p.0 (length slots')) slots' b → ((i : ℕ) → get_or (rows_in slots' b.nodes) i [] ≡ []) → AreRows number slots' b (replicate (length marks) false) mask
  Rows-dropped slots a marks mask slots' b are len linked empty =
      let was = length-map slots (row_in a.nodes) in
      let now = length-map slots' (row_in b.nodes) in
      record {
        linked = linked;
        capacity = rw len are.capacity;
        marked = subst (λ n. AreMarked (rows_in slots' b.nodes) (replicate n false)) (sym are.marked.words)
            (AreMarked-none (rows_in slots' b.nodes) (length (rows_in slots a.nodes)) (omega (arith, was, now, len)) empty);
        count = are.count ∙ sym len;
      }
