-- Slots whose bits are in one word, while a closure is asked about each of their pairs in turn.
use Rattle.std.proofs.Common.{◌≡◌, ℕ, ◌+◌, ◌-◌, ◌<◌, Bool, true, false, List, [], length, get_or, set, refl, sym, ◌∙◌, subst, arith, bit_and, w64, length-set}
use Rattle.std.proofs.lemmas.Nat.Bits.{bit_at-trailing_zeros}
use Rattle.std.specs.Int.{trailing_zeros}
use Rattle.std.proofs.lemmas.Bool.{false≢true}
use Rattle.std.proofs.lemmas.List.{length-map}
use Rattle.intmap_table.specs.Classes.{slot_number}
use Rattle.intmap_table.specs.Retaining.{Retains}
use Rattle.intmap_table.specs.Taking.{TakesEach}
use Rattle.intmap_table.specs.Tables.Nodes.{Node, Free, Held, Pool, is_empty, row_in, rows_in, AreLinked, IsSlotSet}
use Rattle.intmap_table.specs.Tables.Slots.{IsNextRow}
use Rattle.intmap_table.specs.Tables.WordRows.{word_rows, IsFilledWord, IsWordChanged}
use Rattle.intmap_table.proofs.Nodes.HomeLemmas.{Home-retained}
use Rattle.intmap_table.proofs.Nodes.LinkedLemmas.{IsRow, Linked-set, Row-in}
use Rattle.intmap_table.proofs.Tables.BitsLemmas.{without_lowest_of}
use Rattle.intmap_table.proofs.Tables.FilledLemmas.{row-within}
use Rattle.intmap_table.proofs.Tables.WordRowsLemmas.{AreAsked, AreAsked-next, asks, get_or-word_rows, length-word_rows, next, word_rows-set, IsFilledWord-emptied, IsFilledWord-filled, IsWordChanged-set}

module _ {P : Type 0} (nodes : List (Node P)) where
  -- an empty slot has no pair, and another one has some
  row-empty : (t : Node P) → is_empty t ≡ true → row_in nodes t ≡ []
  row-empty (Free n) none = refl
  row-empty (Held l p) none = absurd (false≢true none)

  row-filled : (t : Node P) → is_empty t ≡ false → 0 < length (row_in nodes t)
  row-filled (Free n) some = absurd (false≢true (sym some))
  row-filled (Held l p) some = omega arith

module _ {K X F : Type 0} (number : K → ℕ) (R : F → K × X → Bool → F → Type 0) (Q : F → K × X → Type 0) (old : List (List (K × X))) (from : ℕ) (f₀ : F) where
  -- of these rows the slots have what the closure left, which was asked about those whose bits aren't left; the word `kept` says which hold a pair
  pub record AreRetained (slots : List (Node (K × X))) (a : Pool (K × X)) (f : F) (kept left : ℕ) : Type 0 where
    pub linked : AreLinked (λ p. slot_number number p.0 (length slots)) slots a
    pub rows : IsWordChanged from old (rows_in slots a.nodes)
    pub word : IsFilledWord (word_rows from (rows_in slots a.nodes)) kept
    pub asked : AreAsked R Q (word_rows from old) f₀ (word_rows from (rows_in slots a.nodes)) f left

  module _ (slots : List (Node (K × X))) (a : Pool (K × X)) (f : F) (kept left : ℕ) (are : AreRetained slots a f kept left) (some : 0 < left) where
    abbrev rows : List (List (K × X))
    rows = rows_in slots a.nodes

    abbrev low : ℕ
    low = trailing_zeros w64 left

    -- the slot of the lowest bit that is left holds a pair
    here : IsNextRow (word_rows from rows) are.asked.from low
    here = next R Q (word_rows from old) f₀ (word_rows from rows) f left are.asked some

    small : low < 64
    small = omega (arith, here.within, length-word_rows from rows)

    -- it is one of the slots
    within : from + low < length rows
    within = row-within rows (from + low) (rw (get_or-word_rows from rows low small) at here.filled)

    pub Asked-within : from + low < length slots
    Asked-within = let n = length-map slots (row_in a.nodes) in omega (arith, within, n)

    module _ (s : Node (K × X)) (read : s ≡ get_or slots (from + low) s) where
      pub Asked-row : IsRow number slots a rows (from + low) s
      Asked-row = Row-in number slots a (from + low) s are.linked within read

      is : row_in a.nodes s ≡ get_or (word_rows from rows) low []
      is = Asked-row.is ∙ sym (get_or-word_rows from rows low small)

      -- the closure may be asked about each of its pairs
      pub Asked-takes : TakesEach R Q f (row_in a.nodes s)
      Asked-takes = rw is (asks R Q (word_rows from old) f₀ (word_rows from rows) f left are.asked some)

      -- it was asked about them
      module _ (row : List (K × X)) (b : Pool (K × X)) (t : Node (K × X)) (h : F) (changed : IsSlotSet a s row b t) (run : Retains R f (row_in a.nodes s) row h) where
        pub Asked-next : (new : ℕ) → IsFilledWord (set (word_rows from rows) low row) new → AreRetained (set slots (from + low) t) b h new (bit_and left (left - 1))
        Asked-next new is_kept =
            let home : K × X → ℕ = λ p. slot_number number p.0 (length slots) in
            let done = Linked-set home slots a (from + low) row b t Asked-within are.linked (subst (λ u. IsSlotSet a u row b t) Asked-row.slot changed) (Home-retained home (from + low) R f (row_in a.nodes s) row h run Asked-row.own) in
            let same = word_rows-set from rows low row small in
            record {
              linked = subst (λ n. AreLinked (λ p. slot_number number p.0 n) (set slots (from + low) t) b) (sym (length-set slots (from + low) t)) done.linked;
              rows = rw done.rows (IsWordChanged-set from old rows low row small are.rows);
              word = rw (done.rows, same) is_kept;
              asked = rw (done.rows, same) (AreAsked-next R Q (word_rows from old) f₀ (word_rows from rows) f left are.asked some row h (subst (λ ps. Retains R f ps row h) is run));
            }

        -- none of them stays
        pub Asked-emptied : is_empty t ≡ true → AreRetained (set slots (from + low) t) b h (without_lowest_of left kept) (bit_and left (left - 1))
        Asked-emptied none =
            let lowest = bit_at-trailing_zeros w64 left some are.asked.fits in
            Asked-next (without_lowest_of left kept)
            (IsFilledWord-emptied (word_rows from rows) kept low row are.word here.within left (record { one = lowest.1; below = lowest.2 }) are.asked.fits small (sym changed.pairs ∙ row-empty b.nodes t none))

        -- some do
        pub Asked-filled : is_empty t ≡ false → AreRetained (set slots (from + low) t) b h kept (bit_and left (left - 1))
        Asked-filled one =
            Asked-next kept (IsFilledWord-filled (word_rows from rows) kept low row are.word here.within small here.filled (subst (λ ps. 0 < length ps) changed.pairs (row-filled b.nodes t one)))
