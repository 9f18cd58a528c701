-- Steps of a walk that keeps or removes each pair as the next bit of a word says. No public clause cites this module.
use Rattle.std.specs.Prelude.{◌≡◌, ℕ, ◌+◌, ◌-◌, ◌/◌, ◌%◌, ◌<◌, ◌≤◌, ◌==◌, Bool, List, [], ◌++◌, length, take, drop, slice_index_or}
use Rattle.intmap_table.specs.Classes.{slot_number}
use Rattle.intmap_table.specs.Retaining.{Retains}
use Rattle.intmap_table.specs.Tables.Rows.{IsTable}
use Rattle.intmap_table.specs.Tables.Slots.{joined, count_before}
use Rattle.intmap_table.specs.declared.linked.keep.KeepBits.{KeepBits}
use Rattle.intmap_table.specs.declared.table.walk.Cursor.{Cursor}

-- the next bit is b, and those behind it are left
pub record IsNextBit (f : KeepBits) (b : Bool) (g : KeepBits) : Type 0 where
  pub is : b ≡ (f.word % 2 == 1)
  pub word : g.word ≡ f.word / 2
  pub left : f.left ≡ g.left + 1

module _ {P : Type 0} where
  -- the same of the bit of a pair
  abbrev pub Says : KeepBits → P → Bool → KeepBits → Type 0
  Says f p b g = IsNextBit f b g

  -- of the pairs of L from place i on, so many were gone over as there are bits between f and g. M has those whose bit is set in place of them, and place j is behind these
  pub record Keeps (f : KeepBits) (L : List P) (i : ℕ) (g : KeepBits) (M : List P) (j : ℕ) : Type 0 where
    pub asked : List P
    pub kept : List P
    pub rest : List P
    pub old : drop i L ≡ asked ++ rest
    pub told : Retains Says f asked kept g
    pub new : M ≡ take i L ++ (kept ++ rest)
    pub on : j ≡ i + length kept

module _ {K X : Type 0} (number : K → ℕ) where
  -- of the pairs of a table with rows R, so many from a cursor on were gone over. If there was one, the cursor is then in the slot of the last one, within the row or at its end; otherwise it stays
  pub record KeepsRows (f : KeepBits) (R : List (List (K × X))) (at : Cursor) (g : KeepBits) (S : List (List (K × X))) (to : Cursor) : Type 0 where
    pub pairs : Keeps f (joined R) (count_before R at.slot at.place) g (joined S) (count_before S to.slot to.place)
    pub slot : (p : K × X) → 0 < length pairs.asked → to.slot ≡ slot_number number (slice_index_or pairs.asked (length pairs.asked - 1) p).0 (length R)
    pub within : 0 < length pairs.asked → to.place ≤ length (slice_index_or S to.slot [])
    pub stays : pairs.asked ≡ [] → to ≡ at
    pub table : IsTable number S
    pub len : length S ≡ length R
