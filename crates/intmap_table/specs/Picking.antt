-- What stays of pairs if a closure picks those to be removed, one at a step.
use Rattle.std.specs.Prelude.{◌≡◌, ℕ, ◌+◌, ◌≤◌, min, Bool, List, ◌++◌, length, take, drop, Option}
use Rattle.std.specs.Fn.{Mut}
use Rattle.std.specs.Borrow.{MutBor}
use Rattle.std.specs.List.{flat_map, range_with_len}
use Rattle.std.specs.List.Retain.{ExtractsNext}
use Rattle.intmap_table.specs.Walk.{slot_of}
use Rattle.intmap_table.specs.Writes.{CallsAt}
use Rattle.intmap_table.specs.declared.table.walk.Cursor.{Cursor}

-- a call of f at the key of p and a `&mut` to its value returned b, and left the pair as q and the closure as g
abbrev pub PicksAt : {F K V : Type 0} → Mut F (K × (MutBor V × Unit {0})) (Bool × (MutBor V × Unit {0})) → F → K × V → Bool → F → K × V → Type 0
PicksAt m f p b g q = (q.0 ≡ p.0) × CallsAt m f p b q.1 g

-- the same, with what was returned and what was left of the pair as one
abbrev pub AsksAt : {F K V : Type 0} → Mut F (K × (MutBor V × Unit {0})) (Bool × (MutBor V × Unit {0})) → F → K × V → Bool × (K × V) → F → Type 0
AsksAt m f p a g = PicksAt m f p a.0 g a.1

module _ {F X : Type 0} (R : F → X → Bool → F → X → Type 0) where
  -- a step behind the first i elements of L, from f to g, which removed r if R picked one: it leaves M, and ends behind the first j elements of M.
  -- These are the first i, and then those that R was asked about and didn't pick, as it left them
  abbrev pub ExtractsBehind : F → List X → ℕ → Option X → F → List X → ℕ → Type 0
  ExtractsBehind f L i r g M j = (kept : List X) × ExtractsNext R f (drop i L) r g kept (drop j M) × (take j M ≡ take i L ++ kept)

module _ {K V : Type 0} (number : K → ℕ) where
  -- in a table of C slots with walk W, the number of pairs before the cursor's place of its slot. A place behind the last pair of a slot is before the next slot
  abbrev pub pairs_before : List (K × V) → ℕ → Cursor → ℕ
  pairs_before W C at = length (flat_map (slot_of number W C) (range_with_len 0 at.slot)) + min at.place (length (slot_of number W C at.slot))

  -- `passed` pairs of the walk are before this place of this slot, and the place is that of a pair of the slot, or that behind its last one
  pub record IsReached (W : List (K × V)) (C slot place passed : ℕ) : Type 0 where
    pub within : place ≤ length (slot_of number W C slot)
    pub count : passed ≡ length (flat_map (slot_of number W C) (range_with_len 0 slot)) + place
    pub few : passed ≤ length W
