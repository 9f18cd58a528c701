-- What a closure that picks one pair at a step leaves of the rows of a table.
use Rattle.std.proofs.Common.{◌≡◌, ℕ, ◌+◌, ◌<◌, ◌≤◌, Bool, List, [], ◌++◌, Option, Some, None, length, get_or, set, take, drop, ap, ◌∙◌, arith, get_or-set_same}
use Rattle.std.specs.Option.{option_len}
use Rattle.std.proofs.lemmas.List.{length-drop}
use Rattle.intmap_table.specs.Picking.{ExtractsBehind}
use Rattle.intmap_table.specs.Tables.Slots.{joined}
use Rattle.intmap_table.proofs.ExtractLemmas.{ExtractsBehind-part, ExtractsNext-end, StepsFrom, StepsFrom-part, Takes, TakesEach-step, length-ExtractsBehind}
use Rattle.intmap_table.proofs.Tables.CursorLemmas.{IsInRows, IsInRows-past, drop-reached}
use Rattle.intmap_table.proofs.Tables.AroundLemmas.{joined-around, length-around, left-same, taken-same}

-- the pairs of row i from place j on were asked about, with n passed before. `row` is left of the row, with place k reached and m passed
pub record IsAsked {P F : Type 0} (Q : F → P → Bool → F → P → Type 0) (R : List (List P)) (row : List P)
    (i j n k m : ℕ) (f g : F) (r : Option P) : Type 0 where
  pub below : i < length R
  pub at : IsInRows R i j n
  pub on : m + j ≡ n + k
  pub within : k ≤ length row
  pub step : ExtractsBehind Q f (get_or R i []) j r g row k

module _ {P F : Type 0} {Q : F → P → Bool → F → P → Type 0} {R : List (List P)} {row : List P}
    {i j n k m : ℕ} {f g : F} {r : Option P} (asked : IsAsked Q R row i j n k m f g r) where
  abbrev left : List (List P)
  left = set R i row

  abbrev before : List P
  before = joined (take i R)

  abbrev behind : List P
  behind = joined (drop (i + 1) R)

  row-new : get_or left i [] ≡ row
  row-new = get_or-set_same R i row [] asked.below

  counted : n ≡ length before + j
  counted = let at = asked.at in omega (arith, at.count, at.within)

  count : m ≡ length before + k
  count = omega (arith, asked.on, counted)

  around : joined left ≡ before ++ (row ++ behind)
  around = joined-around i left ∙ (λ h. taken-same R i row h ++ (row-new h ++ left-same R i row h))

  fewer : length (get_or R i []) ≡ length row + option_len r
  fewer = length-ExtractsBehind Q f g (get_or R i []) row j k r asked.step

  -- the place that was reached there, which is one of the pairs that were there
  pub IsInRows-step : IsInRows left i k m
  IsInRows-step = record {
    within = rw row-new asked.within;
    count = (let front = ap length (taken-same R i row) in let here = ap length row-new in omega (arith, count, asked.within, front, here));
  }

  pub place-on : k ≤ length (get_or R i [])
  place-on = omega (arith, fewer, asked.within)

  -- no more pairs are left
  pub joined-few : length (joined left) ≤ length (joined R)
  joined-few =
      let old = length-around i R in let new = length-around i left in
      let front = ap length (taken-same R i row) in let here = ap length row-new in let back = ap length (left-same R i row) in
      omega (arith, fewer, old, new, front, here, back)

  -- what the closure takes of the pairs that were left it takes of those that are left now
  pub TakesEach-slot : (Z : F → P → Type 0) → Takes Q Z f (drop n (joined R)) → Takes Q Z g (drop m (joined left))
  TakesEach-slot Z takes =
      rw (drop-reached left i k m IsInRows-step, row-new, left-same R i row)
      (TakesEach-step Q Z behind f g (drop j (get_or R i [])) asked.step.0 (drop k row) r asked.step.1 (rw (drop-reached R i j n asked.at) at takes))

  -- one of the pairs was picked
  pub ExtractsBehind-slot : (p : P) → r ≡ Some p → ExtractsBehind Q f (joined R) n (Some p) g (joined left) m
  ExtractsBehind-slot p is =
      rw (joined-around i R, around, counted, count)
      (ExtractsBehind-part Q f g before (get_or R i []) row behind j k asked.at.within asked.within p (rw is at asked.step))

  -- none of them was
  pub StepsFrom-slot : r ≡ None → StepsFrom Q f (joined R) n g (joined left) m
  StepsFrom-slot none =
      rw (joined-around i R, around, counted, count)
      (StepsFrom-part Q f g before (get_or R i []) row behind j k asked.at.within asked.within (rw none at asked.step))

  -- so all pairs of the slot were passed
  pub IsInRows-left : r ≡ None → IsInRows left (i + 1) 0 m
  IsInRows-left none =
      let end = ap length (ExtractsNext-end Q f g _ _ _ (rw none at asked.step.1)) in let over = length-drop k row in
      IsInRows-past left i k m IsInRows-step (rw row-new (omega (arith, end, over)))
