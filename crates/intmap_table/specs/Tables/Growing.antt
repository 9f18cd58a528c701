-- Slots that grow in place, seen in the middle. No public clause cites this module.
use Rattle.std.specs.Prelude.{ℕ, cond, nat_lt, List, [], ◌∷◌, ◌++◌, length, get_or, map}
use Rattle.std.specs.List.{range_with_len}
use Rattle.intmap_table.specs.declared.linked.row.growth.Order.{Order}
use Rattle.intmap_table.specs.declared.linked.row.growth.Order.TheVariants as orders
use Rattle.intmap_table.specs.Tables.Nodes.{Node, empty, freed}
use Rattle.intmap_table.specs.Tables.Rows.{put_second}

-- slot j for those who see the new nodes alone. The pairs of the slots from slot n up to slot C haven't moved yet, so these count as slots without them
abbrev pub moved_slot : {P : Type 0} → ℕ → ℕ → ℕ → Node P → Node P
moved_slot n C j s = cond (nat_lt j n) s (cond (nat_lt j C) (freed s) s)

-- the slots, of which those from slot n up to slot C count as slots without their pairs
unfoldable pub blank : {P : Type 0} → ℕ → ℕ → List (Node P) → List (Node P)
blank n C slots = map (λ j. moved_slot n C j (get_or slots j empty)) (range_with_len 0 (length slots))

-- with a pair before the others, behind the first of them, or last
abbrev pub put_in : {P : Type 0} → Order → List P → P → List P
put_in orders.First row p = p ∷ row
put_in orders.Second row p = put_second row p
put_in orders.Last row p = row ++ p ∷ []

-- the place of that pair
abbrev pub place_in : {P : Type 0} → Order → List P → ℕ
place_in orders.First row = 0
place_in orders.Second [] = 0
place_in orders.Second (q ∷ ps) = 1
place_in orders.Last row = length row
