use Rattle.std.proofs.Common.{◌≡◌, ◌+◌, ◌-◌, ◌<◌, ℕ, [], length, drop, get_or}
use Rattle.intmap_table.specs.Tables.Slots.{joined, count_before}
use Rattle.intmap_table.proofs.CopyingLemmas.{AreCopying}
use Rattle.intmap_table.proofs.table.walk.copy_rest.Given as goal

-- so many pairs were copied, and the cursor is behind the last one
abbrev pub invariant-loop-count : goal.invariant-loop-count
invariant-loop-count g l = record {
  rows : l.rest.rows ≡ l.initial.rest.rows;
  copies : AreCopying g.P.From.from_gives (drop (count_before l.initial.rest.rows l.initial.rest.at.slot l.initial.rest.at.place) (joined l.initial.rest.rows)) l.initial.copies l.copies l.count;
  passed : count_before l.initial.rest.rows l.rest.at.slot l.rest.at.place ≡ count_before l.initial.rest.rows l.initial.rest.at.slot l.initial.rest.at.place + l.count;
  here : 0 < l.count → (j : ℕ) × (l.rest.at.place ≡ j + 1) × (j < length (get_or l.initial.rest.rows l.rest.at.slot []));
  stays : l.count ≡ 0 → l.rest.at ≡ l.initial.rest.at;
}

abbrev pub decreases-loop-count : goal.decreases-loop-count
decreases-loop-count g l = length l.initial.copies - l.count
