use Rattle.std.proofs.Common.{◌≡◌, ◌*◌, ◌≤◌, take, sum_by, count_ones}
use Rattle.intmap_table.proofs.bits.Bits.count.Given as goal

-- the number so far is the sum of the marks of the words so far, at most 64 a word
abbrev pub invariant-loop-word : goal.invariant-loop-word
invariant-loop-word g l = record {
  total : l.marked ≡ sum_by count_ones (take l.word-index l.word-items);
  small : l.marked ≤ 64 * l.word-index;
}
