use Rattle.std.proofs.Common.{◌-◌, ◌^◌, ◌<◌, length}
use Rattle.intmap_table.specs.Tables.Bits.{marked, marks_of, IsWordFrom}
use Rattle.intmap_table.proofs.bits.Bits.next_in.Given as goal

-- no index before this word is the one sought, and the word has the marks from there on
abbrev pub invariant-loop-left : goal.invariant-loop-left
invariant-loop-left g l = record {
  here : IsWordFrom (marked (marks_of l.self-inside.words.items)) l._from l.left.at l.left.word;
  fits : l.left.word < 2 ^ 64;
}

abbrev pub decreases-loop-left : goal.decreases-loop-left
decreases-loop-left g l = length l.self-inside.words.items - l.left.at
