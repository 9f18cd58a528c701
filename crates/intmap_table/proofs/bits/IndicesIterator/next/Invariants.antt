use Rattle.std.proofs.Common.{◌≡◌, ◌∷◌, ◌+◌, ◌*◌, ◌^◌, ◌≤◌, length}
use Rattle.intmap_table.specs.Tables.Bits.{indices_from}
use Rattle.intmap_table.proofs.bits.IndicesIterator.next.Given as goal

-- the indices of this word and of the words behind it are those that were left at the call, and all these words begin at most at 2 ^ 63
abbrev pub invariant-loop-self : goal.invariant-loop-self
invariant-loop-self l = record {
  left : indices_from l.self-inside.base (l.self-inside.word ∷ l.self-inside.words.now) ≡ l.fn.self;
  few : l.self-inside.base + 64 * length l.self-inside.words.now ≤ 2 ^ 63;
}

abbrev pub decreases-loop-self : goal.decreases-loop-self
decreases-loop-self l = length l.self-inside.words.now
