use Rattle.intmap_text.proofs.PairLemmas.{HaveRead}
use Rattle.intmap_text.proofs.command.read_pairs.Given as goal

-- the words so far write the pairs so far, and the others are left
abbrev pub invariant-loop-key : goal.invariant-loop-key
invariant-loop-key g l = HaveRead l.fn.words l.pairs.items l.words
