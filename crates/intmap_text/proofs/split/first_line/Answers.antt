use Rattle.std.proofs.Common.{ℕ, arith}
use Rattle.std.proofs.lemmas.List.Sums.{prefix_len-le-length}
use Rattle.intmap_text.proofs.SplitLemmas.{lines_in-last, lines_in-ended}
use Rattle.intmap_text.proofs.split.first_line.Goals as goal

pub split_at-requires : goal.split_at-requires
split_at-requires c = omega (arith, prefix_len-le-length {X = ℕ})

pub returns-in-empty-clause-last : goal.returns-in-empty-clause-last
returns-in-empty-clause-last c =
    lines_in-last c.args.text.now _ _ _ c.line_len.ensures c.split_at.ensures.front
    c.split_at.ensures.back c.in-empty.len_below

pub returns-in-len1-up-clause-ended : goal.returns-in-len1-up-clause-ended
returns-in-len1-up-clause-ended c =
    lines_in-ended c.args.text.now _ _ _ c.line_len.ensures c.split_at.ensures.front
    c.split_at.ensures.back c.in-len1-up.len_at_least
