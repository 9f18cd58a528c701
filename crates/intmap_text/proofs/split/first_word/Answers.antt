use Rattle.std.proofs.Common.{ℕ, arith, sym, ◌∙◌}
use Rattle.std.proofs.lemmas.List.Sums.{prefix_len-le-length}
use Rattle.intmap_text.proofs.SplitLemmas.{words_in-first, words_in-none}
use Rattle.intmap_text.proofs.split.first_word.Goals as goal

pub split_at-requires : goal.split_at-requires
split_at-requires c = omega (arith, prefix_len-le-length {X = ℕ})

pub split_at-requires-2 : goal.split_at-requires-2
split_at-requires-2 c = omega (arith, prefix_len-le-length {X = ℕ})

pub returns-then-is_empty-clause-none : goal.returns-then-is_empty-clause-none
returns-then-is_empty-clause-none c =
    words_in-none c.args.text.now _ _ _ _ c.space_count.ensures c.split_at.ensures.back
    c.letter_count.ensures c.split_at-2.ensures.front
    (sym c.is_empty.ensures ∙ c.if-is_empty.true)

pub returns-else-is_empty-clause-some : goal.returns-else-is_empty-clause-some
returns-else-is_empty-clause-some c =
    words_in-first c.args.text.now _ _ _ _ c.space_count.ensures c.split_at.ensures.back
    c.letter_count.ensures c.split_at-2.ensures.front _ c.split_at-2.ensures.back
    (sym c.is_empty.ensures ∙ c.if-is_empty.false)
