use Rattle.std.proofs.Common.{refl, arith}
use Rattle.std.proofs.lemmas.Bool.{false≢true}
use Rattle.intmap_text.proofs.NumberLemmas.{all_digits, is_written, is_canonical}
use Rattle.intmap_text.proofs.number.number.Goals as goal

pub returns-then-end-word-clause-none : goal.returns-then-end-word-clause-none
returns-then-end-word-clause-none c n w =
    omega (arith, all_digits c.args.word.now n w, c.read_digits-end.ensures.end, c.if-end-word.true)

pub returns-then-is_canonical-clause-some : goal.returns-then-is_canonical-clause-some
returns-then-is_canonical-clause-some c =
    is_written c.args.word.now _ _ (omega (arith, c.if-end-word.false)) c.read_digits-end.ensures.value
    c.read_digits-end.ensures.end (c.if-is_canonical.ensures.0 refl)

pub returns-else-is_canonical-clause-none : goal.returns-else-is_canonical-clause-none
returns-else-is_canonical-clause-none c n w =
    let fits = is_canonical c.args.word.now _ _ (omega (arith, c.if-end-word.false)) c.read_digits-end.ensures.value n w in
    false≢true (c.if-is_canonical.ensures.1 fits)
