use Rattle.intmap_text.proofs.PairLemmas.{pair_read, odd_words, unread_words}
use Rattle.intmap_text.proofs.command.read_pairs.Goals as goal

pub returns-in_default-next-clause-none : goal.returns-in_default-next-clause-none
returns-in_default-next-clause-none g c =
    odd_words c.args.words c.loop-key.pairs.items c.loop-key.words c.next.new.self
    c.in-Some.key.now c.loop-key.invariant c.in-Some.ensures.steps c.in_default-next.ensures.steps.0

pub returns-in_default-read_pair-clause-none : goal.returns-in_default-read_pair-clause-none
returns-in_default-read_pair-clause-none g c =
    unread_words c.args.words c.loop-key.pairs.items c.loop-key.words c.next.new.self
    c.next-in-Some.new.self c.in-Some.key.now c.in-Some-next.value.now c.loop-key.invariant
    c.in-Some.ensures.steps c.in-Some-next.ensures.steps c.in_default-read_pair.ensures.none

pub loop-key-preserved : goal.loop-key-preserved
loop-key-preserved g c =
    rw c.in_ok-push.ensures.items
    (pair_read c.args.words c.loop-key.pairs.items c.loop-key.words c.next.new.self
    c.next-in-Some.new.self c.in-Some.key.now c.in-Some-next.value.now c.in-Some-read_pair.pair
    c.loop-key.invariant c.in-Some.ensures.steps c.in-Some-next.ensures.steps
    c.in-Some-read_pair.ensures.some.0 c.in-Some-read_pair.ensures.some.1)
