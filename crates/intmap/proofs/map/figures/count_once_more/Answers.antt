use Rattle.std.proofs.Common.{◌+◌, ◌<◌, ◌^◌, refl, ap}
use Rattle.intmap.proofs.InsertionLemmas.{IsInsertion-searched}
use Rattle.intmap.proofs.TallyLemmas.{IsTally-written, IsTally-inserted}
use Rattle.intmap.proofs.map.figures.count_once_more.Goals as goal

pub returns-in-Some-clause-counted : goal.returns-in-Some-clause-counted
returns-in-Some-clause-counted g c = λ ns tally.
    IsTally-written ns c.args.number c.args.counts.now _ tally c.in-Some.count.now c.in-Some.ensures.value refl refl refl

pub returns-in-Some-clause-valid_after : goal.returns-in-Some-clause-valid_after
returns-in-Some-clause-valid_after g c = c.in-Some.ensures.valid_after (c.in-Some.count.now + 1)

pub returns-clause-counted : goal.returns-clause-counted
returns-clause-counted g c = λ ns tally.
    let state = c.in_ok-insert.ensures.state in
    IsTally-inserted ns c.args.number c.args.counts.now c.insert.new.self tally c.in_default.ensures.value
    (IsInsertion-searched (λ n. n) (λ n. n < 2 ^ 64) c.args.counts.now c.insert.new.self c.args.number c.args.number 1 c.in_ok-insert.ensures.inserted)
    (ap (λ x. x.walk) state) (ap (λ x. x.factor) state)
