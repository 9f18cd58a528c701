use Rattle.std.proofs.Common.{rules, sym, length, ◌+◌, ◌∙◌, arith}
use Rattle.std.proofs.IntoIterSteps.{All-taken}
use Rattle.intmap.proofs.ExtendLemmas.{items-yielded_then}
use Rattle.intmap.proofs.ReservedLemmas.{HasRoom-fewer}
use Rattle.intmap_run.proofs.ExtendStepLemmas.{StepsFrom-extend, StepsFrom-stopped, counted-all}
use Rattle.intmap_run.proofs.RoomLemmas.{HasRoom-extended}
use Rattle.intmap_run.proofs.runner.extend.Goals as goal

pub returns-in-Ok-clause-step : goal.returns-in-Ok-clause-step
returns-in-Ok-clause-step g c judge =
    let all = c.in-Ok.ensures.extends in
    StepsFrom-extend g.K.IntKey.number_of g.K.IntKey.is_valid c.args.map.now c.extend.ensures.valid (g.J.Judge.sees judge) (g.J.Judge.keeps judge)
    c.args.pairs all.pairs c.extend.new.self (All-taken c.into_iter.result all.pairs all.came ∙ c.into_iter.ensures.rest) all.extended.inserted

pub returns-in-Err-clause-step : goal.returns-in-Err-clause-step
returns-in-Err-clause-step g c judge =
    let stopped = c.in-Err.ensures.stops in
    let pairs = c.args.pairs in
    let split = sym c.into_iter.ensures.rest ∙ items-yielded_then c.into_iter.result stopped.pairs (c.in-Err.refused.key, c.in-Err.refused.value) stopped.rest stopped.came in
    StepsFrom-stopped g.K.IntKey.number_of g.K.IntKey.is_valid c.args.map.now c.extend.ensures.valid (g.J.Judge.sees judge) (g.J.Judge.keeps judge)
    pairs stopped.pairs _ stopped.before c.extend.new.self c.in-Err.refused split
    (counted-all stopped.pairs pairs.items _ _ c.in-Err.refused.applied pairs.len pairs.cap split pairs.ok.0 pairs.ok.1 pairs.small stopped.applied)
    stopped.extended.inserted stopped.after stopped.may_refuse

pub returns-in-Ok-clause-room : goal.returns-in-Ok-clause-room
returns-in-Ok-clause-room g c = record {
  kept = λ left leaves room.
      let all = c.in-Ok.ensures.extends in
      let whole = All-taken c.into_iter.result all.pairs all.came ∙ c.into_iter.ensures.rest in
      (tt, HasRoom-extended g.K.IntKey.number_of g.K.IntKey.is_valid c.args.map.now c.extend.new.self all.pairs left c.extend.ensures.valid all.extended.inserted (rw whole room));
}

pub returns-in-Err-clause-room : goal.returns-in-Err-clause-room
returns-in-Err-clause-room g c = record {
  kept = λ left leaves room.
      let count = length c.args.pairs.items in
      let less = HasRoom-fewer g.K.IntKey.number_of c.args.map.now (count + left) count c.extend.ensures.valid.capacity room (omega arith) in
      search (rules, c.in-Err.ensures.has_room, less);
}
