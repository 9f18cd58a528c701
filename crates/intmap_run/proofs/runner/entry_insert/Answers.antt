use Rattle.std.proofs.Common.{rules, ◌+◌, arith}
use Rattle.intmap.proofs.ReservedLemmas.{HasRoom-fewer}
use Rattle.intmap_run.proofs.WritingStepLemmas.{StepsFrom-entry_insert, StepsFrom-fresh, StepsFrom-not_fresh, StepsFrom-equal}
use Rattle.intmap.specs.Entries.{occupied_key}
use Rattle.intmap_run.proofs.RoomLemmas.{HasRoom-entry_insert, StepKeepsRoom-equal, StepKeepsRoom-fresh}
use Rattle.intmap_run.proofs.runner.entry_insert.Goals as goal

pub returns-in-Occupied-clause-step : goal.returns-in-Occupied-clause-step
returns-in-Occupied-clause-step g c =
    let e = c.in-Occupied.ensures in
    λ judge. StepsFrom-equal g.K.IntKey.number_of (g.J.Judge.sees judge) (g.J.Judge.keeps judge) c.args.map.now _ _ _ _
    (StepsFrom-entry_insert g.K.IntKey.number_of g.K.IntKey.is_valid c.args.map.now e.valid (g.J.Judge.sees judge) (g.J.Judge.keeps judge) c.args.key
    (occupied_key c.in-Occupied.entry) c.in-Occupied.entry.map.now e.state e.key c.args.value c.insert-old.result c.insert-old.ensures.old) (search rules)

pub returns-in-Ok-clause-step : goal.returns-in-Ok-clause-step
returns-in-Ok-clause-step g c =
    let e = c.in-Vacant.ensures in
    λ judge. StepsFrom-equal g.K.IntKey.number_of (g.J.Judge.sees judge) (g.J.Judge.keeps judge) c.args.map.now _ _ _ _
    (StepsFrom-fresh g.K.IntKey.number_of g.K.IntKey.is_valid c.args.map.now e.valid (g.J.Judge.sees judge) (g.J.Judge.keeps judge) c.args.key
    c.in-Vacant.entry.key c.in-Vacant.entry.map.now e.state e.key c.args.value c.in-Ok._value.now _ c.in-Vacant.entry.missing c.in-Ok.ensures.value (c.in-Ok.ensures.inserted c.in-Ok._value.now).fits) (search rules)

pub returns-in-Err-clause-step : goal.returns-in-Err-clause-step
returns-in-Err-clause-step g c =
    let e = c.in-Vacant.ensures in
    λ judge. rw (c.handed_back.ensures, c.in-Err.ensures.value_returned) (StepsFrom-equal g.K.IntKey.number_of (g.J.Judge.sees judge) (g.J.Judge.keeps judge) c.args.map.now _ _ _ _
    (StepsFrom-not_fresh g.K.IntKey.number_of g.K.IntKey.is_valid c.args.map.now e.valid (g.J.Judge.sees judge) (g.J.Judge.keeps judge) c.args.key
    c.in-Vacant.entry.key c.in-Vacant.entry.map.now e.state e.key c.args.value c.in-Err.refused.cause c.in-Err.ensures.refused) (search rules))

pub returns-in-Ok-clause-valid_after : goal.returns-in-Ok-clause-valid_after
returns-in-Ok-clause-valid_after g c = let h = (c.in-Ok.ensures.inserted c.in-Ok._value.now).valid in search rules

pub returns-in-Occupied-clause-valid_after : goal.returns-in-Occupied-clause-valid_after
returns-in-Occupied-clause-valid_after g c = let h = c.insert-old.ensures.valid_after in let left = c.leave.ensures.state in search rules

pub returns-in-Err-clause-valid_after : goal.returns-in-Err-clause-valid_after
returns-in-Err-clause-valid_after g c = let h = c.in-Vacant.ensures.valid in search rules

pub returns-in-Occupied-clause-room : goal.returns-in-Occupied-clause-room
returns-in-Occupied-clause-room g c = record {
  kept = λ left leaves room.
      let e = c.in-Occupied.ensures in
      let written = HasRoom-entry_insert g.K.IntKey.number_of g.K.IntKey.is_valid c.args.map.now e.valid c.args.key (occupied_key c.in-Occupied.entry) c.in-Occupied.entry.map.now e.state e.key left c.args.value room in
      (tt, search (rules, written));
}

pub returns-in-Ok-clause-room : goal.returns-in-Ok-clause-room
returns-in-Ok-clause-room g c =
    let e = c.in-Vacant.ensures in let v = c.in-Ok._value.now in
    StepKeepsRoom-equal g.K.IntKey.number_of c.args.map.now _ _ _ _
    (StepKeepsRoom-fresh g.K.IntKey.number_of g.K.IntKey.is_valid c.args.map.now e.valid c.args.key c.in-Vacant.entry.key c.in-Vacant.entry.map.now e.state e.key c.args.value v _ (c.in-Ok.ensures.inserted v)) (search rules)

pub returns-in-Err-clause-room : goal.returns-in-Err-clause-room
returns-in-Err-clause-room g c = record {
  kept = λ left leaves room.
      let e = c.in-Vacant.ensures in
      let none = c.in-Err.ensures.has_room (rw e.state (HasRoom-fewer g.K.IntKey.number_of c.args.map.now (1 + left) 1 e.valid.capacity room (omega arith))) in cc;
}
