use Rattle.std.proofs.Common.{rules, length, Some, None, ◌+◌, arith}
use Rattle.std.proofs.Math.Seq.{drop-length}
use Rattle.intmap.specs.Room.{HasRoom}
use Rattle.intmap.proofs.ReservedLemmas.{HasRoom-fewer, HasRoom-removed}
use Rattle.intmap_run.proofs.StepLemmas.{StepsFrom-insert, StepsFrom-refused, StepsFrom-insert_checked, StepsFrom-refused_checked, StepsFrom-contains_key, StepsFrom-is_empty, StepsFrom-clear, StepsFrom-get, StepsFrom-remove, StepsFrom-len, StepsFrom-load, StepsFrom-load_rate, StepsFrom-assert_count}
use Rattle.intmap_run.proofs.GrowthStepLemmas.{StepsFrom-reserve, StepsFrom-set_load_factor}
use Rattle.intmap_run.proofs.WritingStepLemmas.{StepsFrom-get_mut, StepsFrom-back, StepsFrom-retain}
use Rattle.intmap_run.proofs.RoomLemmas.{HasRoom-checked, HasRoom-less, HasRoom-pushed, HasRoom-thinned, thinned-drop, thinned-filter, thinned-written}
use Rattle.intmap_run.proofs.runner.apply.Goals as goal

pub returns-in-Ok-clause-step : goal.returns-in-Ok-clause-step
returns-in-Ok-clause-step g c =
    rw (c.in-Insert.is, c.in-Ok.ensures.old)
    (StepsFrom-insert g.K.IntKey.number_of g.K.IntKey.is_valid c.args.map.now c.insert.ensures.valid (g.J.Judge.sees c.args.judge.now) (g.J.Judge.keeps c.args.judge.now)
    c.in-Insert.key c.in-Insert.value c.insert.new.self c.in-Ok.ensures.inserted.fits c.in-Ok.ensures.state)

pub returns-in-Err-clause-step : goal.returns-in-Err-clause-step
returns-in-Err-clause-step g c =
    rw (c.in-Insert.is, c.handed_back.ensures, c.in-Err.ensures.value_returned, c.in-Err.ensures.err)
    (StepsFrom-refused g.K.IntKey.number_of g.K.IntKey.is_valid c.args.map.now c.insert.ensures.valid (g.J.Judge.sees c.args.judge.now) (g.J.Judge.keeps c.args.judge.now)
    c.in-Insert.key c.in-Insert.value c.in-Err.refused.cause c.in-Err.ensures.refused)

pub returns-in-Ok-insert_checked-clause-step : goal.returns-in-Ok-insert_checked-clause-step
returns-in-Ok-insert_checked-clause-step g c =
    let e = c.in-Ok-insert_checked.ensures in
    rw c.in-InsertChecked.is
    (StepsFrom-insert_checked g.K.IntKey.number_of g.K.IntKey.is_valid c.args.map.now c.insert_checked.ensures.valid (g.J.Judge.sees c.args.judge.now) (g.J.Judge.keeps c.args.judge.now)
    c.in-InsertChecked.key c.in-InsertChecked.value c.insert_checked.new.self c.in-Ok-insert_checked.new e.new e.inserted.fits e.state)

pub returns-in-Err-insert_checked-clause-step : goal.returns-in-Err-insert_checked-clause-step
returns-in-Err-insert_checked-clause-step g c =
    rw (c.in-InsertChecked.is, c.handed_back-in-Err-insert_checked.ensures, c.in-Err-insert_checked.ensures.value_returned, c.in-Err-insert_checked.ensures.err)
    (StepsFrom-refused_checked g.K.IntKey.number_of g.K.IntKey.is_valid c.args.map.now c.insert_checked.ensures.valid (g.J.Judge.sees c.args.judge.now) (g.J.Judge.keeps c.args.judge.now)
    c.in-InsertChecked.key c.in-InsertChecked.value c.in-Err-insert_checked.refused.cause c.in-Err-insert_checked.ensures.refused)

pub returns-in-Some-get_mut-clause-step : goal.returns-in-Some-get_mut-clause-step
returns-in-Some-get_mut-clause-step g c =
    rw (c.in-GetMut.is, c.replace.ensures.after)
    (StepsFrom-get_mut g.K.IntKey.number_of g.K.IntKey.is_valid c.args.map.now c.get_mut.ensures.valid (g.J.Judge.sees c.args.judge.now) (g.J.Judge.keeps c.args.judge.now)
    c.in-GetMut.key c.in-GetMut.value c.replace.result (rw c.replace.ensures.value (search rules)))

pub returns-in-None-get_mut-clause-step : goal.returns-in-None-get_mut-clause-step
returns-in-None-get_mut-clause-step g c =
    rw c.in-GetMut.is
    (StepsFrom-back g.K.IntKey.number_of g.K.IntKey.is_valid c.args.map.now c.get_mut.ensures.valid (g.J.Judge.sees c.args.judge.now) (g.J.Judge.keeps c.args.judge.now) c.in-GetMut.key c.in-GetMut.value (search rules))

pub returns-in-ContainsKey-clause-step : goal.returns-in-ContainsKey-clause-step
returns-in-ContainsKey-clause-step g c =
    rw (c.in-ContainsKey.is, c.contains_key.ensures.value)
    (StepsFrom-contains_key g.K.IntKey.number_of g.K.IntKey.is_valid c.args.map.now c.contains_key.ensures.valid (g.J.Judge.sees c.args.judge.now) (g.J.Judge.keeps c.args.judge.now) c.in-ContainsKey.key)

pub returns-in-Clear-clause-step : goal.returns-in-Clear-clause-step
returns-in-Clear-clause-step g c =
    rw (c.in-Clear.is, c.clear.ensures.state)
    (StepsFrom-clear g.K.IntKey.number_of g.K.IntKey.is_valid c.args.map.now c.clear.ensures.valid (g.J.Judge.sees c.args.judge.now) (g.J.Judge.keeps c.args.judge.now))

pub returns-in-Retain-clause-step : goal.returns-in-Retain-clause-step
returns-in-Retain-clause-step g c =
    rw c.in-Retain.is
    (StepsFrom-retain g.K.IntKey.number_of (g.J.Judge.sees c.args.judge.now) (g.J.Judge.keeps c.args.judge.now) c.args.map.now
    c.keep_all.new.map c.keep_all.ensures.state c.keep_all.ensures.walk)

pub returns-in-IsEmpty-clause-step : goal.returns-in-IsEmpty-clause-step
returns-in-IsEmpty-clause-step g c =
    rw (c.in-IsEmpty.is, c.is_empty.ensures.value)
    (StepsFrom-is_empty g.K.IntKey.number_of g.K.IntKey.is_valid c.args.map.now c.is_empty.ensures.valid (g.J.Judge.sees c.args.judge.now) (g.J.Judge.keeps c.args.judge.now))

pub returns-in-Some-clause-step : goal.returns-in-Some-clause-step
returns-in-Some-clause-step g c =
    rw c.in-Get.is
    (StepsFrom-get g.K.IntKey.number_of g.K.IntKey.is_valid c.args.map.now c.get.ensures.valid (g.J.Judge.sees c.args.judge.now) (g.J.Judge.keeps c.args.judge.now)
    c.in-Get.key (Some c.look.result) (rw (← c.in-Some.ensures.value) c.look.ensures))

pub returns-in-None-clause-step : goal.returns-in-None-clause-step
returns-in-None-clause-step g c =
    rw c.in-Get.is
    (StepsFrom-get g.K.IntKey.number_of g.K.IntKey.is_valid c.args.map.now c.get.ensures.valid (g.J.Judge.sees c.args.judge.now) (g.J.Judge.keeps c.args.judge.now)
    c.in-Get.key None (rw (← c.in-None.ensures.value) tt))

pub returns-in-Remove-clause-step : goal.returns-in-Remove-clause-step
returns-in-Remove-clause-step g c =
    rw (c.in-Remove.is, c.remove.ensures.value, c.remove.ensures.state)
    (StepsFrom-remove g.K.IntKey.number_of g.K.IntKey.is_valid c.args.map.now c.remove.ensures.valid (g.J.Judge.sees c.args.judge.now) (g.J.Judge.keeps c.args.judge.now) c.in-Remove.key)

pub returns-in-Reserve-clause-step : goal.returns-in-Reserve-clause-step
returns-in-Reserve-clause-step g c =
    let e = c.reserve.ensures in
    rw c.in-Reserve.is
    (StepsFrom-reserve g.K.IntKey.number_of g.K.IntKey.is_valid c.args.map.now e.valid (g.J.Judge.sees c.args.judge.now) (g.J.Judge.keeps c.args.judge.now)
    c.in-Reserve.additional c.reserve.result c.done.result c.reserve.new.self e.reserved e.err e.refused c.done.ensures)

pub returns-in-SetLoadFactor-clause-step : goal.returns-in-SetLoadFactor-clause-step
returns-in-SetLoadFactor-clause-step g c =
    let e = c.set_load_factor.ensures in
    rw c.in-SetLoadFactor.is
    (StepsFrom-set_load_factor g.K.IntKey.number_of g.K.IntKey.is_valid c.args.map.now e.valid (g.J.Judge.sees c.args.judge.now) (g.J.Judge.keeps c.args.judge.now)
    c.in-SetLoadFactor.thousandths c.set_load_factor.result c.done-in-SetLoadFactor.result c.set_load_factor.new.self e.set e.err e.refused c.done-in-SetLoadFactor.ensures)

pub returns-in-EntryInsert-clause-step : goal.returns-in-EntryInsert-clause-step
returns-in-EntryInsert-clause-step g c = rw c.in-EntryInsert.is (c.entry_insert.ensures.step c.args.judge.now)

pub returns-in-EntryRemove-clause-step : goal.returns-in-EntryRemove-clause-step
returns-in-EntryRemove-clause-step g c = rw c.in-EntryRemove.is (c.entry_remove.ensures.step c.args.judge.now)

pub returns-in-Extend-clause-step : goal.returns-in-Extend-clause-step
returns-in-Extend-clause-step g c = rw c.in-Extend.is (c.extend.ensures.step c.args.judge.now)

pub returns-in-Drain-clause-step : goal.returns-in-Drain-clause-step
returns-in-Drain-clause-step g c = rw c.in-Drain.is (c.drain.ensures.step c.args.judge.now)

pub returns-in-Keys-clause-step : goal.returns-in-Keys-clause-step
returns-in-Keys-clause-step g c = rw c.in-Keys.is (c.keys.ensures.step c.args.judge.now)

pub returns-in-Len-clause-step : goal.returns-in-Len-clause-step
returns-in-Len-clause-step g c =
    rw (c.in-Len.is, c.len.ensures.value)
    (StepsFrom-len g.K.IntKey.number_of g.K.IntKey.is_valid c.args.map.now c.len.ensures.valid (g.J.Judge.sees c.args.judge.now) (g.J.Judge.keeps c.args.judge.now))

pub returns-in-Load-clause-step : goal.returns-in-Load-clause-step
returns-in-Load-clause-step g c =
    rw (c.in-Load.is, c.load.ensures.value)
    (StepsFrom-load g.K.IntKey.number_of g.K.IntKey.is_valid c.args.map.now c.load.ensures.valid (g.J.Judge.sees c.args.judge.now) (g.J.Judge.keeps c.args.judge.now))

pub returns-in-LoadRate-clause-step : goal.returns-in-LoadRate-clause-step
returns-in-LoadRate-clause-step g c =
    rw (c.in-LoadRate.is, c.load_rate.ensures.value)
    (StepsFrom-load_rate g.K.IntKey.number_of g.K.IntKey.is_valid c.args.map.now c.load_rate.ensures.valid (g.J.Judge.sees c.args.judge.now) (g.J.Judge.keeps c.args.judge.now))

pub returns-in-AssertCount-clause-step : goal.returns-in-AssertCount-clause-step
returns-in-AssertCount-clause-step g c =
    rw (c.in-AssertCount.is, c.assert_count.ensures.value)
    (StepsFrom-assert_count g.K.IntKey.number_of (g.J.Judge.sees c.args.judge.now) (g.J.Judge.keeps c.args.judge.now) c.args.map.now)

pub returns-in-Collisions-clause-step : goal.returns-in-Collisions-clause-step
returns-in-Collisions-clause-step g c = rw c.in-Collisions.is (c.collisions.ensures.step c.args.judge.now)

pub returns-in-Walk-clause-step : goal.returns-in-Walk-clause-step
returns-in-Walk-clause-step g c = rw c.in-Walk.is c.walk.ensures.step

pub returns-in-Values-clause-step : goal.returns-in-Values-clause-step
returns-in-Values-clause-step g c = rw c.in-Values.is c.values.ensures.step

-- what a command leaves of the room; where it leaves the map, the search finds it
pub returns-in-Ok-clause-room : goal.returns-in-Ok-clause-room
returns-in-Ok-clause-room g c = record {
  kept = λ left leaves room.
      let e = c.in-Ok.ensures in
      (tt, HasRoom-pushed g.K.IntKey.number_of g.K.IntKey.is_valid c.args.map.now c.insert.new.self c.in-Insert.key c.in-Insert.value left c.insert.ensures.valid e.inserted e.state (rw c.in-Insert.is at room));
}

pub returns-in-Err-clause-room : goal.returns-in-Err-clause-room
returns-in-Err-clause-room g c = record {
  kept = λ left leaves room.
      let one : HasRoom g.K.IntKey.number_of c.args.map.now (1 + left) = rw c.in-Insert.is at room in
      let none = c.in-Err.ensures.has_room (HasRoom-fewer g.K.IntKey.number_of c.args.map.now (1 + left) 1 c.insert.ensures.valid.capacity one (omega arith)) in cc;
}

pub returns-in-Ok-insert_checked-clause-room : goal.returns-in-Ok-insert_checked-clause-room
returns-in-Ok-insert_checked-clause-room g c = record {
  kept = λ left leaves room.
      let e = c.in-Ok-insert_checked.ensures in (
        tt,
        HasRoom-checked g.K.IntKey.number_of g.K.IntKey.is_valid c.args.map.now c.insert_checked.new.self c.in-InsertChecked.key c.in-InsertChecked.value c.in-Ok-insert_checked.new _ left c.insert_checked.ensures.valid
            e.new e.inserted e.state (rw c.in-InsertChecked.is at room),
      );
}

pub returns-in-Err-insert_checked-clause-room : goal.returns-in-Err-insert_checked-clause-room
returns-in-Err-insert_checked-clause-room g c = record {
  kept = λ left leaves room.
      let one : HasRoom g.K.IntKey.number_of c.args.map.now (1 + left) = rw c.in-InsertChecked.is at room in
      let none = c.in-Err-insert_checked.ensures.has_room (HasRoom-fewer g.K.IntKey.number_of c.args.map.now (1 + left) 1 c.insert_checked.ensures.valid.capacity one (omega arith)) in cc;
}

pub returns-in-Some-get_mut-clause-room : goal.returns-in-Some-get_mut-clause-room
returns-in-Some-get_mut-clause-room g c = record {
  kept = λ left leaves room.
      let m = c.args.map.now in (
        tt,
        rw c.replace.ensures.after
            (HasRoom-thinned g.K.IntKey.number_of g.K.IntKey.is_valid m _ left c.get_mut.ensures.valid.capacity (thinned-written g.K.IntKey.number_of m.capacity m.walk c.in-GetMut.key c.in-GetMut.value) (HasRoom-less g.K.IntKey.number_of g.K.IntKey.is_valid m _ left c.get_mut.ensures.valid room)),
      );
}

pub returns-in-Remove-clause-room : goal.returns-in-Remove-clause-room
returns-in-Remove-clause-room g c = record {
  kept = λ left leaves room.
      (tt, rw c.remove.ensures.state (HasRoom-removed g.K.IntKey.number_of g.K.IntKey.is_valid c.args.map.now c.in-Remove.key left c.remove.ensures.valid (HasRoom-less g.K.IntKey.number_of g.K.IntKey.is_valid c.args.map.now _ left c.remove.ensures.valid room)));
}

pub returns-in-Clear-clause-room : goal.returns-in-Clear-clause-room
returns-in-Clear-clause-room g c = record {
  kept = λ left leaves room.
      let m = c.args.map.now in (
        tt,
        rw (c.clear.ensures.state, ← drop-length m.walk)
            (HasRoom-thinned g.K.IntKey.number_of g.K.IntKey.is_valid m _ left c.clear.ensures.valid.capacity (thinned-drop g.K.IntKey.number_of m.capacity (length m.walk) m.walk) (HasRoom-less g.K.IntKey.number_of g.K.IntKey.is_valid m _ left c.clear.ensures.valid room)),
      );
}

pub returns-in-Retain-clause-room : goal.returns-in-Retain-clause-room
returns-in-Retain-clause-room g c = record {
  kept = λ left leaves room.
      let m = c.args.map.now in let all = c.keep_all.ensures in (
        tt,
        rw (all.state, all.walk)
            (HasRoom-thinned g.K.IntKey.number_of g.K.IntKey.is_valid m _ left all.valid.capacity (thinned-filter g.K.IntKey.number_of m.capacity _ m.walk) (HasRoom-less g.K.IntKey.number_of g.K.IntKey.is_valid m _ left all.valid room)),
      );
}
