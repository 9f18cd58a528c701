use Rattle.callers_above.proofs.session.run_twice.Goals as goal

-- the second run left the map as the first did
pub returns-in-Err-run-clause-err : goal.returns-in-Err-run-clause-err
returns-in-Err-run-clause-err g c = (rw c.in-Err-run.ensures.err c.in-Ok.ensures.ok, c.in-Err-run.ensures.commands_returned)

pub returns-in-Ok-run-clause-joined : goal.returns-in-Ok-run-clause-joined
returns-in-Ok-run-clause-joined g c =
    c.runs_join.ensures c.args.judge.now c.args.map.now c.run.new.map c.run-2.new.map c.args.first.items c.args.second.items c.in-Ok.early.items c.in-Ok-run.late.items
    c.in-Ok.ensures.ok c.in-Ok-run.ensures.ok

-- what is said of every run is said of the joined one
pub returns-in-Ok-run-clause-few_placements : goal.returns-in-Ok-run-clause-few_placements
returns-in-Ok-run-clause-few_placements g c s t run before after = c.runs_place_few.ensures c.args.judge.now s t _ _ run

pub returns-in-Ok-run-clause-last_capacity : goal.returns-in-Ok-run-clause-last_capacity
returns-in-Ok-run-clause-last_capacity g c s t run before after = c.runs_leave_few_slots.ensures c.args.judge.now s t _ _ run
