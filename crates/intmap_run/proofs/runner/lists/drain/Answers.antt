use Rattle.intmap_run.proofs.DrainStepLemmas.{StepsFrom-drain}
use Rattle.intmap_run.proofs.RoomLemmas.{HasRoom-less, HasRoom-thinned, thinned-drop}
use Rattle.intmap_run.proofs.runner.lists.drain.Goals as goal

pub returns-in-Ok-clause-step : goal.returns-in-Ok-clause-step
returns-in-Ok-clause-step g c judge =
    let taken = c.in-Ok.ensures in
    StepsFrom-drain g.K.IntKey.number_of g.K.IntKey.is_valid c.args.map.now taken.valid (g.J.Judge.sees judge) (g.J.Judge.keeps judge) c.args.count
    c.take_front.new.map c.in-Ok.pairs taken.valid_after taken.pairs taken.state

pub returns-in-Ok-clause-room : goal.returns-in-Ok-clause-room
returns-in-Ok-clause-room g c = record {
  kept = λ left leaves room.
      let taken = c.in-Ok.ensures in let m = c.args.map.now in
      (tt, rw taken.state (HasRoom-thinned g.K.IntKey.number_of g.K.IntKey.is_valid m _ left taken.valid.capacity (thinned-drop g.K.IntKey.number_of m.capacity c.args.count m.walk) (HasRoom-less g.K.IntKey.number_of g.K.IntKey.is_valid m 0 left taken.valid room)));
}
