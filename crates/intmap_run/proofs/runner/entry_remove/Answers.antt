use Rattle.std.proofs.Common.{rules}
use Rattle.intmap_run.proofs.WritingStepLemmas.{StepsFrom-entry_remove, StepsFrom-not_removed, StepsFrom-equal}
use Rattle.intmap.specs.Entries.{occupied_key}
use Rattle.intmap_run.proofs.RoomLemmas.{HasRoom-entry_remove, HasRoom-less}
use Rattle.intmap_run.proofs.runner.entry_remove.Goals as goal

pub returns-in-Occupied-clause-step : goal.returns-in-Occupied-clause-step
returns-in-Occupied-clause-step g c =
    let e = c.in-Occupied.ensures in
    λ judge. StepsFrom-equal g.K.IntKey.number_of (g.J.Judge.sees judge) (g.J.Judge.keeps judge) c.args.map.now _ _ _ _
    (StepsFrom-entry_remove g.K.IntKey.number_of g.K.IntKey.is_valid c.args.map.now e.valid (g.J.Judge.sees judge) (g.J.Judge.keeps judge) c.args.key
    (occupied_key c.in-Occupied.entry) c.in-Occupied.entry.map.now e.state e.key c.remove.result c.remove.ensures.value) (search rules)

pub returns-in-Vacant-clause-step : goal.returns-in-Vacant-clause-step
returns-in-Vacant-clause-step g c =
    let e = c.in-Vacant.ensures in
    λ judge. StepsFrom-equal g.K.IntKey.number_of (g.J.Judge.sees judge) (g.J.Judge.keeps judge) c.args.map.now _ _ _ _
    (StepsFrom-not_removed g.K.IntKey.number_of g.K.IntKey.is_valid c.args.map.now e.valid (g.J.Judge.sees judge) (g.J.Judge.keeps judge) c.args.key
    c.in-Vacant._entry.key c.in-Vacant._entry.map.now e.state e.key c.in-Vacant._entry.missing) (search rules)

pub returns-in-Occupied-clause-valid_after : goal.returns-in-Occupied-clause-valid_after
returns-in-Occupied-clause-valid_after g c = let h = c.remove.ensures.valid_after in search rules

pub returns-in-Vacant-clause-valid_after : goal.returns-in-Vacant-clause-valid_after
returns-in-Vacant-clause-valid_after g c = let h = c.in-Vacant.ensures.valid in search rules

pub returns-in-Occupied-clause-room : goal.returns-in-Occupied-clause-room
returns-in-Occupied-clause-room g c = record {
  kept = λ left leaves room.
      let e = c.in-Occupied.ensures in
      let removed = HasRoom-entry_remove g.K.IntKey.number_of g.K.IntKey.is_valid c.args.map.now e.valid c.args.key (occupied_key c.in-Occupied.entry) c.in-Occupied.entry.map.now e.state e.key left (HasRoom-less g.K.IntKey.number_of g.K.IntKey.is_valid c.args.map.now 0 left e.valid room) in
      (tt, search (rules, removed));
}
