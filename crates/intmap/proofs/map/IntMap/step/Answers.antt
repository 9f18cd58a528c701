use Rattle.intmap.proofs.map.IntMap.step.Goals as goal

pub returns-in_default : goal.returns-in_default
returns-in_default g c =
    let told = c.in_default.ensures in rw (← c.self.view_is) record { first = told.first; passed = told.passed; slot = told.slot; within = told.within; stays = told.stays; valid = c.self.invariant.map }

pub returns : goal.returns
returns g c =
    let told = c.in-Some.ensures in rw (← c.self.view_is, c.get.ensures) record { first = told.first; passed = told.passed; slot = told.slot; within = told.within; stays = told.stays; valid = c.self.invariant.map }
