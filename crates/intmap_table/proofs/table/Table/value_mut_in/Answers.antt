use Rattle.std.proofs.Common.{refl}
use Rattle.intmap_table.proofs.Tables.LocationLemmas.{place-found, value_of-found, Grid-found, IsTable-found}
use Rattle.intmap_table.proofs.table.Table.value_mut_in.Goals as goal

pub value_mut_at-requires : goal.value_mut_at-requires
value_mut_at-requires g c = place-found g.K.IntKey.number_of c.self.inside.slots.rows c.args.slot c.args.place c.self.invariant (rw (← c.self.view_is) at c.requires.found)

pub invariant_of-self-lent : goal.invariant_of-self-lent
invariant_of-self-lent g c w = IsTable-found g.K.IntKey.number_of c.self.inside.slots.rows c.args.slot c.args.place c.self.invariant (rw (← c.self.view_is) at c.requires.found) w

pub returns : goal.returns
returns g c =
    let found = rw (← c.self.view_is) at c.requires.found in
    let once = rw (← c.self.view_is) at c.requires.once in (
      (refl, λ w. rw (← c.self.view_is) (Grid-found g.K.IntKey.number_of c.self.inside.slots.rows c.args.slot c.args.place c.self.invariant found w once c.self.inside.slots.total)),
      record {
        writes_back = tt;
        value = rw (← c.self.view_is) (value_of-found g.K.IntKey.number_of c.self.inside.slots.rows c.args.slot c.args.place c.self.invariant found c.value_mut_at.result.now c.value_mut_at.ensures.value);
      },
    )
