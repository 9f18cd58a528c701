use Rattle.intmap_table.proofs.Tables.LocationLemmas.{place-found, value_of-found}
use Rattle.intmap_table.proofs.table.Table.value_in.Goals as goal

pub value_at-requires : goal.value_at-requires
value_at-requires g c = place-found g.K.IntKey.number_of c.self.inside.slots.rows c.args.slot c.args.place c.self.invariant (rw (← c.self.view_is) at c.requires)

pub returns : goal.returns
returns g c =
    rw (← c.self.view_is) (value_of-found g.K.IntKey.number_of c.self.inside.slots.rows c.args.slot c.args.place c.self.invariant (rw (← c.self.view_is) at c.requires) c.value_at.result.now c.value_at.ensures)
