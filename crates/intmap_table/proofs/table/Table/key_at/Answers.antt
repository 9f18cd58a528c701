use Rattle.std.proofs.Common.{◌∙◌}
use Rattle.intmap_table.proofs.Tables.LocationLemmas.{place-found, key_at-here}
use Rattle.intmap_table.proofs.table.Table.key_at.Goals as goal

pub key_at-requires : goal.key_at-requires
key_at-requires g c = place-found g.K.IntKey.number_of c.self.inside.slots.rows c.args.slot c.args.place c.self.invariant (rw (← c.self.view_is) at c.requires)

pub returns : goal.returns
returns g c =
    rw (← c.self.view_is) (key_at-here g.K.IntKey.number_of c.self.inside.slots.rows c.args.slot c.args.place c.self.invariant (rw (← c.self.view_is) at c.requires) c.key.result.now
    (λ p. c.key.ensures.value ∙ c.key_at.ensures p))
