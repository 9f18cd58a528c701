use Rattle.std.proofs.Common.{arith}
use Rattle.intmap_table.proofs.Nodes.LinkedLemmas.{Row-chain, Row-within}
use Rattle.intmap_table.proofs.table.slots.Slots.key_at.Goals as goal

pub pair_at-pair-requires-clause-leads : goal.pair_at-pair-requires-clause-leads
pair_at-pair-requires-clause-leads g c =
    let within = rw (← c.self.view_is) at c.requires in
    Row-chain g.K.IntKey.number_of c.self.inside.slots.items c.self.inside.pool c.self.inside.bits c.self.inside.mask c.args.index c.index.result.now c.self.invariant
    (Row-within g.K.IntKey.number_of c.self.inside.slots.items c.self.inside.pool c.args.index (omega (arith, within))) c.index.ensures
