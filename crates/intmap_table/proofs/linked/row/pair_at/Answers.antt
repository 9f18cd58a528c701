use Rattle.std.proofs.Common.{arith, ◌-◌}
use Rattle.intmap_table.proofs.Nodes.PathLemmas.{NodeAt-some}
use Rattle.intmap_table.proofs.linked.row.pair_at.Goals as goal

pub pair-requires : goal.pair-requires
pair-requires g c =
    let within = rw c.in-Some.ensures.some at c.requires.within in
    NodeAt-some c.args.pool.now.nodes c.in-Some.link (c.args.place - 1) c.seek.result c.seek.ensures (omega (arith, within, c.if-place-eq0.false))
