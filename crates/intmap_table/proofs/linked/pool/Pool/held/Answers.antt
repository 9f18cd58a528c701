use Rattle.std.proofs.Common.{arith}
use Rattle.intmap_table.proofs.Nodes.FreeLemmas.{Frees-few}
use Rattle.intmap_table.proofs.linked.pool.Pool.held.Goals as goal

pub overflow_sub-result : goal.overflow_sub-result
overflow_sub-result g c =
    let few = Frees-few c.self.inside.nodes.items c.self.inside.free c.self.inside.spare c.self.invariant.few c.self.invariant.frees in
    omega (arith, few, c.len.ensures)
