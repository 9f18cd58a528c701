use Rattle.std.proofs.Common.{◌≤◌, ap, arith}
use Rattle.std.proofs.lemmas.Grind.{common_steps}
use Rattle.std.specs.Prelude.{min, vec_capacity}
use Rattle.std.proofs.Math.Nat.{le-min, min-le_left, min-le_right}
use Rattle.intmap_table.specs.Tables.Nodes.{node_limit}
use Rattle.intmap_table.proofs.linked.pool.Pool.add_new.Goals as goal

pub returns-clause-ok : goal.returns-clause-ok
returns-clause-ok g c =
    let more = c.reserve.ensures.capacity in
    let grown : min (vec_capacity c.self.inside.nodes) node_limit ≤ min (vec_capacity c.reserve.new.self) node_limit =
    le-min (let less = min-le_left (vec_capacity c.self.inside.nodes) node_limit in omega (arith, less, more)) (min-le_right (vec_capacity c.self.inside.nodes) node_limit) in
    let len = c.push_reserved.ensures.len in let before = c.reserve.ensures.len in
    let cap = ap (λ n. min n node_limit) c.push_reserved.ensures.capacity in
    rw (← c.self.view_is) (record {
      fresh = grind (arith, common_steps);
      is = grind (arith, common_steps);
      others = grind (arith, common_steps);
      held = grind (arith, common_steps);
      total = omega (arith, grown, len, before, cap);
    })
