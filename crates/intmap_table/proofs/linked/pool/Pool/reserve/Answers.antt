use Rattle.std.proofs.Common.{◌≤◌, ◌+◌, ◌-◌, length, arith}
use Rattle.std.specs.Prelude.{min, vec_capacity}
use Rattle.std.proofs.Math.Nat.{le-min}
use Rattle.std.proofs.lemmas.Result.{on_ok_weaker}
use Rattle.intmap_table.specs.Tables.Nodes.{node_limit}
use Rattle.intmap_table.proofs.Nodes.FreeLemmas.{Frees-few}
use Rattle.intmap_table.proofs.linked.pool.Pool.reserve.Goals as goal

pub returns-then-additional-self-clause-room : goal.returns-then-additional-self-clause-room
returns-then-additional-self-clause-room g c =
    let few = Frees-few c.self.inside.nodes.items c.self.inside.free c.self.inside.spare c.self.invariant.few c.self.invariant.frees in
    let enough = c.if-additional-self.true in
    rw (← c.self.view_is) (omega (arith, few, enough))

pub returns-clause-room : goal.returns-clause-room
returns-clause-room g c =
    let few = Frees-few c.self.inside.nodes.items c.self.inside.free c.self.inside.spare c.self.invariant.few c.self.invariant.frees in
    let more = c.if-additional-self.false in
    let fits = c.if-new-len.false in
    let len = c.len.ensures in
    let same = c.reserve_exact.ensures.len in
    on_ok_weaker c.reserve_exact.result (λ made.
    let all : length c.reserve_exact.new.self.items + (c.args.additional - c.self.inside.spare) ≤ min (vec_capacity c.reserve_exact.new.self) node_limit =
    le-min (omega (arith, made)) (omega (arith, fits, len, same)) in
    omega (arith, all, more, few, same)) c.reserve_exact.ensures.ok
