use Rattle.std.proofs.Common.{arith}
use Rattle.std.proofs.lemmas.Result.{on_ok_weaker}
use Rattle.intmap_table.proofs.table.slots.Slots.reserve.Goals as goal

-- the nodes are as they were
pub invariant_of-self : goal.invariant_of-self
invariant_of-self g c =
    let nodes = c.reserve.ensures.nodes in
    let is = c.self.invariant in
    record {
      linked = record { chains = rw nodes is.linked.chains; own = rw nodes is.linked.own; held = rw (nodes, c.reserve.ensures.held) is.linked.held };
      capacity = is.capacity;
      marked = rw nodes is.marked;
      count = is.count;
    }

pub returns-clause-room : goal.returns-clause-room
returns-clause-room g c =
    let now = (invariant_of-self g c).linked.held in
    on_ok_weaker c.reserve.result (λ enough. omega (arith, now, enough)) c.reserve.ensures.room
