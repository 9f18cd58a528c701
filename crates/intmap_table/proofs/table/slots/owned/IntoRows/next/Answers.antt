use Rattle.std.proofs.Common.{◌+◌, set, arith}
use Rattle.intmap_table.specs.Tables.Nodes.{empty}
use Rattle.intmap_table.proofs.Nodes.OwnedLemmas.{IsTaken, Left-node, Left-filled, Left-slot, Left-end}
use Rattle.intmap_table.proofs.table.slots.owned.IntoRows.next.Goals as goal
use Rattle.intmap_table.proofs.table.slots.owned.IntoRows.next.Goals.{After-pop_front, After-take-link}

-- the pair is that of a node
node : (g : _) (c : After-pop_front g) → IsTaken c.self.inside.slots.items c.self.inside.pool.nodes c.self.inside.bits c.self.inside.link c.pop_front.result c.self.inside.slots.items c.pop_front.new.pool.nodes c.pop_front.new.link c.self.inside.from c.self.inside.left.at c.self.inside.left.word
node g c = Left-node c.self.inside.slots.items c.self.inside.pool c.self.inside.bits _ _ _ _ c.pop_front.result c.pop_front.new.pool _ c.self.invariant c.pop_front.ensures.cut

-- the pair is the first one of a slot
slot : (g : _) (c : After-take-link g) → IsTaken c.self.inside.slots.items c.self.inside.pool.nodes c.self.inside.bits c.self.inside.link c.take-link.result.1 (set c.self.inside.slots.items c.in_ok-index.index empty) c.self.inside.pool.nodes c.take-link.result.0 (c.in_ok-index.index + 1) c.next_in.new.left.at c.next_in.new.left.word
slot g c =
    Left-slot c.self.inside.slots.items c.self.inside.pool.nodes c.self.inside.bits _ _ _ _ c.self.invariant c.in_ok-index.index c.index_mut.result.now _ _ _ _ (omega (arith, c.if-self-lt-NODE_LIMIT.false)) c.in_ok-index.ensures.some
    c.index_mut.ensures.value c.take-link.ensures.value c.in_ok-index.ensures.left

pub invariant_of-self : goal.invariant_of-self
invariant_of-self g c = (node g (goal.at.invariant_of-self g c).After-pop_front).are

pub returns-then-self-lt-NODE_LIMIT : goal.returns-then-self-lt-NODE_LIMIT
returns-then-self-lt-NODE_LIMIT g c = rw (← c.self.view_is) (node g (goal.at.returns-then-self-lt-NODE_LIMIT g c).After-pop_front).pairs

pub returns-in_err-index : goal.returns-in_err-index
returns-in_err-index g c =
    let none = Left-end c.self.inside.slots.items c.self.inside.pool.nodes c.self.inside.bits _ _ _ _ c.self.invariant (omega (arith, c.if-self-lt-NODE_LIMIT.false)) c.in_err-index.ensures.none in
    rw (c.from_residual.ensures, ← c.self.view_is) (none, none)

pub take-link-requires : goal.take-link-requires
take-link-requires g c = Left-filled c.self.inside.slots.items c.self.inside.pool.nodes c.self.inside.bits _ _ _ _ c.self.invariant c.in_ok-index.index _ c.in_ok-index.ensures.some c.index_mut.ensures.value

pub invariant_of-self-2 : goal.invariant_of-self-2
invariant_of-self-2 g c = rw c.take-link.ensures.node (slot g (goal.at.invariant_of-self-2 g c).After-take-link).are

pub returns : goal.returns
returns g c = rw (← c.self.view_is, c.take-link.ensures.node) (slot g (goal.at.returns g c).After-take-link).pairs
