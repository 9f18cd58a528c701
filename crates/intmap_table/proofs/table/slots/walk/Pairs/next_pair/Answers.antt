use Rattle.std.proofs.Common.{rules, ◌∷◌}
use Rattle.intmap_table.specs.Tables.Nodes.{IsWalk}
use Rattle.intmap_table.proofs.Nodes.WalkLemmas.{IsStep, Walk-node, Walk-end, Walk-within, Walk-filled, Walk-slot}
use Rattle.intmap_table.proofs.table.slots.walk.Pairs.next_pair.Goals as goal
use Rattle.intmap_table.proofs.table.slots.walk.Pairs.next_pair.Goals.{In-Some, In-Some-next, In-Some-get}

-- the next pair is that of a node
node : (g : _) (c : In-Some g) → IsStep c.self.inside.slots.now c.self.inside.pool.now.nodes c.self.inside.link c.self.inside.filled c.in-Some.pair.now c.in-Some.next c.self.inside.filled
node g c = Walk-node c.self.inside.slots.now c.self.inside.pool.now.nodes c.self.inside.link c.self.inside.filled c.in-Some.next c.in-Some.pair.now c.self.invariant c.in-Some.ensures.some

-- a slot is left
left : (g : _) (c : In-Some-next g) → IsWalk c.self.inside.slots.now c.self.inside.pool.now.nodes c.self.inside.link (c.in-Some-next.index ∷ c.next.new.self)
left g c = rw c.in-Some-next.ensures.steps at c.self.invariant

-- the next pair is the first one of that slot
slot : (g : _) (c : In-Some-get g) → IsWalk c.self.inside.slots.now c.self.inside.pool.now.nodes c.self.inside.link (c.in-Some-next.index ∷ c.next.new.self)
    → IsStep c.self.inside.slots.now c.self.inside.pool.now.nodes c.self.inside.link (c.in-Some-next.index ∷ c.next.new.self) c.in-Some-get.first.now c.in-Some-get.next c.next.new.self
slot g c w =
    Walk-slot c.self.inside.slots.now c.self.inside.pool.now.nodes c.self.inside.link c.in-Some-next.index c.next.new.self c.index-self-index.result c.in-Some-get.next c.in-Some-get.first.now w c.in_default.ensures.none
    c.in-Some-get.ensures.some

pub invariant_of-self : goal.invariant_of-self
invariant_of-self g c = (node g (goal.at.invariant_of-self g c).In-Some).is

pub returns-in-Some : goal.returns-in-Some
returns-in-Some g c = rw (← c.self.view_is) (node g (goal.at.returns-in-Some g c).In-Some).pairs

pub returns-in_default-next : goal.returns-in_default-next
returns-in_default-next g c =
    let done = c.in_default-next.ensures.steps in
    let none = Walk-end c.self.inside.slots.now c.self.inside.pool.now.nodes c.self.inside.link (rw done.0 at c.self.invariant) c.in_default.ensures.none in
    (rw (← c.self.view_is, done.0) none, rw done.1 none)

pub offset_bounds-self-inside-index : goal.offset_bounds-self-inside-index
offset_bounds-self-inside-index g c =
    let within = Walk-within c.self.inside.slots.now c.self.inside.pool.now.nodes c.self.inside.link c.in-Some-next.index c.next.new.self (left g (goal.at.offset_bounds-self-inside-index g c).In-Some-next) in
    search rules

pub bounds-self-inside-index : goal.bounds-self-inside-index
bounds-self-inside-index g c =
    Walk-within c.self.inside.slots.now c.self.inside.pool.now.nodes c.self.inside.link c.in-Some-next.index c.next.new.self (left g (goal.at.bounds-self-inside-index g c).In-Some-next)

pub unreachable-requires : goal.unreachable-requires
unreachable-requires g c =
    let free = c.in_default-get.ensures.none in
    Walk-filled c.self.inside.slots.now c.self.inside.pool.now.nodes c.self.inside.link c.in-Some-next.index c.next.new.self c.index-self-index.result free.0
    (left g (goal.at.unreachable-requires g c).In-Some-next) free.1

pub invariant_of-self-2 : goal.invariant_of-self-2
invariant_of-self-2 g c = (slot g (goal.at.invariant_of-self-2 g c).In-Some-get (left g (goal.at.invariant_of-self-2 g c).In-Some-next)).is

pub returns : goal.returns
returns g c =
    let step = slot g (goal.at.returns g c).In-Some-get (left g (goal.at.returns g c).In-Some-next) in
    rw (← c.self.view_is, c.in-Some-next.ensures.steps) step.pairs
