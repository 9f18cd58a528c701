use Rattle.std.proofs.Common.{length, ◌≡◌, ◌+◌}
use Rattle.intmap_table.specs.Walk.{slot_of}
use Rattle.intmap_table.specs.Tables.Nodes.{chain_of, IsChain}
use Rattle.intmap_table.proofs.table.slots.grow.any_goes_to.Given as goal

-- the link leads through what is left, and none of those before goes to the slot
abbrev pub invariant-loop-next : goal.invariant-loop-next
invariant-loop-next g l = record {
  leads : IsChain l.pool.nodes l.link;
  left : slot_of g.K.IntKey.number_of (chain_of l.pool.nodes l.from) (l.mask + 1) l.target ≡ slot_of g.K.IntKey.number_of (chain_of l.pool.nodes l.link) (l.mask + 1) l.target;
}

abbrev pub decreases-loop-next : goal.decreases-loop-next
decreases-loop-next g l = length (chain_of l.pool.nodes l.link)
